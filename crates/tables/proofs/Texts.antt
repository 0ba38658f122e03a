-- Values that are written one after another, each after a space. Assumes nothing.
use Rattle.std.proofs.Common.{◌≡◌, ℕ, ◌+◌, ◌<◌, ◌≤◌, List, [], ◌∷◌, ◌++◌, Some, None, Option, IfSome, IsOk, Result, codes, decimal, length, get_or, take, fold, ℤ, sym, refl, ap, ◌∙◌, subst, append_assoc, append-nil}
use Rattle.std.proofs.Output.{has_written_append}
use Rattle.std.proofs.lemmas.List.{take_more, take_all}
use Rattle.std.proofs.lemmas.List.Sums.{fold_push}
use Rattle.std.specs.declared.fmt.Error.{Error}
use Rattle.std.specs.declared.fmt.Formatter.{Formatter}
use Rattle.std.specs.Fmt.{◌++?◌, DisplaysOnOk, HasWritten, IsPlainFormatter, signed_decimal}
use Rattle.tables.specs.Answers.{parts_line, spaced_output, spaced_signed}

module _ {X : Type 0} (text : X → Option (List ℕ)) where
  pub spaced_more : (xs : List X) (i : ℕ) (x : X) → i < length xs → x ≡ get_or xs i x → spaced_output text (take (i + 1) xs) ≡ spaced_output text (take i xs) ++? (Some (32 ∷ []) ++? text x)
  spaced_more xs i x lt is = ap (spaced_output text) (take_more xs i x lt ∙ ap (λ y. take i xs ++ y ∷ []) (sym is)) ∙ fold_push _ _ (take i xs) x

  pub spaced_all : (xs : List X) (i : ℕ) → length xs ≤ i → spaced_output text (take i xs) ≡ spaced_output text xs
  spaced_all xs i le = ap (spaced_output text) (take_all i xs le)

-- a second write after the first
pub writes_both : {W : Type 0} (took : W → List ℕ → W → Type 0) (f g h : Formatter W) (r : Result (Unit {0}) Error) (o p : Option (List ℕ)) → IfSome o (λ bs. HasWritten took f bs g) → DisplaysOnOk took g r p h → IsOk r → IfSome (o ++? p) (λ bs. HasWritten took f bs h)
writes_both took f g h r None p a b ok = tt
writes_both took f g h r (Some s) None a b ok = tt
writes_both took f g h r (Some s) (Some t) a b ok = has_written_append took _ _ _ _ _ a (b a.plain ok)

pub writes_all : {W : Type 0} (took : W → List ℕ → W → Type 0) (f g : Formatter W) (r : Result (Unit {0}) Error) (o p : Option (List ℕ)) → o ≡ p → (IsPlainFormatter f → IfSome o (λ bs. HasWritten took f bs g)) → DisplaysOnOk took f r p g
writes_all took f g r o p e h = subst (λ q. DisplaysOnOk took f r q g) e (by o h)
  where
    by : (o : Option (List ℕ)) → (IsPlainFormatter f → IfSome o (λ bs. HasWritten took f bs g)) → DisplaysOnOk took f r o g
    by None h = tt
    by (Some s) h = λ plain ok. h plain

signed_after : (bs : List ℕ) (zs : List ℤ) → fold (λ o z. o ++? (Some (32 ∷ []) ++? Some (signed_decimal z))) (Some bs) zs ≡ Some (bs ++ spaced_signed zs)
signed_after bs [] = ap Some (sym (append-nil bs))
signed_after bs (z ∷ zs) = signed_after (bs ++ (32 ∷ signed_decimal z)) zs ∙ ap Some (append_assoc bs (32 ∷ signed_decimal z) (spaced_signed zs))

-- the texts of signed numbers are known
pub signed_known : (zs : List ℤ) → spaced_output (λ z. Some (signed_decimal z)) zs ≡ Some (spaced_signed zs)
signed_known zs = signed_after [] zs

-- the text of an unfolding, as it is put together
abbrev pub line_output : List ℤ → List ℤ → ℕ → ℕ → ℕ → Option (List ℕ)
line_output folds unfolded start count mean =
    Some (codes "folds") ++? spaced_output (λ z. Some (signed_decimal z)) folds ++? Some (codes " unfolded") ++? spaced_output (λ z. Some (signed_decimal z)) unfolded ++? Some (codes " start ") ++? Some (decimal start) ++? Some (codes " count ") ++? Some (decimal count) ++? Some (codes " mean ") ++? Some (decimal mean)

parts_known : (folds unfolded : List ℤ) (start count mean : ℕ) → line_output folds unfolded start count mean ≡ Some (parts_line folds unfolded start count mean)
parts_known folds unfolded start count mean = rw (signed_known folds, signed_known unfolded) refl

pub line_known : {W : Type 0} (took : W → List ℕ → W → Type 0) (f g : Formatter W) (r : Result (Unit {0}) Error) (folds unfolded : List ℤ) (start count mean : ℕ) → DisplaysOnOk took f r (line_output folds unfolded start count mean) g → DisplaysOnOk took f r (Some (parts_line folds unfolded start count mean)) g
line_known took f g r folds unfolded start count mean h = subst (λ o. DisplaysOnOk took f r o g) (parts_known folds unfolded start count mean) h
