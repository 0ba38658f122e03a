-- A text is cut at its first line feed.
use Rattle.std.proofs.Common.{◌≡◌, ℕ, suc, ◌+◌, ◌<◌, ◌≤◌, Bool, true, false, not, nat_lt, cond, List, [], ◌∷◌, Some, None, length, take, drop, position, Bor, Option, ◌⊎◌, inl, inr, refl, sym, ap, ◌∙◌, arith, ◌==◌}
use Rattle.std.proofs.lemmas.Bool.Decides.{nat_tests}
use Rattle.std.proofs.lemmas.List.{drop_all, take_rest}
use Rattle.std.proofs.lemmas.List.Sums.{prefix_len-le-length}
use Rattle.std.specs.List.{position_or_len}
use Rattle.std.specs.Option.{unwrap_or}
use Rattle.std.specs.Slice.{IsGetRangeResult}
use Rattle.sheets.specs.Whole.{begun, lines_of}

abbrev pub is_feed : ℕ → Bool
is_feed b = b == 10

end_is : (n m : ℕ) → n ≤ m → unwrap_or (cond (nat_lt n m) (Some n) None) m ≡ n
end_is n m le = grind (arith, nat_tests)

-- where the first line feed is, or the end
pub first_feed : (bs : List ℕ) → unwrap_or (position is_feed bs) (length bs) ≡ position_or_len is_feed bs
first_feed bs = end_is _ _ (prefix_len-le-length (λ b. not (is_feed b)) bs)

module _ (b c : ℕ) (cs : List ℕ) (more : lines_of (c ∷ cs) ≡ take (position_or_len is_feed (c ∷ cs)) (c ∷ cs) ∷ lines_of (drop (suc (position_or_len is_feed (c ∷ cs))) (c ∷ cs))) where
  goes_on : is_feed b ≡ false → lines_of (b ∷ c ∷ cs) ≡ (b ∷ take (position_or_len is_feed (c ∷ cs)) (c ∷ cs)) ∷ lines_of (drop (suc (position_or_len is_feed (c ∷ cs))) (c ∷ cs))
  goes_on e = ap (λ t. cond t ([] ∷ lines_of (c ∷ cs)) (begun b (lines_of (c ∷ cs)))) e ∙ ap (begun b) more

  ends : is_feed b ≡ true → lines_of (b ∷ c ∷ cs) ≡ [] ∷ lines_of (c ∷ cs)
  ends e = ap (λ t. cond t ([] ∷ lines_of (c ∷ cs)) (begun b (lines_of (c ∷ cs)))) e

  here : (t : Bool) → is_feed b ≡ t → (n : ℕ) → n ≡ cond t 0 (suc (position_or_len is_feed (c ∷ cs))) → lines_of (b ∷ c ∷ cs) ≡ take n (b ∷ c ∷ cs) ∷ lines_of (drop (suc n) (b ∷ c ∷ cs))
  here true e n is = rw is (ends e)
  here false e n is = rw is (goes_on e)

single : (b : ℕ) (t : Bool) → is_feed b ≡ t → (n : ℕ) → n ≡ cond t 0 1 → lines_of (b ∷ []) ≡ take n (b ∷ []) ∷ lines_of (drop (suc n) (b ∷ []))
single b true e n is = rw is (rw e refl)
single b false e n is = rw is (rw e refl)

place : (b : ℕ) (bs : List ℕ) (t : Bool) → is_feed b ≡ t → position_or_len is_feed (b ∷ bs) ≡ cond t 0 (suc (position_or_len is_feed bs))
place b bs true e = rw e refl
place b bs false e = rw e (omega arith)

cut : (bs : List ℕ) (n : ℕ) → 0 < length bs → n ≡ position_or_len is_feed bs → lines_of bs ≡ take n bs ∷ lines_of (drop (suc n) bs)
cut [] n some is = absurd (omega arith)
cut (b ∷ []) n some is = single b (is_feed b) refl n (is ∙ place b [] (is_feed b) refl)
cut (b ∷ c ∷ cs) n some is = here b c cs (cut (c ∷ cs) _ (omega arith) refl) (is_feed b) refl n (is ∙ place b (c ∷ cs) (is_feed b) refl)

-- the first line and those after it
pub line_cut : (bs : List ℕ) (n : ℕ) → 0 < length bs → n ≡ position_or_len is_feed bs → lines_of bs ≡ take n bs ∷ lines_of (drop (n + 1) bs)
line_cut bs n some is =
    let e : suc n ≡ n + 1 = omega arith in
    cut bs n some is ∙ ap (λ m. take n bs ∷ lines_of (drop m bs)) e

out : (l n : ℕ) → (l < n) ⊎ (l < l) → l ≤ n
out l n (inl a) = omega (arith, a)
out l n (inr a) = omega (arith, a)

-- what stands from n on; past the end that is nothing
pub from_there : (bs : List ℕ) (n : ℕ) (o : Option (Bor (List ℕ))) (d : Bor (List ℕ)) → IsGetRangeResult bs n (length bs) o → d.now ≡ [] → (unwrap_or o d).now ≡ drop n bs
from_there bs n None d got none = none ∙ sym (drop_all n bs (out (length bs) n got.0))
from_there bs n (Some x) d got none = got.0.2 ∙ take_rest bs n
