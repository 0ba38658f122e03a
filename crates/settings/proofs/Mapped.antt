-- What a closure that stays as it was makes of each element of an array.
use Rattle.std.proofs.Common.{◌≡◌, ℕ, zero, suc, ◌+◌, ◌<◌, ◌≤◌, ◌⊎◌, List, [], ◌∷◌, ◌++◌, length, get_or, sym, ap, ◌∙◌, subst, inl, inr, arith, length-append}
use Rattle.std.proofs.Math.Seq.{get_or-append_seam}
use Rattle.std.proofs.lemmas.Bool.{cases_eq}
use Rattle.std.specs.Array.{MapsFrom, list_steps}
use Rattle.std.specs.Fn.{Called, Mut}
use Rattle.std.specs.Iterator.{CallableAtEachTurn, Yields}
use Rattle.std.specs.List.{FoldsTo}

-- a closure that each call leaves as it was may be called at each element that it takes
split : {A : Type 0} (ys xs t : List A) → Yields list_steps xs ys t → xs ≡ ys ++ t
split [] xs t e = e
split (y ∷ ys) xs t (j, e, rest) = e ∙ ap (λ (zs : List _). y ∷ zs) (split ys j t rest)

module _ {A F : Type 0} (R : F → A → F → Type 0) (Q : F → A → Type 0) (f : F) (same : (x : A) (q : F) → R f x q → q ≡ f) where
  stays : (ys : List A) (q : F) → FoldsTo R f ys q → q ≡ f
  stays [] q e = sym e
  stays (y ∷ ys) q (p, r, rest) = stays ys q (subst (λ (g : F). FoldsTo R g ys q) (same y p r) rest)

  pub serves_list : (xs : List A) → ((x : A) (k : ℕ) → k < length xs → x ≡ get_or xs k x → Q f x) → CallableAtEachTurn list_steps R Q xs f
  serves_list xs takes = record {
    at = λ ys t q x u yields folds step.
        let whole : xs ≡ ys ++ x ∷ u = split ys xs t yields ∙ ap (λ (zs : List A). ys ++ zs) step in
        subst (λ (g : F). Q g x) (sym (stays ys q folds))
        (takes x (length ys) (omega (arith, ap length whole, length-append ys (x ∷ u))) (sym (ap (λ (zs : List A). get_or zs (length ys) x) whole ∙ get_or-append_seam ys x u x)));
  }

module _ {F A B : Type 0} (g : Mut F (A × Unit {0}) B) (f : F) (R : A → B → Type 0) (d : A) (e : B)
    (says : (x : A) (y : B) (q : F) → Called g f (x, tt) y q → R x y × (q ≡ f)) where
  maps_from : (n i : ℕ) (xs : List A) (ys : List B) → MapsFrom g f xs ys i n → (k : ℕ) → i ≤ k → k < i + n → R (get_or xs k d) (get_or ys k e)
  maps_from zero i xs ys m k a b = absurd (omega arith)
  maps_from (suc n) i xs ys (q, x, y, at_x, at_y, called, rest) k a b =
      pick (cases_eq k i) (λ l m p. maps_from n (i + 1) xs ys m k l p)
    where
      is : R x y × (q ≡ f)
      is = says x y q called

      pick : (k ≡ i) ⊎ (k ≡ i → ⊥) → (i + 1 ≤ k → MapsFrom g f xs ys (i + 1) n → k < i + 1 + n → R (get_or xs k d) (get_or ys k e)) → R (get_or xs k d) (get_or ys k e)
      pick (inl here) further =
          subst (λ (j : ℕ). R (get_or xs j d) (get_or ys j e)) (sym here)
          (subst (λ (v : A). R v (get_or ys i e)) (sym (at_x.1 d)) (subst (λ (w : B). R x w) (sym (at_y.1 e)) is.0))
      pick (inr later) further = further (omega arith) (subst (λ (p : F). MapsFrom g p xs ys (i + 1) n) is.1 rest) (omega arith)

  pub mapped : (n : ℕ) (xs : List A) (ys : List B) → MapsFrom g f xs ys 0 n → (k : ℕ) → k < n → R (get_or xs k d) (get_or ys k e)
  mapped n xs ys m k h = maps_from n 0 xs ys m k (omega arith) (omega arith)
