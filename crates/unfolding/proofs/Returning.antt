-- Remainders with bounds 0 unfold to the position that they are of, and only those do.
use Rattle.std.proofs.Common.{◌≡◌, ℕ, ◌/◌, ◌%◌, ◌<◌, ◌≤◌, List, length, get_or, ℤ, pos, ◌+ℤ◌, ◌-ℤ◌, ◌*ℤ◌, neg_ℤ, ◌≤ℤ◌, Ok, Err, sym, refl, ap, ◌∙◌, subst, mod-lt, mod-eq_of_lt, arith}
use native.Mathlib.Nat.{div-add-mod}
use Rattle.residues.specs.Circle.{Allows}
use Rattle.residues.proofs.Ring.{ring, lin}
use Rattle.residues.proofs.Floor.{modulo_is}
use Rattle.residues.proofs.Congruence.{mod_same}
use Rattle.residues.proofs.Round.{allows_errs, from_error}
use Rattle.settings.specs.Settings.{Accepted, modulus_at, range_of}
use Rattle.settings.proofs.Only.{one_position}
use Rattle.unfolding.specs.declared.kept.Unfolding.{Unfolding}
use Rattle.unfolding.specs.declared.refusals.UnfoldRefusal.{UnfoldRefusal}
use Rattle.unfolding.specs.declared.refusals.UnfoldRefusal.TheVariants.{Readings, Bounds, WideBound, Wild, Contradictory}
use Rattle.unfolding.specs.Brackets.{Allowed, InBracket}
use Rattle.unfolding.specs.Folds.{unfolded_at}
use Rattle.unfolding.specs.Refusals.{UnfoldRefused}
use Rattle.unfolding.specs.Returns.{BoundsZero, RemaindersOf, Found, IsFound}
use Rattle.unfolding.specs.Unfolds.{Unfolds}
use Rattle.unfolding.proofs.Covers.{modulus_pos}

module _ (u : ℕ) (gs rs ts : List ℕ) (a : Accepted u gs) where
  -- a reading with bound 0 that allows p is its remainder
  exactly : (k p : ℕ) → k < length gs → get_or rs k 0 < modulus_at u gs k → get_or ts k 0 ≡ 0 → Allows (modulus_at u gs k) (get_or ts k 0) (get_or rs k 0) (pos p) → get_or rs k 0 ≡ p % modulus_at u gs k
  exactly k p h below none allowed =
      let m : ℕ = modulus_at u gs k in
      let (e, j, f, l, g) = (allows_errs m (get_or ts k 0) (get_or rs k 0) (pos p) (modulus_pos u gs a k h)).0 allowed in
      sym (mod-eq_of_lt below) ∙ mod_same m (get_or rs k 0) p (j, no_error (get_or ts k 0) e (pos (get_or rs k 0)) (pos p) (j *ℤ pos m) none f l g)
    where
      no_error : (t : ℕ) (e r p z : ℤ) → t ≡ 0 → r ≡ p +ℤ e +ℤ z → neg_ℤ (pos t) ≤ℤ e → e ≤ℤ pos t → r ≡ p +ℤ z
      no_error t e r p z n f l g = omega (arith, lin)

  -- a position is allowed by its own remainders
  allowed : (N : ℕ) → RemaindersOf u gs N rs → Allowed u gs rs ts (pos N)
  allowed N rem k h =
      let m : ℕ = modulus_at u gs k in
      from_error m (get_or ts k 0) (pos (get_or rs k 0)) (pos N) (pos 0) (neg_ℤ (pos (N / m))) (modulus_pos u gs a k h)
      (ap pos (rem k h) ∙ turned N m) (omega (arith, lin)) (omega (arith, lin))
    where
      turned : (N m : ℕ) → pos (N % m) ≡ pos N +ℤ pos 0 +ℤ neg_ℤ (pos (N / m)) *ℤ pos m
      turned N m = simp ring (omega (arith, lin, div-add-mod N m))

  pub found : (w : Unfolding) → Unfolds u gs rs ts w → BoundsZero ts → Found u gs rs w
  found w f zero-bounds =
      let o : 0 < length gs = a.counted.0 in
      let paired : length ts ≡ length gs = f.checked.paired.bounds_paired in
      let here : InBracket (range_of u gs) w.start w.count (pos w.start) =
      subst (λ (x : ℕ). x < w.count) (sym (modulo_is (range_of u gs) (pos w.start -ℤ pos w.start) (pos 0) 0 (omega (arith, f.exact.starts)) (omega (arith, lin)))) f.exact.some in
      record {
        alone = one (get_or ts 0 0) w.count (unfolded_at u gs rs f.n 0) w.ends.0 w.ends.1 (zero-bounds 0 (omega arith)) (f.lo_is.most 0 o) (f.hi_is.least 0 o) f.count_is f.exact.some;
        its_remainders = λ k h. exactly k w.start h (f.checked.fine k h).tame (zero-bounds k (omega arith)) ((f.exact.holds w.start f.exact.starts).0 here k h);
      }
    where
      one : (t size : ℕ) (c lo hi : ℤ) → t ≡ 0 → (c -ℤ pos t) ≤ℤ lo → hi ≤ℤ (c +ℤ pos t) → pos size ≡ hi -ℤ lo +ℤ pos 1 → 1 ≤ size → size ≡ 1
      one t size c lo hi n l h e s = omega (arith, lin)

  pub is_found : (w : Unfolding) → Unfolds u gs rs ts w → IsFound u gs rs ts (Ok w)
  is_found w f N below paired zero-bounds rem =
      let g = found w f zero-bounds in
      (w, refl, one_position u gs a w.start N f.exact.starts below (λ k h. sym (g.its_remainders k h) ∙ rem k h), g.alone)

  -- no check refuses exact remainders
  pub not_refused : (e : UnfoldRefusal) → UnfoldRefused u gs rs ts e → IsFound u gs rs ts (Err e)
  not_refused e refused N below paired zero-bounds rem = absurd (never e refused)
    where
      never : (e : UnfoldRefusal) → UnfoldRefused u gs rs ts e → ⊥
      never (Readings c k) (differ, _, _) = differ paired.readings_paired
      never (Bounds c k) (_, differ, _, _) = differ paired.bounds_paired
      never (WideBound k x m) ((_, h, _), wide, _, _) = omega (arith, wide, zero-bounds k (omega (arith, h, paired.bounds_paired)), a.unit_fits.0)
      never (Wild k r m) ((_, h, _), _, wild, _, _) = omega (arith, wild, rem k h, mod-lt N (modulus_pos u gs a k h))
      never (Contradictory k x l) c = c.none N below (allowed N rem)
