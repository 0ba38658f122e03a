-- What is known while a row of readings is folded, and what follows of each channel.
use Rattle.std.proofs.Common.{◌≡◌, ℕ, ◌^◌, ◌<◌, Option, Some, None, List, length, get_or, refl, ℤ, pos, ◌+ℤ◌, ◌-ℤ◌, ◌*ℤ◌, neg_ℤ, ◌≤ℤ◌, sym, ap, ◌∙◌, subst, arith, w64, SFits, to_z, of_z, Iter}
use Rattle.std.proofs.lemmas.Int.{to_z-of_z}
use Rattle.std.proofs.lemmas.List.FromFn.{length-map-range_with_len, get_or-map-range_with_len}
use Rattle.std.specs.Int.{int_div_euclid}
use Rattle.std.proofs.iter.Yields.{fronts}
use Rattle.std.proofs.lemmas.Iterator.{zips}
use Rattle.std.specs.Iterator.{Yields}
use Rattle.std.specs.Iterator.Adapters.{zip_first, zip_second}
use Rattle.std.specs.Slice.Iter.{iter_rest}
use Rattle.std.specs.declared.iter.Zip.{Zip}
use denote.Ref.{Bor}
use Rattle.residues.proofs.Ring.{lin}
use Rattle.settings.specs.Settings.{Accepted, modulus_at}
use Rattle.unfolding.specs.Channels.{by_channel, Moderate}
use Rattle.unfolding.specs.Digits.{Agreeing}
use Rattle.unfolding.specs.Folds.{quotient_at}
use Rattle.unfolding.specs.declared.kept.Folding.{Folding}
use Rattle.unfolding.specs.Folded.{Folded}
use Rattle.unfolding.specs.Told.{quotients_of, folds_of, unfolded_of}
use Rattle.unfolding.proofs.Agreed.{apart}
use Rattle.unfolding.proofs.Rows.{pairs_turn, pairs_end}
use Rattle.unfolding.proofs.Turning.{turns_of}
use Rattle.unfolding.proofs.Fitting.{FromTo, quotient_fits, units_few, fold_fits}

-- the units y agree with the quotients of readings that the machine has, and a loop begins at s
pub record Known (u : ℕ) (gs rs : List ℕ) (y : ℕ) (s : Zip (Zip (Iter ℕ) (Iter ℕ)) (Zip (Iter ℤ) (Iter ℕ))) : Type 0 where
  pub accepted : Accepted u gs
  pub small : (k : ℕ) → get_or rs k 0 < 2 ^ 32
  pub units_agree : Agreeing gs (by_channel (length gs) (quotient_at u rs)) y
  pub each : length rs ≡ length gs
  -- over the factors, moduli, quotients and readings
  pub factors_are : iter_rest (zip_first (zip_first s)) ≡ gs
  pub moduli_each : length (iter_rest (zip_second (zip_first s))) ≡ length gs
  pub moduli_are : (k : ℕ) → k < length gs → get_or (iter_rest (zip_second (zip_first s))) k 0 ≡ modulus_at u gs k
  pub quotients_are : iter_rest (zip_first (zip_second s)) ≡ by_channel (length gs) (quotient_at u rs)
  pub readings_are : iter_rest (zip_second (zip_second s)) ≡ rs

-- a turn of it is at channel n
pub record Here (u : ℕ) (gs rs : List ℕ) (n factor modulus : ℕ) (quotient : ℤ) (reading : ℕ) : Type 0 where
  pub in_row : n < length gs
  pub factor_is : factor ≡ get_or gs n 0
  pub modulus_is : modulus ≡ modulus_at u gs n
  pub quotient_is : quotient ≡ quotient_at u rs n
  pub reading_is : reading ≡ get_or rs n 0

-- how often channel k has folded, where the units are y, and its reading with the folds put back
abbrev pub turns_at : (u : ℕ) (gs rs : List ℕ) (y k : ℕ) → ℤ
turns_at u gs rs y k = int_div_euclid (pos y -ℤ quotient_at u rs k) (pos (get_or gs k 0))

abbrev pub put_back : (u : ℕ) (gs rs : List ℕ) (y k : ℕ) → ℤ
put_back u gs rs y k = turns_at u gs rs y k *ℤ pos (modulus_at u gs k) +ℤ pos (get_or rs k 0)

-- numbers by channel that are all moderate
moderate_of : (f : ℕ → ℤ) (n : ℕ) (xs : List ℤ) → xs ≡ by_channel n f → ((k : ℕ) → k < n → FromTo (2 ^ 42) (f k)) → Moderate xs
moderate_of f n xs e within k h =
    let l : k < n = omega (arith, ap length e, length-map-range_with_len f 0 n) in
    subst (FromTo (2 ^ 42)) (sym (ap (λ l. get_or l k (pos 0)) e ∙ get_or-map-range_with_len f 0 n k k (pos 0) l (omega arith))) (within k l)

pub quotient_is : (u : ℕ) (gs rs : List ℕ) (k : ℕ) → k < length gs → get_or (by_channel (length gs) (quotient_at u rs)) k (pos 0) ≡ quotient_at u rs k
quotient_is u gs rs k h = get_or-map-range_with_len (quotient_at u rs) 0 (length gs) k k (pos 0) h (omega arith)

module _ (u : ℕ) (gs rs : List ℕ) (y : ℕ) (s : Zip (Zip (Iter ℕ) (Iter ℕ)) (Zip (Iter ℤ) (Iter ℕ))) (n : Known u gs rs y s) where
  module _ (t v : Zip (Zip (Iter ℕ) (Iter ℕ)) (Zip (Iter ℤ) (Iter ℕ))) (so_far : List ((Bor ℕ × Bor ℕ) × (Bor ℤ × Bor ℕ))) (r : Option ((Bor ℕ × Bor ℕ) × (Bor ℤ × Bor ℕ)))
      (gave : Yields (zips (zips fronts fronts) (zips fronts fronts)) s so_far t) (step : zips (zips fronts fronts) (zips fronts fronts) t r v) where
    pub at_turn : {f m : Bor ℕ} {q : Bor ℤ} {x : Bor ℕ} → r ≡ Some ((f, m), (q, x)) → Here u gs rs (length so_far) f.now m.now q.now x.now
    at_turn is =
        let k : ℕ = length so_far in
        let (a, b) = pairs_turn gs (iter_rest (zip_second (zip_first s))) (by_channel (length gs) (quotient_at u rs)) rs s t v so_far r n.factors_are refl n.quotients_are n.readings_are gave step is in
        record {
          in_row = a.in_first;
          factor_is = a.first_is 0;
          modulus_is = a.second_is 0 ∙ n.moduli_are k a.in_first;
          quotient_is = b.first_is (pos 0) ∙ quotient_is u gs rs k a.in_first;
          reading_is = b.second_is 0;
        }

    pub at_end : r ≡ None → length so_far ≡ length gs
    at_end is =
        pairs_end gs (iter_rest (zip_second (zip_first s))) (by_channel (length gs) (quotient_at u rs)) rs s t v so_far r n.factors_are refl n.quotients_are n.readings_are gave step is
        (length gs) refl n.moduli_each (length-map-range_with_len (quotient_at u rs) 0 (length gs)) n.each

  pub quotient_small : (k : ℕ) → FromTo (2 ^ 40) (quotient_at u rs k)
  quotient_small = quotient_fits u rs n.accepted.unit_fits.0 n.accepted.unit_fits.1 n.small

  pub units_small : y < 2 ^ 40
  units_small = units_few u gs rs n.accepted n.small (by_channel (length gs) (quotient_at u rs)) y (quotient_is u gs rs) n.units_agree

  -- an unfolded reading's part from its folds
  pub turns_fit : (k : ℕ) → k < length gs → FromTo (2 ^ 41) (turns_at u gs rs y k *ℤ pos (modulus_at u gs k))
  turns_fit k h =
      subst (λ q. FromTo (2 ^ 41) (int_div_euclid (pos y -ℤ q) (pos (get_or gs k 0)) *ℤ pos (modulus_at u gs k))) (quotient_is u gs rs k h)
      (fold_fits u gs rs n.accepted n.small (by_channel (length gs) (quotient_at u rs)) y (quotient_is u gs rs) n.units_agree k h)

  pub folded : (f : Folding) → quotients_of f ≡ by_channel (length gs) (quotient_at u rs) → folds_of f ≡ by_channel (length gs) (turns_at u gs rs y) → unfolded_of f ≡ by_channel (length gs) (put_back u gs rs y) → Folded u gs rs f
  folded f quotients folds unfolded =
      let (m, e, t) = turns_of u gs rs (apart u gs n.accepted) (by_channel (length gs) (quotient_at u rs)) y (quotient_is u gs rs) n.units_agree in
      record {
        first_folds = m;
        turns = t;
        quotients_are = quotients;
        folds_are = folds ∙ ap (λ x. by_channel (length gs) (turns_at u gs rs x)) e;
        unfolded_are = unfolded ∙ ap (λ x. by_channel (length gs) (put_back u gs rs x)) e;
        moderate = moderate_of (put_back u gs rs y) (length gs) (unfolded_of f) unfolded (λ k h. sum (turns_at u gs rs y k *ℤ pos (modulus_at u gs k)) (get_or rs k 0) (turns_fit k h) (n.small k));
      }
    where
      sum : (z : ℤ) (r : ℕ) → FromTo (2 ^ 41) z → r < 2 ^ 32 → FromTo (2 ^ 42) (z +ℤ pos r)
      sum z r (l, h) s = (omega (arith, lin), omega (arith, lin))

-- what the code answers, of numbers that went to bits and back
pub turns_read : (y g g' : ℕ) (q q' r : ℤ) → SFits w64 q → q ≡ q' → g ≡ g' → r ≡ int_div_euclid (pos y -ℤ to_z w64 (of_z w64 q)) (pos g) → r ≡ int_div_euclid (pos y -ℤ q') (pos g')
turns_read y g g' q q' r fits e f is = is ∙ ap (λ z. int_div_euclid (pos y -ℤ z) (pos g)) (to_z-of_z w64 q fits ∙ e) ∙ ap (λ m. int_div_euclid (pos y -ℤ q') (pos m)) f

pub reading_read : (m m' x x' : ℕ) (t s r : ℤ) → SFits w64 t → t ≡ s → m ≡ m' → x ≡ x' → r ≡ to_z w64 (of_z w64 t) *ℤ pos m +ℤ pos x → r ≡ s *ℤ pos m' +ℤ pos x'
reading_read m m' x x' t s r fits e f g is = is ∙ ap (λ z. z *ℤ pos m +ℤ pos x) (to_z-of_z w64 t fits ∙ e) ∙ ap (λ n. s *ℤ pos n +ℤ pos x) f ∙ ap (λ n. s *ℤ pos m' +ℤ pos n) g

pub product_read : (m m' : ℕ) (t s : ℤ) → SFits w64 t → t ≡ s → m ≡ m' → FromTo (2 ^ 41) (s *ℤ pos m') → FromTo (2 ^ 60) (to_z w64 (of_z w64 t) *ℤ pos m)
product_read m m' t s fits e f (l, h) =
    wider (to_z w64 (of_z w64 t) *ℤ pos m) (s *ℤ pos m') (ap (λ z. z *ℤ pos m) (to_z-of_z w64 t fits ∙ e) ∙ ap (λ n. s *ℤ pos n) f) l h
  where
    wider : (z s : ℤ) → z ≡ s → neg_ℤ (pos (2 ^ 41)) ≤ℤ s → s ≤ℤ pos (2 ^ 41) → FromTo (2 ^ 60) z
    wider z s e l h = (omega (arith, lin), omega (arith, lin))
