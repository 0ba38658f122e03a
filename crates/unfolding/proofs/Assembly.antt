-- From the code's numbers to what is promised of an unfolding.
use Rattle.std.proofs.Common.{◌≡◌, ℕ, zero, suc, ◌*◌, ◌<◌, List, length, get_or, ℤ, pos, ◌+ℤ◌, ◌-ℤ◌, ◌*ℤ◌, ◌≤ℤ◌, ◌<ℤ◌, sym, refl, ap, ◌∙◌, subst, arith}
use Rattle.std.proofs.lemmas.List.FromFn.{length-map-range_with_len, get_or-map-range_with_len}
use Rattle.std.specs.Int.{int_div_euclid}
use Rattle.residues.specs.Circle.{◌modulo◌}
use Rattle.settings.specs.Settings.{Accepted, modulus_at, range_of}
use Rattle.unfolding.specs.declared.kept.Folding.{Folding}
use Rattle.unfolding.specs.declared.kept.Unfolding.{Unfolding}
use Rattle.unfolding.specs.declared.refusals.UnfoldRefusal.{UnfoldRefusal}
use Rattle.unfolding.specs.declared.refusals.UnfoldRefusal.TheVariants.{Readings, Bounds, WideBound, Wild, Contradictory}
use Rattle.unfolding.specs.Told.{quotients_of, folds_of, unfolded_of}
use Rattle.unfolding.specs.Channels.{by_channel, total, GreatestAt, LeastAt, Moderate}
use Rattle.unfolding.specs.Ends.{begins_at, ends_at, Crossed}
use Rattle.unfolding.specs.Folds.{unfolded_at, FoldsWell}
use Rattle.unfolding.specs.Folded.{Folded}
use Rattle.unfolding.specs.Brackets.{Allowed, Exact, MeanNear, low_at, high_at, rounded_mean}
use Rattle.unfolding.specs.Refusals.{AllFine, UnfoldRefused}
use Rattle.unfolding.specs.Unfolds.{Unfolds}
use Rattle.unfolding.proofs.Robustness.{robust}
use Rattle.unfolding.proofs.Bracketing.{none, narrow_enough, exact, mean_near}
use Rattle.unfolding.proofs.Agreed.{apart}
use Rattle.unfolding.proofs.Turning.{folds_well}

-- equal numbers have the same extremes and sums
pub greatest_same : (n : ℕ) (f g : ℕ → ℤ) (x : ℤ) (k : ℕ) → ((i : ℕ) → i < n → f i ≡ g i) → GreatestAt n f x k → GreatestAt n g x k
greatest_same n f g x k e h = record {
  within = h.within;
  gives = sym (e k h.within) ∙ h.gives;
  most = λ i l. subst (λ z. z ≤ℤ x) (e i l) (h.most i l);
  lowest = λ i l. subst (λ z. z <ℤ x) (e i (omega (arith, h.within))) (h.lowest i l);
}

pub least_same : (n : ℕ) (f g : ℕ → ℤ) (x : ℤ) (k : ℕ) → ((i : ℕ) → i < n → f i ≡ g i) → LeastAt n f x k → LeastAt n g x k
least_same n f g x k e h = record {
  within = h.within;
  gives = sym (e k h.within) ∙ h.gives;
  least = λ i l. subst (λ z. x ≤ℤ z) (e i l) (h.least i l);
  lowest = λ i l. subst (λ z. x <ℤ z) (e i (omega (arith, h.within))) (h.lowest i l);
}

pub total_same : (n : ℕ) (f g : ℕ → ℤ) → ((i : ℕ) → i < n → f i ≡ g i) → total n f ≡ total n g
total_same zero f g e = refl
total_same (suc n) f g e = ap (λ z. z +ℤ f n) (total_same n f g (λ i h. e i (omega arith))) ∙ ap (λ z. total n g +ℤ z) (e n (omega arith))

module _ (u : ℕ) (gs rs ts : List ℕ) (a : Accepted u gs) (fine : AllFine u gs rs ts) (f : Folding) (d : Folded u gs rs f) where
  pub tame : (k : ℕ) → k < length gs → get_or rs k 0 < modulus_at u gs k
  tame k h = (fine.fine k h).tame

  pub well : FoldsWell u gs rs d.first_folds
  well = folds_well u gs rs (apart u gs a) d.first_folds d.turns tame

  module _ (cs : List ℤ) (cut : cs ≡ unfolded_of f) where
    is : cs ≡ by_channel (length gs) (unfolded_at u gs rs d.first_folds)
    is = cut ∙ d.unfolded_are

    pub counted : length cs ≡ length gs
    counted = ap length is ∙ length-map-range_with_len (unfolded_at u gs rs d.first_folds) 0 (length gs)

    pub paired : length ts ≡ length cs
    paired = fine.paired.bounds_paired ∙ sym counted

    pub reading_is : (k : ℕ) → k < length gs → get_or cs k (pos 0) ≡ unfolded_at u gs rs d.first_folds k
    reading_is k h = ap (λ xs. get_or xs k (pos 0)) is ∙ get_or-map-range_with_len (unfolded_at u gs rs d.first_folds) 0 (length gs) k k (pos 0) h (omega arith)

    pub moderate : Moderate cs
    moderate = subst Moderate (sym cut) d.moderate

    lo_at : (x : ℤ) (k : ℕ) → GreatestAt (length cs) (begins_at cs ts) x k → GreatestAt (length gs) (low_at u gs rs ts d.first_folds) x k
    lo_at x k g = greatest_same (length gs) (begins_at cs ts) (low_at u gs rs ts d.first_folds) x k (λ i h. ap (λ z. z -ℤ pos (get_or ts i 0)) (reading_is i h))
        (subst (λ n. GreatestAt n (begins_at cs ts) x k) counted g)

    hi_at : (x : ℤ) (k : ℕ) → LeastAt (length cs) (ends_at cs ts) x k → LeastAt (length gs) (high_at u gs rs ts d.first_folds) x k
    hi_at x k g = least_same (length gs) (ends_at cs ts) (high_at u gs rs ts d.first_folds) x k (λ i h. ap (λ z. z +ℤ pos (get_or ts i 0)) (reading_is i h))
        (subst (λ n. LeastAt n (ends_at cs ts) x k) counted g)

    pub mean_is : int_div_euclid (pos 2 *ℤ total (length cs) (λ k. get_or cs k (pos 0)) +ℤ pos (length cs)) (pos (2 * length cs)) ≡ rounded_mean u gs rs d.first_folds
    mean_is =
        ap (λ n. int_div_euclid (pos 2 *ℤ total n (λ k. get_or cs k (pos 0)) +ℤ pos n) (pos (2 * n))) counted
        ∙ ap (λ z. int_div_euclid (pos 2 *ℤ z +ℤ pos (length gs)) (pos (2 * length gs))) (total_same (length gs) (λ k. get_or cs k (pos 0)) (unfolded_at u gs rs d.first_folds) reading_is)

    pub contradicted : (lo hi : ℤ) → hi <ℤ lo → (e : UnfoldRefusal) → Crossed cs ts lo hi e → UnfoldRefused u gs rs ts e
    contradicted lo hi over (Contradictory k x l) (g, h, e) =
        let g' = lo_at lo k g in
        let h' = hi_at hi l h in
        record {
          checked = fine;
          n = d.first_folds;
          folds_well = well;
          lo = lo;
          hi = hi;
          lo_at = g';
          hi_at = h';
          exceeds = over;
          excess_is = e;
          none = none u gs rs ts a d.first_folds d.turns (λ i m. (fine.fine i m).narrow) lo hi k l g' h' over;
        }
    contradicted lo hi over (Readings c k) x = absurd x
    contradicted lo hi over (Bounds c k) x = absurd x
    contradicted lo hi over (WideBound k y m) x = absurd x
    contradicted lo hi over (Wild k r m) x = absurd x

    pub unfolds : (w : Unfolding) → w.folding ≡ f
        → ((k : ℕ) × GreatestAt (length cs) (begins_at cs ts) w.ends.0 k) → ((k : ℕ) × LeastAt (length cs) (ends_at cs ts) w.ends.1 k) → w.ends.0 ≤ℤ w.ends.1
        → w.start ≡ w.ends.0 modulo range_of u gs → pos w.count ≡ w.ends.1 -ℤ w.ends.0 +ℤ pos 1
        → w.mean ≡ int_div_euclid (pos 2 *ℤ total (length cs) (λ k. get_or cs k (pos 0)) +ℤ pos (length cs)) (pos (2 * length cs)) modulo range_of u gs
        → Unfolds u gs rs ts w
    unfolds w same (k, lo) (l, hi) order start count mean =
        let n = d.first_folds in
        let g = lo_at w.ends.0 k lo in
        let h = hi_at w.ends.1 l hi in
        let narrow : (i : ℕ) → i < length gs → 4 * get_or ts i 0 < u = λ i m. (fine.fine i m).narrow in
        let mean' : w.mean ≡ rounded_mean u gs rs n modulo range_of u gs = mean ∙ ap (λ z. z modulo range_of u gs) mean_is in
        record {
          checked = fine;
          n = n;
          quotients_are = ap quotients_of same ∙ d.quotients_are;
          folds_well = well;
          folds_are = ap folds_of same ∙ d.folds_are;
          unfolded_are = ap unfolded_of same ∙ d.unfolded_are;
          robust = robust u gs rs (apart u gs a) n d.turns;
          lo_channel = k;
          lo_is = g;
          hi_channel = l;
          hi_is = h;
          in_order = order;
          start_is = start;
          count_is = count;
          mean_is = mean';
          narrow = narrow_enough u gs rs ts a n d.turns narrow w.ends.0 w.ends.1 k l g h w.count order count;
          exact = subst (λ z. Exact (range_of u gs) z w.count (Allowed u gs rs ts)) (sym start) (exact u gs rs ts a n d.turns narrow w.ends.0 w.ends.1 k l g h w.count order count);
          mean_near = subst (λ z. MeanNear (range_of u gs) z w.count w.mean ts) (sym start)
              (subst (λ z. MeanNear (range_of u gs) (w.ends.0 modulo range_of u gs) w.count z ts) (sym mean')
              (mean_near u gs rs ts a n d.turns narrow w.ends.0 w.ends.1 k l g h w.count order count fine.paired.bounds_paired));
        }
