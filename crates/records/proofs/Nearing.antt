-- What one turn of the narrowing keeps, and that it brings the bounds nearer.
use Rattle.std.proofs.Common.{◌≡◌, ℕ, ◌-◌, ◌/◌, ◌<◌, ◌≤◌, Bool, true, false, List, length, get_or, Some, None, count_by, Option, All, slice_get, sym, refl, ap, ◌∙◌, subst, ⊎_elim, arith}
use Rattle.std.proofs.lemmas.Bool.{cases_Bool, cases_lt}
use Rattle.std.proofs.lemmas.Option.{slice_get_within, get_or_from_slice_get}
use Rattle.records.specs.Orders.{Total}
use Rattle.records.specs.Middles.{Central, FirstCentral}
use Rattle.records.specs.Bounds.{Holds, above_bound, below_bound, between, FirstEqual}
use Rattle.records.proofs.Centres.{Up, Down, across, apart, alike, high_falls, low_falls, some_between}

module _ {K : Type 0} (lesser : K → K → Bool) (o : Total lesser) (xs : List K) where
  up_of : (b : Option K) → Up lesser o (above_bound lesser b)
  up_of None y z a h = refl
  up_of (Some x) y z a h = across lesser o x y z h a

  down_of : (b : Option K) → Down lesser o (below_bound lesser b)
  down_of None y z a h = refl
  down_of (Some x) y z a h = across lesser o y z x a h

  -- an item that is picked may be a bound
  pub holds : (p : ℕ) (x : K) → slice_get xs p ≡ Some x → Holds xs (Some x)
  holds p x g = (p, slice_get_within xs p x g, get_or_from_slice_get xs p x x g)

  pub nearer_low : (low high : Option K) (p : ℕ) (x : K) → slice_get xs p ≡ Some x → between lesser low high x ≡ true
      → count_by (between lesser (Some x) high) xs < count_by (between lesser low high) xs
  nearer_low low high p x g h =
      let e : get_or xs p x ≡ x = get_or_from_slice_get xs p x x g in
      subst (λ (v : K). count_by (between lesser (Some v) high) xs < count_by (between lesser low high) xs) e
      (low_falls lesser o (above_bound lesser low) (below_bound lesser high) (up_of low) xs p x (slice_get_within xs p x g) (ap (between lesser low high) e ∙ h))

  pub nearer_high : (low high : Option K) (p : ℕ) (x : K) → slice_get xs p ≡ Some x → between lesser low high x ≡ true
      → count_by (between lesser low (Some x)) xs < count_by (between lesser low high) xs
  nearer_high low high p x g h =
      let e : get_or xs p x ≡ x = get_or_from_slice_get xs p x x g in
      subst (λ (v : K). count_by (between lesser low (Some v)) xs < count_by (between lesser low high) xs) e
      (high_falls lesser o (above_bound lesser low) (below_bound lesser high) (down_of high) xs p x (slice_get_within xs p x g) (ap (between lesser low high) e ∙ h))

  -- nothing stands between the bounds only where there is nothing
  pub no_items : (low high : Option K) → (0 < length xs → (length xs / 2 < count_by (above_bound lesser low) xs) × ((length xs - 1) / 2 < count_by (below_bound lesser high) xs))
      → All (λ x. between lesser low high x ≡ false) xs → length xs ≡ 0
  no_items low high many none =
      ⊎_elim
      (λ (h : 0 < length xs). absurd (some_between lesser o (above_bound lesser low) (below_bound lesser high) xs (many h).0 (many h).1 none))
      (λ (h : length xs ≤ 0). omega arith)
      (cases_lt 0 (length xs))

  -- the first item equal to a central one is the first central one
  pub first_of : (p i : ℕ) (x : K) → slice_get xs p ≡ Some x → Central lesser xs x → FirstEqual lesser xs p i → FirstCentral lesser xs i
  first_of p i x g c f =
      let cp : (d : K) → Central lesser xs (get_or xs p d) = λ d. subst (λ v. Central lesser xs v) (sym (get_or_from_slice_get xs p x d g)) c in
      let l : p < length xs = slice_get_within xs p x g in
      record {
        within = omega (arith, f.upto);
        central = λ d. alike lesser o xs (get_or xs p d) (get_or xs i d) (f.no_greater d) (f.no_less d) (cp d);
        first = λ j d h cj. f.first j d h
            (⊎_elim (λ t. absurd (apart lesser o xs (get_or xs j d) (get_or xs p d) (omega arith) t cj (cp d))) (λ n. n) (cases_Bool (lesser (get_or xs j d) (get_or xs p d))))
            (⊎_elim (λ t. absurd (apart lesser o xs (get_or xs p d) (get_or xs j d) (omega arith) t (cp d) cj)) (λ n. n) (cases_Bool (lesser (get_or xs p d) (get_or xs j d))));
      }
