-- From the units that agree with every channel to folding numbers that fold well.
use Rattle.std.proofs.Common.{◌≡◌, ℕ, zero, suc, ◌*◌, ◌<◌, List, length, get_or, ℤ, pos, negsuc, ◌+ℤ◌, ◌-ℤ◌, ◌*ℤ◌, neg_ℤ, ◌≤ℤ◌, ◌<ℤ◌, sym, ap, ◌∙◌, subst, arith}
use native.Mathlib.Nat.{mul-lt-mul_of_pos_left, lt_of_mul-lt-mul_left, eq_of_mul-eq-mul_left}
use Rattle.std.specs.Int.{int_div_euclid}
use Rattle.residues.specs.Circle.{◌modulo◌}
use Rattle.residues.specs.Products.{product}
use Rattle.residues.proofs.Ring.{ring, lin}
use Rattle.residues.proofs.Floor.{split, floor_low, floor_high, floor_is, at_most, rounds}
use Rattle.residues.proofs.Bezout.{Divides, product_divides}
use Rattle.settings.specs.Settings.{modulus_at}
use Rattle.unfolding.specs.Digits.{Agreeing}
use Rattle.unfolding.specs.Folds.{CoprimeChannels, quotient_at, Turns, fold_at, unfolded_at, FoldsWell}

-- with no remainder, z is its quotient times m
pub whole : (z : ℤ) (m : ℕ) → 0 < m → z modulo m ≡ 0 → z ≡ int_div_euclid z (pos m) *ℤ pos m
whole z m h e = omega (arith, lin, (split z m h).0, ap pos e)

pub first_quotient : (u : ℕ) (rs : List ℕ) → 0 < u → quotient_at u rs 0 ≡ pos 0
first_quotient u rs h = rounds u (pos (get_or rs 0 0) -ℤ pos (get_or rs 0 0)) (pos 0) (pos 0) h (omega (arith, lin)) (omega (arith, lin)) (omega (arith, lin))

-- two numbers below the product that agree with every channel are one
close : (p y z : ℕ) (k : ℤ) → pos z -ℤ pos y ≡ pos p *ℤ k → y < p → z < p → z ≡ y
close p y z (pos zero) e h l = omega (arith, lin)
close p y z (pos (suc k)) e h l = absurd (omega (arith, lin))
close p y z (negsuc k) e h l = absurd (omega (arith, lin))

apart : (g : ℕ) (y z : ℕ) (q : ℤ) → 0 < g → (pos y -ℤ q) modulo g ≡ 0 → (pos z -ℤ q) modulo g ≡ 0 → Divides (pos g) (pos z -ℤ pos y)
apart g y z q h e f =
    (int_div_euclid (pos z -ℤ q) (pos g) -ℤ int_div_euclid (pos y -ℤ q) (pos g), simp ring (omega (arith, lin, simp ring at (whole (pos y -ℤ q) g h e), simp ring at (whole (pos z -ℤ q) g h f))))

-- two unfolded readings differ as the readings do, less whole units
difference : (c c₀ u y q q₀ r r₀ : ℤ) → c ≡ u *ℤ (y -ℤ q) +ℤ r → c₀ ≡ u *ℤ (y -ℤ q₀) +ℤ r₀ → q₀ ≡ pos 0 → c -ℤ c₀ ≡ r -ℤ r₀ -ℤ u *ℤ q
difference c c₀ u y q q₀ r r₀ e f g =
    let f' : c₀ ≡ u *ℤ y +ℤ r₀ = f ∙ ap (λ x. u *ℤ (y -ℤ x) +ℤ r₀) g ∙ simp ring (omega (arith, lin)) in
    omega (arith, lin, simp ring at e, f')

half_unit : (u : ℕ) (d q r : ℤ) → d ≡ r -ℤ pos u *ℤ q → (q *ℤ pos (2 * u)) ≤ℤ (pos 2 *ℤ r +ℤ pos u) → (pos 2 *ℤ r +ℤ pos u) <ℤ (q *ℤ pos (2 * u) +ℤ pos (2 * u))
    → (neg_ℤ (pos u) ≤ℤ (pos 2 *ℤ d)) × ((pos 2 *ℤ d) <ℤ pos u)
half_unit u d q r e l h = (omega (arith, lin), omega (arith, lin))

module _ (u : ℕ) (gs rs : List ℕ) (a : CoprimeChannels u gs) where
  unit_pos : 0 < u
  unit_pos = a.unit_pos

  first_pos : 0 < get_or gs 0 0
  first_pos = a.factors_pos 0 a.some

  -- the units that n folds of channel 0 make agree with every channel
  agreeing : (n : ℕ) → Turns u gs rs n → (n * get_or gs 0 0 < product gs) × ((k : ℕ) → k < length gs → (pos (n * get_or gs 0 0) -ℤ quotient_at u rs k) modulo get_or gs k 0 ≡ 0)
  agreeing n t =
      let b : u * (n * get_or gs 0 0) < u * product gs = omega (arith, t.below) in
      (lt_of_mul-lt-mul_left u b, t.agree)

  one_turns : (n m : ℕ) → Turns u gs rs n → Turns u gs rs m → m ≡ n
  one_turns n m t s =
      let (h, f) = agreeing n t in
      let (l, g) = agreeing m s in
      let (k, e) = product_divides gs (pos (m * get_or gs 0 0) -ℤ pos (n * get_or gs 0 0)) a.coprime
      (λ k i. apart (get_or gs k 0) (n * get_or gs 0 0) (m * get_or gs 0 0) (quotient_at u rs k) (a.factors_pos k i) (f k i) (g k i)) in
      let same : m * get_or gs 0 0 ≡ n * get_or gs 0 0 = close (product gs) (n * get_or gs 0 0) (m * get_or gs 0 0) k e h l in
      eq_of_mul-eq-mul_left (get_or gs 0 0) first_pos m n (omega (arith, same))

  pub turns_of : (qs : List ℤ) (y : ℕ) → ((k : ℕ) → k < length gs → get_or qs k (pos 0) ≡ quotient_at u rs k) → Agreeing gs qs y → (n : ℕ) × (y ≡ n * get_or gs 0 0) × Turns u gs rs n
  turns_of qs y q g =
      let none : pos y -ℤ get_or qs 0 (pos 0) ≡ int_div_euclid (pos y -ℤ get_or qs 0 (pos 0)) (pos (get_or gs 0 0)) *ℤ pos (get_or gs 0 0) =
      whole (pos y -ℤ get_or qs 0 (pos 0)) (get_or gs 0 0) first_pos (g.agree 0 a.some) in
      let zero_is : get_or qs 0 (pos 0) ≡ pos 0 = q 0 a.some ∙ first_quotient u rs unit_pos in
      let (n, e) = natural y (get_or gs 0 0) (int_div_euclid (pos y -ℤ get_or qs 0 (pos 0)) (pos (get_or gs 0 0))) first_pos (omega (arith, lin, none, zero_is)) in (
        n,
        e,
        record {
          below = omega (arith, mul-lt-mul_of_pos_left {k = u} g.below unit_pos, ap (λ (z : ℕ). u * z) e);
          agree = λ k h. subst (λ x. (pos x -ℤ quotient_at u rs k) modulo get_or gs k 0 ≡ 0) e (subst (λ z. (pos y -ℤ z) modulo get_or gs k 0 ≡ 0) (q k h) (g.agree k h));
        },
      )
    where
      natural : (y g : ℕ) (z : ℤ) → 0 < g → pos y ≡ z *ℤ pos g → (n : ℕ) × (y ≡ n * g)
      natural y g (pos n) h e = (n, omega (arith, lin, e))
      natural y g (negsuc n) h e = absurd (omega (arith, lin, e))

  -- no quotient exceeds its factor
  quotient_most : (k : ℕ) → get_or rs k 0 < modulus_at u gs k → quotient_at u rs k ≤ℤ pos (get_or gs k 0)
  quotient_most k h =
      let z : ℤ = pos 2 *ℤ (pos (get_or rs k 0) -ℤ pos (get_or rs 0 0)) +ℤ pos u in
      at_most (2 * u) z (pos (get_or gs k 0)) (quotient_at u rs k) (floor_low z (2 * u) (omega (arith, unit_pos))) (omega (arith, lin))

  module _ (n : ℕ) (t : Turns u gs rs n) where
    pub evenly : (k : ℕ) → k < length gs → fold_at u gs rs n k *ℤ pos (get_or gs k 0) ≡ pos (n * get_or gs 0 0) -ℤ quotient_at u rs k
    evenly k h = sym (whole (pos (n * get_or gs 0 0) -ℤ quotient_at u rs k) (get_or gs k 0) (a.factors_pos k h) (t.agree k h))

    first_fold : fold_at u gs rs n 0 ≡ pos n
    first_fold =
        let q = first_quotient u rs unit_pos in
        floor_is (get_or gs 0 0) (pos (n * get_or gs 0 0) -ℤ quotient_at u rs 0) (pos n) first_pos (omega (arith, lin, q)) (omega (arith, lin, q, first_pos))

    at_least : (k : ℕ) → k < length gs → get_or rs k 0 < modulus_at u gs k → negsuc 0 ≤ℤ fold_at u gs rs n k
    at_least k h l =
        let z : ℤ = pos (n * get_or gs 0 0) -ℤ quotient_at u rs k in
        at_most (get_or gs k 0) z (fold_at u gs rs n k) (negsuc 0) (omega (arith, lin, quotient_most k l)) (floor_high z (get_or gs k 0) (a.factors_pos k h))

    -- where channel k's unfolded reading stands
    pub place_is : (k : ℕ) → k < length gs → unfolded_at u gs rs n k ≡ pos u *ℤ (pos (n * get_or gs 0 0) -ℤ quotient_at u rs k) +ℤ pos (get_or rs k 0)
    place_is k h =
        placed (fold_at u gs rs n k) (pos u) (pos (get_or gs k 0)) (pos (n * get_or gs 0 0) -ℤ quotient_at u rs k) (pos (get_or rs k 0)) (evenly k h)
      where
        placed : (f u g z r : ℤ) → f *ℤ g ≡ z → f *ℤ (u *ℤ g) +ℤ r ≡ u *ℤ z +ℤ r
        placed f u g z r e = omega (arith, lin, simp ring at (ap (λ x. u *ℤ x) e))

    near : (k : ℕ) → k < length gs → (neg_ℤ (pos u) ≤ℤ (pos 2 *ℤ (unfolded_at u gs rs n k -ℤ unfolded_at u gs rs n 0))) × ((pos 2 *ℤ (unfolded_at u gs rs n k -ℤ unfolded_at u gs rs n 0)) <ℤ pos u)
    near k h =
        let z : ℤ = pos 2 *ℤ (pos (get_or rs k 0) -ℤ pos (get_or rs 0 0)) +ℤ pos u in
        let p : 0 < 2 * u = omega (arith, unit_pos) in
        let d = difference (unfolded_at u gs rs n k) (unfolded_at u gs rs n 0) (pos u) (pos (n * get_or gs 0 0)) (quotient_at u rs k) (quotient_at u rs 0) (pos (get_or rs k 0)) (pos (get_or rs 0 0))
        (place_is k h) (place_is 0 a.some) (first_quotient u rs unit_pos) in
        half_unit u (unfolded_at u gs rs n k -ℤ unfolded_at u gs rs n 0) (quotient_at u rs k) (pos (get_or rs k 0) -ℤ pos (get_or rs 0 0)) d (floor_low z (2 * u) p) (floor_high z (2 * u) p)

    pub folds_well : ((k : ℕ) → k < length gs → get_or rs k 0 < modulus_at u gs k) → FoldsWell u gs rs n
    folds_well tame = record {
      turns = t;
      only = λ m s. one_turns n m t s;
      first_is = first_fold;
      evenly = evenly;
      at_least = λ k h. at_least k h (tame k h);
      near_low = λ k h. (near k h).0;
      near_high = λ k h. (near k h).1;
    }
