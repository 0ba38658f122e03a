-- A position below the range is the only one with its remainders.
use Rattle.std.proofs.Common.{◌≡◌, ℕ, zero, suc, ◌-◌, ◌*◌, ◌/◌, ◌%◌, ◌<◌, ◌≤◌, List, length, get_or, pos, negsuc, sym, ap, ◌∙◌, subst, mul-le-mul_left, mul-zero, arith}
use Prim.Native.Nat.{◌∣◌}
use native.Mathlib.Nat.{div-add-mod, dvd-sub, dvd-mul_right, dvd_trans, dvd_of_mul-dvd-mul_left, mul-div_cancel'}
use Rattle.residues.specs.Products.{product, PairwiseCoprime}
use Rattle.residues.proofs.Ring.{lin}
use Rattle.residues.proofs.Bezout.{Divides, product_divides}
use Rattle.settings.specs.Settings.{Accepted, OnePosition, modulus_at, range_of}

-- numbers with one remainder differ by a multiple
apart : (m p q : ℕ) → p % m ≡ q % m → m ∣ p - q
apart m p q e =
    let f : p - q ≡ m * (p / m) - m * (q / m) = omega (arith, div-add-mod p m, div-add-mod q m) in
    subst (λ (x : ℕ). m ∣ x) (sym f) (dvd-sub m (dvd-mul_right m (p / m)) (dvd-mul_right m (q / m)))

-- what every modulus divides, below the range, is 0
none_apart : (u : ℕ) (gs : List ℕ) (n : ℕ) → 0 < u → 0 < length gs → PairwiseCoprime gs → n < range_of u gs → ((k : ℕ) → k < length gs → modulus_at u gs k ∣ n) → n ≡ 0
none_apart u gs n v some coprime below all = ends (product_divides gs (pos d) coprime divides)
  where
    d : ℕ
    d = n / u

    n_is : u * d ≡ n
    n_is = mul-div_cancel' u (dvd_trans u (dvd-mul_right u (get_or gs 0 0)) (all 0 some))

    divides : (k : ℕ) → k < length gs → Divides (pos (get_or gs k 0)) (pos d)
    divides k h =
        let g = get_or gs k 0 in
        let here : g ∣ d = dvd_of_mul-dvd-mul_left {k = u} g v (subst (λ (x : ℕ). u * g ∣ x) (sym n_is) (all k h)) in
        (pos (d / g), ap pos (sym (mul-div_cancel' g here)))

    ends : Divides (pos (product gs)) (pos d) → n ≡ 0
    ends (pos zero, e) = let f : d ≡ 0 = omega (arith, lin) in sym n_is ∙ ap (λ (x : ℕ). u * x) f ∙ mul-zero u
    ends (pos (suc w), e) = let f : product gs ≤ d = omega (arith, lin) in absurd (omega (arith, mul-le-mul_left u f, n_is))
    ends (negsuc w, e) = let f : d ≡ 0 = omega (arith, lin) in sym n_is ∙ ap (λ (x : ℕ). u * x) f ∙ mul-zero u

pub one_position : (u : ℕ) (gs : List ℕ) → Accepted u gs → OnePosition u gs
one_position u gs accepted p q a b same =
    let under : (x y : ℕ) → x < range_of u gs → ((k : ℕ) → k < length gs → x % modulus_at u gs k ≡ y % modulus_at u gs k) → x - y ≡ 0 =
    λ x y h e. none_apart u gs (x - y) accepted.unit_fits.0 accepted.counted.0 accepted.coprime (omega arith) (λ k l. apart (modulus_at u gs k) x y (e k l)) in
    omega (arith, under p q a same, under q p b (λ k l. sym (same k l)))
