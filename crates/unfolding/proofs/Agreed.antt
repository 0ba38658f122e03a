-- Digit by digit to the number of units that agrees with every channel.
use Rattle.std.proofs.Common.{◌≡◌, ℕ, suc, ◌+◌, ◌*◌, ◌%◌, ◌^◌, ◌<◌, ◌≤◌, List, [], ◌∷◌, ◌++◌, length, get_or, take, ℤ, pos, ◌+ℤ◌, ◌-ℤ◌, sym, refl, ap, ◌∙◌, subst, mul-le-mul_left, add-one, arith, length-append, length-take, get_or-take, below_more}
use Rattle.std.proofs.lemmas.List.{take_all}
use Rattle.residues.specs.Circle.{◌modulo◌}
use Rattle.residues.specs.Products.{product}
use Rattle.residues.proofs.Ring.{ring, lin}
use Rattle.residues.proofs.Floor.{modulo_is}
use Rattle.residues.proofs.Congruence.{Same, same_trans, same_modulo}
use Rattle.residues.proofs.Products.{product_more, product_has, product_le}
use Rattle.settings.specs.Settings.{Accepted}
use Rattle.unfolding.specs.Digits.{peeled, mixed, Agreeing}
use Rattle.unfolding.specs.Folds.{CoprimeChannels}
use Rattle.unfolding.proofs.Peeling.{mixed_more, peeled_back}

-- the first k digits make y, which is below their weight w and agrees with the first k quotients
pub record Agreed (gs : List ℕ) (qs : List ℤ) (k : ℕ) (ds : List ℕ) (y w : ℕ) : Type 0 where
  pub places : length ds ≡ k
  pub weight_is : w ≡ product (take k gs)
  pub units_are : y ≡ mixed (take k gs) ds
  pub under : y < w
  pub agrees : (i : ℕ) → i < k → Same (pos (get_or gs i 0)) (pos y) (get_or qs i (pos 0))

pub agreed_none : (gs : List ℕ) (qs : List ℤ) (ds : List ℕ) → ds ≡ [] → Agreed gs qs 0 ds 0 1
agreed_none gs qs ds e = record { places = ap length e; weight_is = refl; units_are = refl; under = omega arith; agrees = λ i h. absurd (omega arith) }

pub factors_pos : (u : ℕ) (gs : List ℕ) → Accepted u gs → (k : ℕ) → k < length gs → 0 < get_or gs k 0
factors_pos u gs a k h = omega (arith, (a.factors_fit k h).0)

-- what folding needs of a setting
pub apart : (u : ℕ) (gs : List ℕ) → Accepted u gs → CoprimeChannels u gs
apart u gs a = record { unit_pos = a.unit_fits.0; some = a.counted.0; factors_pos = factors_pos u gs a; coprime = a.coprime }

pub product_few : (u : ℕ) (gs : List ℕ) → Accepted u gs → product gs ≤ 2 ^ 40
product_few u gs a = omega (arith, a.range_fits, mul-le-mul_left (product gs) a.unit_fits.0)

-- the weight of one digit more stays within the range
pub room : (u : ℕ) (gs : List ℕ) (k w : ℕ) → Accepted u gs → k < length gs → w ≡ product (take k gs) → w * get_or gs k 0 ≤ 2 ^ 40
room u gs k w a h e =
    omega (arith, ap (λ (z : ℕ). z * get_or gs k 0) e, product_more gs k h, product_le gs (suc k) (factors_pos u gs a), product_few u gs a)

pub agreed_all : (gs : List ℕ) (qs : List ℤ) (k : ℕ) (ds : List ℕ) (y w : ℕ) → k ≡ length gs → ((i : ℕ) → i < length gs → 0 < get_or gs i 0) → Agreed gs qs k ds y w → Agreeing gs qs y
agreed_all gs qs k ds y w e p a = record {
  below = omega (arith, a.under, a.weight_is, ap product (take_all k gs (omega arith)));
  agree = λ i h. let (j, f) = a.agrees i (omega arith) in modulo_is (get_or gs i 0) (pos y -ℤ get_or qs i (pos 0)) j 0 (p i h) (omega (arith, lin, f));
}

-- w more of d changes nothing modulo a divisor of w
still : (g w v : ℕ) (y d : ℕ) (q : ℤ) → w ≡ g * v → Same (pos g) (pos y) q → Same (pos g) (pos (y + w * d)) q
still g w v y d q e (k, f) = (k +ℤ pos (v * d), simp ring (omega (arith, lin, f, ap (λ (z : ℕ). z * d) e)))

module _ (gs : List ℕ) (qs : List ℤ) (k : ℕ) (ds : List ℕ) (y w d : ℕ) (h : k < length gs) (a : Agreed gs qs k ds y w) where
  kept : (i : ℕ) → i < k → Same (pos (get_or gs i 0)) (pos (y + w * d)) (get_or qs i (pos 0))
  kept i l =
      let room : i < length (take k gs) = omega (arith, length-take k gs) in
      let (v, e) = product_has (take k gs) i room in
      let f : w ≡ get_or gs i 0 * v = a.weight_is ∙ e ∙ ap (λ (z : ℕ). z * v) (get_or-take k gs i 0 l) in
      still (get_or gs i 0) w v y d (get_or qs i (pos 0)) f (a.agrees i l)

  pub agreed_more : (k' d' g : ℕ) (ds' : List ℕ) → k' ≡ k + 1 → d' ≡ d → g ≡ get_or gs k 0 → ds' ≡ ds ++ d ∷ [] → d < get_or gs k 0 → Same (pos (get_or gs k 0)) (pos (y + w * d)) (get_or qs k (pos 0))
      → Agreed gs qs k' ds' (y + w * d') (w * g)
  agreed_more k' d' g ds' i j m e l s = rw (i, j, m, e) (record {
    places = omega (arith, length-append ds (d ∷ []), a.places);
    weight_is = rw add-one (ap (λ (z : ℕ). z * get_or gs k 0) a.weight_is ∙ sym (product_more gs k h));
    units_are = rw add-one (omega (arith, mixed_more gs ds d k a.places h, a.units_are, ap (λ (z : ℕ). z * d) a.weight_is));
    under = omega (arith, a.under, mul-le-mul_left w l);
    agrees = below_more _ _ kept s;
  })

  -- the digit that is left of quotient k once the earlier ones are peeled off
  pub digit_agrees : (is : List ℕ) (x : ℕ) → 0 < get_or gs k 0 → length is ≡ k → ((j : ℕ) → j < k → (get_or gs j 0 * get_or is j 0) % get_or gs k 0 ≡ 1)
      → x ≡ get_or qs k (pos 0) modulo get_or gs k 0 → d ≡ peeled (get_or gs k 0) x is ds → Same (pos (get_or gs k 0)) (pos (y + w * d)) (get_or qs k (pos 0))
  digit_agrees is x p e inv f g =
      let n : length (take k gs) ≡ k = omega (arith, length-take k gs) in
      let back = peeled_back (get_or gs k 0) (take k gs) is ds x p (e ∙ sym n) (a.places ∙ sym n) (λ j l. let jk : j < k = omega arith in rw get_or-take (inv j jk)) in
      let same : y + w * d ≡ mixed (take k gs) ds + product (take k gs) * peeled (get_or gs k 0) x is ds = omega (arith, a.units_are, ap (λ (z : ℕ). z * d) a.weight_is, ap (λ (z : ℕ). product (take k gs) * z) g) in
      same_trans (pos (get_or gs k 0)) (pos (y + w * d)) (pos x) (get_or qs k (pos 0)) (back.0, ap pos same ∙ back.1)
      (subst (λ z. Same (pos (get_or gs k 0)) (pos z) (get_or qs k (pos 0))) (sym f) (same_modulo (get_or gs k 0) (get_or qs k (pos 0)) p))
