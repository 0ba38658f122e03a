-- That a reading behind a gear fits the machine's numbers.
use Rattle.std.proofs.Common.{◌≡◌, ℕ, ◌+◌, ◌*◌, ◌^◌, ◌<◌, ◌≤◌, Bool, true, false, List, [], ◌∷◌, Ok, refl, mul-le-mul_right, arith}
use Rattle.std.proofs.lemmas.Bool.{and_parts}
use Rattle.std.proofs.lemmas.Bool.Decides.{nat_tests}
use Rattle.heads.specs.declared.plates.Figures.{Figures}
use Rattle.heads.specs.Answers.{answer_of, checked}
use Rattle.heads.specs.Entries.{Entry, reading, faulty, AllBelow}
use Rattle.layers.specs.Layering.{told_over, gear_proper, gear_told}

-- a reading that is answered waited, so it is below the modulus
pub answered_below : (b : Bool) (d m r : ℕ) (w : List Entry) → AllBelow m w → Ok r ≡ answer_of b d w → r < m
answered_below false d m r w a e = cc
answered_below true d m r [] a e = cc
answered_below true d m r (reading x ∷ w) a e = let same : x ≡ r = cc in omega (arith, a.0)
answered_below true d m r (faulty k c p q ∷ w) a e = cc

fit_part : (b h : Bool) (m t d : ℕ) → (told_over b h m t d).fit ≡ true → h ≡ true
fit_part true true m t d e = refl
fit_part true false m t d e = e
fit_part false h m t d e = cc

-- a plate that passed its check is fit
passed : (b : Bool) (f x : Figures) → Ok x ≡ checked b f → b ≡ true
passed true f x e = refl
passed false f x e = cc

-- a fit gear's modulus is within a plate's limit
gear_fits : (s w : ℕ) (f : Figures) → gear_proper s w f ≡ true → f.modulus * s ≤ 2 ^ 31
gear_fits s w f e = grind (arith, nat_tests)

pub gear_passed : (s w : ℕ) (f x : Figures) → Ok x ≡ checked (gear_told s w f).fit (gear_told s w f) → f.modulus * s ≤ 2 ^ 31
gear_passed s w f x e =
    let h = fit_part f.fit _ (f.modulus * s) (f.bound * s + w) f.depth (passed (gear_told s w f).fit (gear_told s w f) x e) in
    gear_fits s w f (and_parts (gear_proper s w f) _ h).0

pub scaled_fits : (r s m : ℕ) → r < m → m * s ≤ 2 ^ 31 → r * s ≤ 2147483648
scaled_fits r s m h l = omega (arith, mul-le-mul_right s h)
