-- What the machine's signed remainder is.
use Rattle.std.proofs.Common.{◌≡◌, ℕ, ◌^◌, ◌<◌, ℤ, nat_abs, ap, ◌∙◌, w64, SFits, to_z, of_z}
use Rattle.std.specs.Int.{int_rem_euclid}
use Rattle.std.proofs.lemmas.Int.{to_z-of_z, to_z_pos}
use Rattle.residues.specs.Circle.{◌modulo◌}

-- what `rem_euclid` answers, cast to an unsigned type, is the remainder
pub remainder_is : (m : ℕ) (P x : ℤ) → m < 2 ^ 63 → SFits w64 P → SFits w64 x → x ≡ int_rem_euclid (to_z w64 (of_z w64 P)) (to_z w64 m) → nat_abs (to_z w64 (of_z w64 x)) ≡ P modulo m
remainder_is m P x l f g v =
    ap nat_abs (to_z-of_z w64 x g ∙ v ∙ ap (λ z. int_rem_euclid z (to_z w64 m)) (to_z-of_z w64 P f) ∙ ap (int_rem_euclid P) (to_z_pos w64 m l))
