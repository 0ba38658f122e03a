-- What inverses say of whether factors share a divisor.
use Rattle.std.proofs.Common.{◌≡◌, ℕ, ◌*◌, ◌%◌, List, length, get_or, subst, arith}
use Prim.Native.Nat.{◌∣◌}
use native.Mathlib.Nat.{dvd-mod_iff, dvd-mul_right_of_dvd, eq-one_of_dvd-one}
use Rattle.residues.specs.Divisors.{Coprime}
use Rattle.residues.specs.Products.{PairwiseCoprime}
use Rattle.settings.specs.Kept.{inverse_at}
use Rattle.settings.specs.Tables.{InversesMade}

-- a factor that has an inverse shares no divisor with the modulus
pub inverse_coprime : (g h x : ℕ) → (g * x) % h ≡ 1 → Coprime g h
inverse_coprime g h x e d p q =
    eq-one_of_dvd-one (subst (λ y. d ∣ y) e ((dvd-mod_iff d q).1 (dvd-mul_right_of_dvd d p x)))

pub made_coprime : (gs : List ℕ) (table : List (List ℕ)) → InversesMade gs table (length gs) → PairwiseCoprime gs
made_coprime gs table made j k l h = inverse_coprime (get_or gs j 0) (get_or gs k 0) (inverse_at table j k) (made j k (omega arith) l h).gives_one
