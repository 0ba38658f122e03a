-- Whole numbers round a circle, and what a reading allows. Assumes nothing.
use Rattle.std.specs.Prelude.{◌≡◌, ℕ, ◌≤◌, min, ℤ, pos, ◌+ℤ◌, ◌-ℤ◌, ◌*ℤ◌, neg_ℤ, ◌≤ℤ◌, unsigned_abs}
use Rattle.std.specs.Int.{int_rem_euclid}

-- a mod m, from 0 to m − 1 for a of either sign
infix 55 ◌modulo◌
abbrev pub ◌modulo◌ : ℤ → ℕ → ℕ
a modulo m = unsigned_abs (int_rem_euclid a (pos m))

-- the distance of a and b round m: the lesser of the two ways
abbrev pub distance : (m : ℕ) → ℤ → ℤ → ℕ
distance m a b = min ((a -ℤ b) modulo m) ((b -ℤ a) modulo m)

-- a reading r with modulus m and bound t allows P
abbrev pub Allows : (m t r : ℕ) → ℤ → Type 0
Allows m t r P = distance m (pos r) P ≤ t

-- r is P, an error from −t to t, and some turns of m
abbrev pub Errs : (m t r : ℕ) → ℤ → Type 0
Errs m t r P = (e j : ℤ) × (pos r ≡ P +ℤ e +ℤ j *ℤ pos m) × (neg_ℤ (pos t) ≤ℤ e) × (e ≤ℤ pos t)
