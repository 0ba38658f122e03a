-- The distance round a circle and the error of a reading say the same.
use Rattle.std.proofs.Common.{◌≡◌, ℕ, suc, ◌+◌, ◌-◌, ◌/◌, ◌%◌, ◌<◌, ◌≤◌, ◌⊎◌, ◌↔◌, ℤ, pos, negsuc, ◌+ℤ◌, ◌-ℤ◌, ◌*ℤ◌, neg_ℤ, ◌≤ℤ◌, inl, inr, mod-lt, arith}
use native.Mathlib.Nat.{div-add-mod}
use native.Mathlib.Decide.{dec_le, dec_lt}
use Rattle.std.specs.Int.{int_div_euclid}
use Rattle.residues.specs.Circle.{◌modulo◌, distance, Allows, Errs}
use Rattle.residues.proofs.Ring.{ring, lin}
use Rattle.residues.proofs.Floor.{split, modulo_is}

-- r is P, an error from −t to t, and some turns of m
abbrev pub Near : (m t : ℕ) (r P : ℤ) → Type 0
Near m t r P = (e j : ℤ) × (r ≡ P +ℤ e +ℤ j *ℤ pos m) × (neg_ℤ (pos t) ≤ℤ e) × (e ≤ℤ pos t)

-- from a distance to an error
pub to_error : (m t : ℕ) (r P : ℤ) → 0 < m → distance m r P ≤ t → Near m t r P
to_error m t r P h d = go (dec_le ((r -ℤ P) modulo m) t)
  where
    go : Dec ((r -ℤ P) modulo m ≤ t) → Near m t r P
    go (yes y) = (pos ((r -ℤ P) modulo m), int_div_euclid (r -ℤ P) (pos m), omega (arith, lin, (split (r -ℤ P) m h).0), omega (arith, lin), omega (arith, lin))
    go (no n) = (neg_ℤ (pos ((P -ℤ r) modulo m)), neg_ℤ (int_div_euclid (P -ℤ r) (pos m)), simp ring (omega (arith, lin, simp ring at (split (P -ℤ r) m h).0)), omega (arith, lin), omega (arith, lin))

-- from an error to a distance
pub from_error : (m t : ℕ) (r P e j : ℤ) → 0 < m → r ≡ P +ℤ e +ℤ j *ℤ pos m → neg_ℤ (pos t) ≤ℤ e → e ≤ℤ pos t → distance m r P ≤ t
from_error m t r P (pos x) j h q l u = go (dec_lt x m)
  where
    go : Dec (x < m) → distance m r P ≤ t
    go (yes y) = omega (arith, lin, modulo_is m (r -ℤ P) j x y (omega (arith, lin)))
    go (no n) = omega (arith, lin, (split (r -ℤ P) m h).1)
from_error m t r P (negsuc x) j h q l u = go (dec_lt (suc x) m)
  where
    go : Dec (suc x < m) → distance m r P ≤ t
    go (yes y) = omega (arith, lin, modulo_is m (P -ℤ r) (neg_ℤ j) (suc x) y (simp ring (omega (arith, lin))))
    go (no n) = omega (arith, lin, (split (P -ℤ r) m h).1)

pub allows_errs : (m t r : ℕ) (P : ℤ) → 0 < m → Allows m t r P ↔ Errs m t r P
allows_errs m t r P h = (to_error m t (pos r) P h, λ (e, j, q, l, u). from_error m t (pos r) P e j h q l u)

-- the other way round, where the reading is not P itself
other_way : (m b : ℕ) (z k : ℤ) → 0 < b → b < m → z ≡ k *ℤ pos m +ℤ pos b → (neg_ℤ z) modulo m ≡ m - b
other_way m b z k h l e = modulo_is m (neg_ℤ z) (neg_ℤ k -ℤ pos 1) (m - b) (omega arith) (simp ring (omega (arith, lin)))

-- a reading allows P just where one of the two ways is at most the bound
pub two_ways : (m t b : ℕ) (r P k : ℤ) → b < m → r -ℤ P ≡ k *ℤ pos m +ℤ pos b → ((b ≤ t) ⊎ (m - b ≤ t)) ↔ (distance m r P ≤ t)
two_ways m t b r P k l e = (to, from (dec_lt 0 b))
  where
    one : (r -ℤ P) modulo m ≡ b
    one = modulo_is m (r -ℤ P) k b l e

    two : 0 < b → (P -ℤ r) modulo m ≡ m - b
    two h = let f : P -ℤ r ≡ neg_ℤ (r -ℤ P) = omega (arith, lin) in rw f (other_way m b (r -ℤ P) k h l e)

    to : (b ≤ t) ⊎ (m - b ≤ t) → distance m r P ≤ t
    to (inl h) = omega (arith, one)
    to (inr h) = beyond (dec_lt 0 b)
      where
        beyond : Dec (0 < b) → distance m r P ≤ t
        beyond (yes p) = omega (arith, two p)
        beyond (no p) = omega (arith, one)

    from : Dec (0 < b) → distance m r P ≤ t → (b ≤ t) ⊎ (m - b ≤ t)
    from (yes p) h = pick (dec_le b t)
      where
        pick : Dec (b ≤ t) → (b ≤ t) ⊎ (m - b ≤ t)
        pick (yes q) = inl q
        pick (no q) = inr (omega (arith, one, two p))
    from (no p) h = inl (omega arith)

-- the way from P up to the reading, worked out from P's own remainder
pub way_ahead : (m t r o : ℕ) (P : ℤ) → 0 < m → o ≡ P modulo m → (((r + (m - o)) % m ≤ t) ⊎ (m - (r + (m - o)) % m ≤ t)) ↔ Allows m t r P
way_ahead m t r o P h e =
    two_ways m t ((r + (m - o)) % m) (pos r) P (pos ((r + (m - o)) / m) -ℤ pos 1 -ℤ int_div_euclid P (pos m)) (mod-lt (r + (m - o)) h)
    (simp ring (omega (arith, lin, div-add-mod (r + (m - o)) m, split P m h, e)))
