-- The turns of Euclid's method, modulo m.
use Rattle.std.proofs.Common.{◌≡◌, ℕ, ◌+◌, ◌-◌, ◌*◌, ◌/◌, ◌%◌, ◌<◌, ℤ, pos, ◌+ℤ◌, ◌-ℤ◌, ◌*ℤ◌, sym, ap, mod-lt, arith}
use native.Mathlib.Nat.{div-add-mod}
use Rattle.std.specs.Int.{IsGcd}
use Rattle.std.proofs.lemmas.Nat.Gcd.{IsGcd-from_zero, IsGcd-from_mod}
use Rattle.residues.specs.declared.divisors.Shared.{Shared}
use Rattle.residues.specs.Euclid.{Tells, rest_of}
use Rattle.residues.proofs.Ring.{ring, lin}
use Rattle.residues.proofs.Congruence.{mod_same}

-- the divisor is a times the cofactor, modulo m
pub record Shares (a m : ℕ) (s : Shared) : Type 0 where
  pub below : s.cofactor < m
  pub turns : ℤ
  pub is : pos s.divisor ≡ pos a *ℤ pos s.cofactor +ℤ turns *ℤ pos m

-- both are so, and have the common divisors of a and m
pub record State (a m : ℕ) (s t : Shared) : Type 0 where
  pub last : Shares a m s
  pub next : Shares a m t
  pub common : (g : ℕ) → IsGcd s.divisor t.divisor g → IsGcd a m g

pub start : (a m : ℕ) → 0 < m → State a m (record { divisor = m; cofactor = 0 }) (record { divisor = a % m; cofactor = 1 % m })
start a m h = record {
  last = record { below = h; turns = pos 1; is = ap pos (omega arith) };
  next = record {
    below = mod-lt 1 h;
    turns = pos (a * (1 / m)) -ℤ pos (a / m);
    is = simp ring (omega (arith, lin, div-add-mod a m, ap (λ (z : ℕ). a * z) (div-add-mod 1 m)));
  };
  common = IsGcd-from_mod a m;
}

turn_is : (a m h r q n s t t' k l c : ℤ) → h ≡ r *ℤ q +ℤ n → h ≡ a *ℤ s +ℤ k *ℤ m → r ≡ a *ℤ t +ℤ l *ℤ m → t' ≡ s -ℤ q *ℤ t +ℤ c *ℤ m
    → n ≡ a *ℤ t' +ℤ (k -ℤ q *ℤ l -ℤ a *ℤ c) *ℤ m
turn_is a m h r q n s t t' k l c e f g i =
    simp ring (omega (arith, lin, simp ring at f, simp ring at (ap (λ z. q *ℤ z) g), simp ring at (ap (λ z. a *ℤ z) i)))

after_is : (m s x : ℕ) → 0 < m → pos ((s + (m - x % m)) % m) ≡ pos s -ℤ pos x +ℤ (pos 1 +ℤ pos (x / m) -ℤ pos ((s + (m - x % m)) / m)) *ℤ pos m
after_is m s x h = simp ring (omega (arith, lin, div-add-mod x m, div-add-mod (s + (m - x % m)) m, mod-lt x h))

pub again : (a m : ℕ) (s t : Shared) → 0 < t.divisor → State a m s t → State a m t (rest_of m s t)
again a m s t h p =
    let x : ℕ = s.divisor / t.divisor * t.cofactor in
    let c : ℤ = pos 1 +ℤ pos (x / m) -ℤ pos ((s.cofactor + (m - x % m)) / m) in
    record {
      last = p.next;
      next = record {
        below = mod-lt (s.cofactor + (m - x % m)) (omega (arith, p.next.below));
        turns = p.last.turns -ℤ pos (s.divisor / t.divisor) *ℤ p.next.turns -ℤ pos a *ℤ c;
        is = turn_is (pos a) (pos m) (pos s.divisor) (pos t.divisor) (pos (s.divisor / t.divisor)) (pos (s.divisor % t.divisor)) (pos s.cofactor) (pos t.cofactor) (pos ((s.cofactor + (m - x % m)) % m)) p.last.turns p.next.turns c
            (ap pos (sym (div-add-mod s.divisor t.divisor))) p.last.is p.next.is (after_is m s.cofactor x (omega (arith, p.next.below)));
      };
      common = λ g d. p.common g (IsGcd-from_mod s.divisor t.divisor g d);
    }

pub ended : (a m : ℕ) (s t : Shared) → t.divisor ≡ 0 → State a m s t → Tells a m s
ended a m s t e p =
    let d = p.common s.divisor (IsGcd-from_zero s.divisor t.divisor e) in
    record {
      greatest = record { left = d.0; right = d.1; greatest = d.2 };
      below = p.last.below;
      cofactor = sym (mod_same m s.divisor (a * s.cofactor) (p.last.turns, p.last.is));
    }
