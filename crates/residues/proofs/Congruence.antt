-- Whole numbers that are the same modulo m.
use Rattle.std.proofs.Common.{◌≡◌, ℕ, suc, ◌+◌, ◌*◌, ◌/◌, ◌%◌, ◌<◌, ℤ, pos, negsuc, ◌+ℤ◌, ◌*ℤ◌, neg_ℤ, sym, ap, arith}
use native.Mathlib.Nat.{div-add-mod, add-mul-mod_self_left}
use Rattle.std.specs.Int.{int_div_euclid}
use Rattle.residues.specs.Circle.{◌modulo◌}
use Rattle.residues.proofs.Ring.{ring, lin}
use Rattle.residues.proofs.Floor.{split, modulo_is}

-- a is b and some m
abbrev pub Same : ℤ → ℤ → ℤ → Type 0
Same m a b = (k : ℤ) × (a ≡ b +ℤ k *ℤ m)

pub same_trans : (m a b c : ℤ) → Same m a b → Same m b c → Same m a c
same_trans m a b c (k, e) (l, f) = (k +ℤ l, simp ring (omega (arith, lin, simp ring at e, simp ring at f)))

pub same_sym : (m a b : ℤ) → Same m a b → Same m b a
same_sym m a b (k, e) = (neg_ℤ k, simp ring (omega (arith, lin, simp ring at e)))

pub same_add : (m a b c d : ℤ) → Same m a b → Same m c d → Same m (a +ℤ c) (b +ℤ d)
same_add m a b c d (k, e) (l, f) = (k +ℤ l, simp ring (omega (arith, lin, simp ring at e, simp ring at f)))

-- a c = (b + k m)(d + l m)
pub same_mul : (m a b c d : ℤ) → Same m a b → Same m c d → Same m (a *ℤ c) (b *ℤ d)
same_mul m a b c d (k, e) (l, f) =
    (k *ℤ c +ℤ b *ℤ l, simp ring (omega (arith, lin, simp ring at (ap (λ z. z *ℤ c) e), simp ring at (ap (λ z. b *ℤ z) f))))

pub same_mod : (m x : ℕ) → Same (pos m) (pos (x % m)) (pos x)
same_mod m x = (neg_ℤ (pos (x / m)), simp ring (omega (arith, lin, div-add-mod x m)))

pub same_modulo : (m : ℕ) (z : ℤ) → 0 < m → Same (pos m) (pos (z modulo m)) z
same_modulo m z h = (neg_ℤ (int_div_euclid z (pos m)), simp ring (omega (arith, lin, (split z m h).0)))

-- two naturals that are the same modulo m have one remainder
pub mod_same : (m a b : ℕ) → Same (pos m) (pos a) (pos b) → a % m ≡ b % m
mod_same m a b (pos k, e) = let f : a ≡ b + m * k = omega (arith, lin) in rw f (add-mul-mod_self_left b m k)
mod_same m a b (negsuc k, e) = let f : b ≡ a + m * suc k = omega (arith, lin) in rw f (sym (add-mul-mod_self_left a m (suc k)))

-- and so have two whole numbers
pub modulo_same : (m : ℕ) (a b : ℤ) → 0 < m → Same (pos m) a b → a modulo m ≡ b modulo m
modulo_same m a b h (k, e) =
    modulo_is m a (k +ℤ int_div_euclid b (pos m)) (b modulo m) (split b m h).1 (simp ring (omega (arith, lin, (split b m h).0)))
