-- Bezout's identity, Euclid's lemma, and products of pairwise coprime factors.
use Rattle.std.proofs.Common.{◌≡◌, ℕ, zero, suc, ◌+◌, ◌*◌, ◌/◌, ◌%◌, ◌<◌, ◌≤◌, List, [], ◌∷◌, length, get_or, ℤ, pos, ◌+ℤ◌, ◌-ℤ◌, ◌*ℤ◌, sym, ap, ◌∙◌, subst, mod-lt, arith}
use Prim.Native.Nat.{◌∣◌}
use native.Mathlib.Nat.{div-add-mod, dvd-mul_right}
use Rattle.residues.specs.Divisors.{Coprime}
use Rattle.residues.specs.Products.{product, PairwiseCoprime}
use Rattle.residues.proofs.Ring.{ring, lin}

-- d times some whole number is z
abbrev pub Divides : ℤ → ℤ → Type 0
Divides d z = (k : ℤ) × (z ≡ d *ℤ k)

-- a combination of a and b that is 1
abbrev pub Bezout : ℤ → ℤ → Type 0
Bezout a b = (x y : ℤ) × (pos 1 ≡ x *ℤ a +ℤ y *ℤ b)

record Gcd (a b : ℕ) : Type 0 where
  g : ℕ
  u : ℕ
  v : ℕ
  x : ℤ
  y : ℤ
  left : a ≡ g * u
  right : b ≡ g * v
  comb : pos g ≡ x *ℤ pos a +ℤ y *ℤ pos b

shift : (g a b q r x y : ℤ) → a ≡ b *ℤ q +ℤ r → g ≡ x *ℤ b +ℤ y *ℤ r → g ≡ y *ℤ a +ℤ (x -ℤ y *ℤ q) *ℤ b
shift g a b q r x y e h = simp ring (omega (arith, lin, simp ring at h, simp ring at (ap (λ z. y *ℤ z) e)))

again : (a b : ℕ) → Gcd b (a % b) → Gcd a b
again a b r = record {
  g = r.g;
  u = r.u * (a / b) + r.v;
  v = r.u;
  x = r.y;
  y = r.x -ℤ r.y *ℤ pos (a / b);
  left = omega (arith, div-add-mod a b, ap (λ (z : ℕ). z * (a / b)) r.left, r.right);
  right = r.left;
  comb = shift (pos r.g) (pos a) (pos b) (pos (a / b)) (pos (a % b)) r.x r.y (ap pos (sym (div-add-mod a b))) r.comb;
}

-- with f for the number of turns
gcd_of : (f a b : ℕ) → b ≤ f → Gcd a b
gcd_of f a zero h = record { g = a; u = 1; v = 0; x = pos 1; y = pos 0; left = omega arith; right = omega arith; comb = ap pos (omega arith) }
gcd_of zero a (suc b) h = absurd (omega arith)
gcd_of (suc f) a (suc b) h = again a (suc b) (gcd_of f (suc b) (a % suc b) (omega (arith, mod-lt a {m = suc b} (omega arith))))

pub bezout : (a b : ℕ) → Coprime a b → Bezout (pos a) (pos b)
bezout a b c = let r = gcd_of b a b (omega arith) in
    let e : r.g ≡ 1 = c r.g (subst (λ z. r.g ∣ z) (sym r.left) (dvd-mul_right r.g r.u)) (subst (λ z. r.g ∣ z) (sym r.right) (dvd-mul_right r.g r.v)) in
    (r.x, r.y, sym (ap pos e) ∙ r.comb)

pub swap : (a b : ℤ) → Bezout a b → Bezout b a
swap a b (x, y, e) = (y, x, omega (arith, lin))

-- Euclid's lemma
pub euclid : (a b c : ℤ) → Bezout a b → Divides a (b *ℤ c) → Divides a c
euclid a b c (x, y, h) (k, g) =
    (x *ℤ c +ℤ y *ℤ k, simp ring (omega (arith, lin, simp ring at (ap (λ z. c *ℤ z) h), simp ring at (ap (λ z. y *ℤ z) g))))

-- two coprime divisors of d
both_divide : (a b d : ℤ) → Bezout a b → Divides a d → Divides b d → Divides (a *ℤ b) d
both_divide a b d (x, y, h) (k, e) (l, f) =
    (x *ℤ l +ℤ y *ℤ k, simp ring (omega (arith, lin, simp ring at (ap (λ z. d *ℤ z) h), simp ring at (ap (λ z. x *ℤ a *ℤ z) f), simp ring at (ap (λ z. y *ℤ b *ℤ z) e))))

-- what is coprime to two numbers is coprime to their product: 1 = x g + y a, 1 = z g + w b
bezout_mul : (g a b : ℤ) → Bezout g a → Bezout g b → Bezout g (a *ℤ b)
bezout_mul g a b (x, y, h) (z, w, k) =
    (x +ℤ y *ℤ a *ℤ z, y *ℤ w, h ∙ simp ring (omega (arith, lin, simp ring at (ap (λ t. y *ℤ a *ℤ t) k))))

pub bezout_product : (g : ℕ) (gs : List ℕ) → ((k : ℕ) → k < length gs → Coprime g (get_or gs k 0)) → Bezout (pos g) (pos (product gs))
bezout_product g [] c = (pos 0, pos 1, ap pos (omega arith))
bezout_product g (a ∷ gs) c =
    bezout_mul (pos g) (pos a) (pos (product gs)) (bezout g a (c 0 (omega arith))) (bezout_product g gs (λ k h. c (suc k) (omega arith)))

-- the first is coprime to the product of the rest
pub first_and_rest : (g : ℕ) (gs : List ℕ) → PairwiseCoprime (g ∷ gs) → Bezout (pos g) (pos (product gs))
first_and_rest g gs p = bezout_product g gs (λ k h. p 0 (suc k) (omega arith) (omega arith))

pub rest_coprime : (g : ℕ) (gs : List ℕ) → PairwiseCoprime (g ∷ gs) → PairwiseCoprime gs
rest_coprime g gs p j k h l = p (suc j) (suc k) (omega arith) (omega arith)

-- what all of them divide, their product divides
pub product_divides : (gs : List ℕ) (d : ℤ) → PairwiseCoprime gs → ((k : ℕ) → k < length gs → Divides (pos (get_or gs k 0)) d) → Divides (pos (product gs)) d
product_divides [] d p e = (d, omega (arith, lin))
product_divides (g ∷ gs) d p e =
    both_divide (pos g) (pos (product gs)) d (first_and_rest g gs p) (e 0 (omega arith)) (product_divides gs d (rest_coprime g gs p) (λ k h. e (suc k) (omega arith)))
