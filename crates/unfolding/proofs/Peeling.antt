-- Digits peeled off one at a time, and the number that they make.
use Rattle.std.proofs.Common.{◌≡◌, ℕ, zero, suc, ◌+◌, ◌-◌, ◌*◌, ◌%◌, ◌<◌, List, [], ◌∷◌, ◌++◌, length, get_or, take, ℤ, pos, ◌+ℤ◌, ◌-ℤ◌, ◌*ℤ◌, ap, ◌∙◌, mod-lt, arith}
use Rattle.residues.specs.Products.{product}
use Rattle.residues.proofs.Ring.{ring, lin}
use Rattle.residues.proofs.Congruence.{Same, same_trans, same_sym, same_mod}
use Rattle.unfolding.specs.Digits.{peeled, mixed}

-- one digit less
abbrev pub peel : (g x d i : ℕ) → ℕ
peel g x d i = (x + (g - d % g)) % g * i % g

-- with h times i one modulo g, h times what is left, and the digit, is x again
less_is : (g d x : ℕ) → 0 < g → Same (pos g) (pos ((x + (g - d % g)) % g)) (pos x -ℤ pos d)
less_is g d x p =
    let (k, e) = same_mod g (x + (g - d % g)) in
    let (l, f) = same_mod g d in
    let m = mod-lt d p in
    (k +ℤ pos 1 -ℤ l, simp ring (omega (arith, lin, simp ring at e, simp ring at f)))

peel_back : (g h i d x y l a b c : ℤ) → h *ℤ i ≡ pos 1 +ℤ a *ℤ g → y ≡ l *ℤ i +ℤ b *ℤ g → l ≡ x -ℤ d +ℤ c *ℤ g
    → d +ℤ h *ℤ y ≡ x +ℤ (c +ℤ a *ℤ l +ℤ h *ℤ b) *ℤ g
peel_back g h i d x y l a b c e f k =
    simp ring (omega (arith, lin, simp ring at (ap (λ z. l *ℤ z) e), simp ring at (ap (λ z. h *ℤ z) f), simp ring at k))

one_is : (g y : ℕ) → y % g ≡ 1 → Same (pos g) (pos y) (pos 1)
one_is g y e = let (k, f) = same_sym (pos g) (pos (y % g)) (pos y) (same_mod g y) in (k, f ∙ ap (λ (z : ℕ). pos z +ℤ k *ℤ pos g) e)

step_back : (g h i d x : ℕ) → 0 < g → (h * i) % g ≡ 1 → Same (pos g) (pos (d + h * peel g x d i)) (pos x)
step_back g h i d x p e =
    let l : ℕ = (x + (g - d % g)) % g in
    let (a, ea) = one_is g (h * i) e in
    let (b, eb) = same_mod g (l * i) in
    let (c, ec) = less_is g d x p in
    (_, peel_back (pos g) (pos h) (pos i) (pos d) (pos x) (pos (l * i % g)) (pos l) a b c ea eb ec)

-- m, and h times the same of two numbers
under : (g h d a b : ℤ) → Same g a b → Same g (d +ℤ h *ℤ a) (d +ℤ h *ℤ b)
under g h d a b (k, e) = (h *ℤ k, simp ring (omega (arith, lin, simp ring at (ap (λ z. h *ℤ z) e))))

-- the digits so far, and the next one at its weight, make x modulo g
pub peeled_back : (g : ℕ) (gs is ds : List ℕ) (x : ℕ) → 0 < g → length is ≡ length gs → length ds ≡ length gs
    → ((j : ℕ) → j < length gs → (get_or gs j 0 * get_or is j 0) % g ≡ 1) → Same (pos g) (pos (mixed gs ds + product gs * peeled g x is ds)) (pos x)
peeled_back g [] [] [] x p e f inv = (pos 0, omega (arith, lin))
peeled_back g [] [] (d ∷ ds) x p e f inv = absurd (omega arith)
peeled_back g [] (i ∷ is) ds x p e f inv = absurd (omega arith)
peeled_back g (h ∷ gs) [] ds x p e f inv = absurd (omega arith)
peeled_back g (h ∷ gs) (i ∷ is) [] x p e f inv = absurd (omega arith)
peeled_back g (h ∷ gs) (i ∷ is) (d ∷ ds) x p e f inv =
    let x' : ℕ = peel g x d i in
    let rest = peeled_back g gs is ds x' p (omega arith) (omega arith) (λ j l. inv (suc j) (omega arith)) in
    let (k, r) = same_trans (pos g) (pos (d + h * (mixed gs ds + product gs * peeled g x' is ds))) (pos (d + h * x')) (pos x)
    (under (pos g) (pos h) (pos d) (pos (mixed gs ds + product gs * peeled g x' is ds)) (pos x') rest) (step_back g h i d x p (inv 0 (omega arith))) in
    (k, ap pos (omega arith) ∙ r)

-- one digit more at the top
pub mixed_more : (gs ds : List ℕ) (d k : ℕ) → length ds ≡ k → k < length gs → mixed (take (suc k) gs) (ds ++ d ∷ []) ≡ mixed (take k gs) ds + product (take k gs) * d
mixed_more [] ds d k e h = absurd (omega arith)
mixed_more (g ∷ gs) [] d zero e h = omega arith
mixed_more (g ∷ gs) [] d (suc k) e h = absurd (omega arith)
mixed_more (g ∷ gs) (x ∷ ds) d zero e h = absurd (omega arith)
mixed_more (g ∷ gs) (x ∷ ds) d (suc k) e h = omega (arith, ap (λ (z : ℕ). g * z) (mixed_more gs ds d k (omega arith) (omega arith)))
