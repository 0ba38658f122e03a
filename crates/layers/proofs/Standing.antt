-- A layer stands where it carries what the head below stands at.
use Rattle.std.proofs.Common.{◌≡◌, ℕ, zero, suc, ◌+◌, ◌*◌, ◌/◌, ◌%◌, ◌<◌, ◌≤◌, Bool, true, false, ◌&&◌, ltb, leb, List, [], ◌∷◌, map, ℤ, pos, negsuc, ◌+ℤ◌, ◌-ℤ◌, ◌*ℤ◌, neg_ℤ, nat_abs, ◌≤ℤ◌, refl, ap, mul-le-mul_right, mul-pos, arith, ltb-true}
use Rattle.std.proofs.lemmas.Bool.{and_parts}
use Rattle.std.proofs.lemmas.Bool.Decides.{nat_tests}
use native.Mathlib.Nat.{div-add-mod}
use Rattle.std.specs.List.{AllByRecursion}
use Rattle.residues.specs.Circle.{Allows}
use Rattle.residues.proofs.Ring.{ring, lin}
use Rattle.residues.proofs.Round.{to_error, from_error}
use Rattle.heads.specs.declared.plates.Figures.{Figures}
use Rattle.heads.specs.Entries.{Entry, reading, faulty}
use Rattle.heads.specs.Channels.{Channel}
use Rattle.heads.specs.PhaseTables.{if_fit}
use Rattle.heads.specs.Standing.{Allowing, Carried}
use Rattle.layers.specs.Layering.{told_over, turned, zero_turns, gear_proper}
use Rattle.layers.specs.Carrying.{zero_over, gear_over, ZeroCarries, GearCarries}

-- where every entry of a fit layer allows Q, the layer stands at Q
pub layer_stands : (b h : Bool) (m t d : ℕ) (w : List Entry) (Q : ℤ) → (b ≡ true → h ≡ true → AllByRecursion (Allowing m t Q) w)
    → AllByRecursion (Allowing (told_over b h m t d).modulus (told_over b h m t d).bound Q) (if_fit (b && h) w)
layer_stands true true m t d w Q k = k refl refl
layer_stands true false m t d w Q k = tt
layer_stands false h m t d w Q k = tt

-- readings that are turned allow Q where those below allowed P
turned_allow : (g : ℕ → ℕ) (m t n u : ℕ) (P Q : ℤ) (w : List Entry) → ((r : ℕ) → Allows m t r P → Allows n u (g r) Q) → AllByRecursion (Allowing m t P) w → AllByRecursion (Allowing n u Q) (map (turned g) w)
turned_allow g m t n u P Q [] h a = tt
turned_allow g m t n u P Q (reading r ∷ w) h a = (h r a.0, turned_allow g m t n u P Q w h a.1)
turned_allow g m t n u P Q (faulty k x y z ∷ w) h a = (tt, turned_allow g m t n u P Q w h a.1)

-- r is P and an error: r and z, round m, is P and z and that error
zero_allows : (z m t r : ℕ) (P Q : ℤ) → 0 < m → ZeroCarries z P Q → Allows m t r P → Allows m t (zero_turns z m r) Q
zero_allows z m t r P Q h c a =
    let (e, j, q, l, u) = to_error m t (pos r) P h a in
    from_error m t (pos ((r + z) % m)) Q e (j -ℤ pos ((r + z) / m)) h (simp ring (omega (arith, lin, simp ring at q, div-add-mod (r + z) m))) l u

pub zero_stands : (z : ℕ) (c : Channel) → Carried c (zero_over z c) (ZeroCarries z)
zero_stands z c P Q a k =
    let f : Figures = c.figures in
    layer_stands f.fit (ltb z f.modulus && leb (f.depth + 1) 255) f.modulus f.bound f.depth (map (turned (zero_turns z f.modulus)) c.waits) Q
    (λ _ p. let l : z < f.modulus = ltb-true z f.modulus (and_parts _ (leb (f.depth + 1) 255) p).0 in
    turned_allow (zero_turns z f.modulus) f.modulus f.bound f.modulus f.bound P Q c.waits (λ r. zero_allows z f.modulus f.bound r P Q (omega arith) k) a)

scaled_is : (r s m P Q e j : ℤ) → r ≡ P +ℤ e +ℤ j *ℤ m → r *ℤ s ≡ Q +ℤ (e *ℤ s +ℤ P *ℤ s -ℤ Q) +ℤ j *ℤ (m *ℤ s)
scaled_is r s m P Q e j q = simp ring (omega (arith, lin, simp ring at (ap (λ x. x *ℤ s) q)))

-- Q is within w of P s
near : (w : ℕ) (z : ℤ) → nat_abs z ≤ w → (neg_ℤ (pos w) ≤ℤ z) × (z ≤ℤ pos w)
near w (pos x) h = (omega (arith, lin), omega (arith, lin))
near w (negsuc x) h = (omega (arith, lin), omega (arith, lin))

-- an error of at most t, s times
scaled_error : (s t : ℕ) (e : ℤ) → neg_ℤ (pos t) ≤ℤ e → e ≤ℤ pos t → (neg_ℤ (pos (t * s)) ≤ℤ (e *ℤ pos s)) × ((e *ℤ pos s) ≤ℤ pos (t * s))
scaled_error s t (pos x) l u = let h : x ≤ t = omega (arith, lin) in (omega (arith, lin), omega (arith, lin, mul-le-mul_right s h))
scaled_error s t (negsuc x) l u = let h : suc x ≤ t = omega (arith, lin) in (omega (arith, lin, mul-le-mul_right s h), omega (arith, lin))

-- r is P and an error e: r s is Q and an error of e s and what Q is from P s
gear_allows : (s w m t r : ℕ) (P Q : ℤ) → 0 < m → 0 < s → GearCarries s w P Q → Allows m t r P → Allows (m * s) (t * s + w) (r * s) Q
gear_allows s w m t r P Q h p c a =
    let (e, j, q, l, u) = to_error m t (pos r) P h a in
    let b = scaled_error s t e l u in
    let n = near w (Q -ℤ P *ℤ pos s) c in
    from_error (m * s) (t * s + w) (pos (r * s)) Q (e *ℤ pos s +ℤ P *ℤ pos s -ℤ Q) j (mul-pos {m = m} h p)
    (scaled_is (pos r) (pos s) (pos m) P Q e j q)
    (omega (arith, lin, b, n))
    (omega (arith, lin, b, n))

some_of : (m s : ℕ) → 1 ≤ m * s → 0 < m
some_of zero s h = absurd (omega arith)
some_of (suc m) s h = omega arith

-- neither the modulus below a gear nor its scale is 0
gear_some : (s w : ℕ) (f : Figures) → gear_proper s w f ≡ true → (0 < f.modulus) × (0 < s)
gear_some s w f e = let h : 1 ≤ f.modulus * s = grind (arith, nat_tests) in (some_of f.modulus s h, grind (arith, nat_tests))

pub gear_stands : (s w : ℕ) (c : Channel) → Carried c (gear_over s w c) (GearCarries s w)
gear_stands s w c P Q a k =
    let f : Figures = c.figures in
    layer_stands f.fit (gear_proper s w f && leb (f.depth + 1) 255) (f.modulus * s) (f.bound * s + w) f.depth (map (turned (λ r. r * s)) c.waits) Q
    (λ _ p.
    let (some, scaled) = gear_some s w f (and_parts (gear_proper s w f) (leb (f.depth + 1) 255) p).0 in
    turned_allow (λ r. r * s) f.modulus f.bound (f.modulus * s) (f.bound * s + w) P Q c.waits (λ r. gear_allows s w f.modulus f.bound r P Q some scaled k) a)
