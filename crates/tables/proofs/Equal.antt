-- What the first word of a line says. Assumes nothing.
use Rattle.std.proofs.Common.{◌≡◌, ℕ, suc, ◌+◌, false, List, [], ◌∷◌, codes, length, get_or, drop, refl, ap, ◌∙◌, arith, drop-cons, add-one}
use Rattle.std.proofs.lemmas.List.{drop_all}
use Rattle.std.specs.Str.{bytes_eq}
use Rattle.tables.specs.declared.parts.Part.TheVariants.{Row}
use Rattle.tables.specs.Lines.{part_of_word}

-- what stands from place i on in a word, byte by byte, up to its end
abbrev pub Spelt : List ℕ → ℕ → List ℕ → Type 0
Spelt w i [] = length w ≡ i
Spelt w i (c ∷ cs) = (get_or w i 0 ≡ c) × Spelt w (i + 1) cs

spelt_len : (w : List ℕ) (i : ℕ) (cs : List ℕ) → Spelt w i cs → length w ≡ i + length cs
spelt_len w i [] s = omega arith
spelt_len w i (c ∷ cs) s = omega (arith, spelt_len w (i + 1) cs s.1)

pub spelt : (w : List ℕ) (i : ℕ) (cs : List ℕ) → Spelt w i cs → drop i w ≡ cs
spelt w i [] s = drop_all i w (omega arith)
spelt w i (c ∷ cs) s = drop-cons w i 0 (omega (arith, spelt_len w i (c ∷ cs) s)) ∙ ap (λ b. b ∷ drop (suc i) w) s.0 ∙ ap (λ l. c ∷ l) (rw add-one at (spelt w (i + 1) cs s.1))

pub by_none : (w : List ℕ) → bytes_eq w (codes "note") ≡ false → bytes_eq w (codes "moduli") ≡ false → bytes_eq w (codes "bounds") ≡ false → Row ≡ part_of_word w
by_none w n m b = rw (n, m, b) refl
