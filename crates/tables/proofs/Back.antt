-- What is written is read back. Assumes nothing.
use Rattle.std.proofs.Common.{◌≡◌, ℕ, ◌+◌, ◌^◌, ◌<◌, Bool, true, false, List, [], ◌∷◌, ◌++◌, map, length, Ok, codes, decimal, sym, refl, ap, ◌∙◌, subst, append-nil, arith, ne_eqb}
use Rattle.std.proofs.lemmas.Fmt.{decimal_nonempty, digits_decimal}
use Rattle.std.proofs.ByRecursion.{All-from_get_or}
use Rattle.std.proofs.lemmas.Str.Parse.{digit_at, numerals_by_value, tells_digits}
use Rattle.std.specs.Str.Parse.{AllDigits}
use Rattle.std.specs.Int.{IsInRange}
use Rattle.std.specs.List.{AllByRecursion}
use Rattle.std.specs.Str.{bytes_eq}
use Rattle.tables.specs.declared.headings.Heading.{Heading}
use Rattle.tables.specs.declared.parts.Part.{Part}
use Rattle.tables.specs.declared.parts.Part.TheVariants.{Moduli, Bounds, Row}
use Rattle.tables.proofs.Equal.{by_none}
use Rattle.tables.proofs.Numbers.{at_decimal}
use Rattle.tables.proofs.Spells.{words_law}
use Rattle.tables.specs.Lines.{part_of_words, part_of}
use Rattle.tables.specs.Numbers.{ahead, placed, number_at, numbers_from}
use Rattle.tables.specs.Spelling.{spaced, Small, ReadsBack}
use Rattle.tables.specs.Tables.{allowed, and_then, numbers_of, line_in}
use Rattle.tables.specs.Words.{is_space, words}

abbrev Solid : List ℕ → Type 0
Solid w = AllByRecursion (λ b. is_space b ≡ false) w

digits : (n : ℕ) → n < 2 ^ 32 → AllDigits 10 (decimal n)
digits n small = digits_decimal (numerals_by_value _ tells_digits) n (omega arith)

some : (n : ℕ) → n < 2 ^ 32 → 0 < length (decimal n)
some n small = decimal_nonempty n (omega arith)

solid : (n : ℕ) → n < 2 ^ 32 → Solid (decimal n)
solid n small = All-from_get_or (λ b. is_space b ≡ false) (decimal n) 0 (λ i lt. ne_eqb _ 32 (λ e. omega (arith, digit_at (decimal n) i (digits n small) lt)))

-- a word that begins with a digit is none that begins otherwise
other_word : (ds : List ℕ) (c : ℕ) (cs : List ℕ) → 0 < length ds → AllDigits 10 ds → (IsInRange 48 57 c → ⊥) → bytes_eq ds (c ∷ cs) ≡ false
other_word [] c cs more ds out = absurd (omega arith)
other_word (d ∷ ds) c cs more all out = rw (ne_eqb d c (λ e. out (subst (IsInRange 48 57) e (digit_at (d ∷ ds) 0 all (omega arith))))) refl

words_spaced : (w ns : List ℕ) → 0 < length w → Solid w → Small ns → words (w ++ spaced ns) ≡ w ∷ map decimal ns
words_spaced w [] more whole small = ap words (append-nil w) ∙ words_law.single w more whole
words_spaced w (n ∷ ns) more whole small =
    words_law.parts w (decimal n ++ spaced ns)
    ∙ ap (λ l. l ++ words (decimal n ++ spaced ns)) (words_law.single w more whole)
    ∙ ap (λ l. w ∷ l) (words_spaced (decimal n) ns (some n small.0) (solid n small.0) small.1)

number_spelt : (d : Bool) (k n : ℕ) → n < 2 ^ 32 → number_at d k (decimal n) ≡ Ok n
number_spelt d k n small =
    rw (other_word (decimal n) 45 [] (some n small) (digits n small) (λ h. omega arith)) (ap (placed k) (at_decimal (decimal n) n small refl))

numbers_spelt : (d : Bool) (k : ℕ) (ns : List ℕ) → Small ns → numbers_from d k (map decimal ns) ≡ Ok ns
numbers_spelt d k [] small = refl
numbers_spelt d k (n ∷ ns) small =
    ap (λ r. ahead r (numbers_from d (k + 1) (map decimal ns))) (number_spelt d (k + 1) n small.0) ∙ ap (ahead (Ok n)) (numbers_spelt d (k + 1) ns small.1)

line_is : (h : Heading) (line : List ℕ) (p : Part) (ws : List (List ℕ)) (ns : List ℕ) → part_of line ≡ p → words line ≡ ws → allowed h p ≡ Ok tt → numbers_of p ws ≡ Ok ns → (part_of line ≡ p) × (line_in h line ≡ Ok ns)
line_is h line p ws ns is cut may told =
    (is, ap (λ q. and_then (allowed h q) (numbers_of q (words line))) is ∙ ap (λ l. and_then (allowed h p) (numbers_of p l)) cut ∙ ap (λ a. and_then a (numbers_of p ws)) may ∙ told)

moduli_back : (h : Heading) (ns : List ℕ) → Small ns → h.moduli ≡ false → (part_of (codes "moduli" ++ spaced ns) ≡ Moduli) × (line_in h (codes "moduli" ++ spaced ns) ≡ Ok ns)
moduli_back h ns small free =
    let cut = words_spaced (codes "moduli") ns (omega arith) (refl, (refl, (refl, (refl, (refl, (refl, tt)))))) small in
    line_is h (codes "moduli" ++ spaced ns) _ _ ns (ap part_of_words cut) cut (rw free refl) (numbers_spelt false 1 ns small)

bounds_back : (h : Heading) (ns : List ℕ) → Small ns → h.bounds ≡ false → (part_of (codes "bounds" ++ spaced ns) ≡ Bounds) × (line_in h (codes "bounds" ++ spaced ns) ≡ Ok ns)
bounds_back h ns small free =
    let cut = words_spaced (codes "bounds") ns (omega arith) (refl, (refl, (refl, (refl, (refl, (refl, tt)))))) small in
    line_is h (codes "bounds" ++ spaced ns) _ _ ns (ap part_of_words cut) cut (rw free refl) (numbers_spelt false 1 ns small)

-- a line whose first word is of digits is a row
digit_line : (ds rest : List ℕ) (ws : List (List ℕ)) → 0 < length ds → AllDigits 10 ds → words (ds ++ rest) ≡ ds ∷ ws → part_of (ds ++ rest) ≡ Row
digit_line [] rest ws more all cut = absurd (omega arith)
digit_line (d ∷ ds) rest ws more all cut =
    let free : (c : ℕ) (cs : List ℕ) → (IsInRange 48 57 c → ⊥) → bytes_eq (d ∷ ds) (c ∷ cs) ≡ false = λ c cs out. other_word (d ∷ ds) c cs more all out in
    let hash = ne_eqb d 35 (λ e. omega (arith, digit_at (d ∷ ds) 0 all (omega arith))) in
    rw hash (ap part_of_words cut ∙ sym (by_none (d ∷ ds) (free _ _ (λ h. omega arith)) (free _ _ (λ h. omega arith)) (free _ _ (λ h. omega arith))))

row_back : (h : Heading) (n : ℕ) (ns : List ℕ) → Small (n ∷ ns) → h.moduli ≡ true → h.bounds ≡ true → (part_of (decimal n ++ spaced ns) ≡ Row) × (line_in h (decimal n ++ spaced ns) ≡ Ok (n ∷ ns))
row_back h n ns small m b =
    let cut = words_spaced (decimal n) ns (some n small.0) (solid n small.0) small.1 in
    line_is h (decimal n ++ spaced ns) _ _ (n ∷ ns) (digit_line (decimal n) (spaced ns) _ (some n small.0) (digits n small.0) cut) cut (rw (m, b) refl) (numbers_spelt true 0 (n ∷ ns) small)

pub reads_back : ReadsBack
reads_back = record { moduli = moduli_back; bounds = bounds_back; row = row_back }
