-- What a reader gives piece by piece are the lines of its bytes.
use Rattle.std.proofs.Common.{◌≡◌, ℕ, suc, ◌-◌, ◌<◌, Bool, true, false, ◌&&◌, if◌then◌else◌, List, [], ◌∷◌, length, take, slice_index, Some, None, Ok, Option, Result, IfSome, OnSome, refl, sym, ap, subst, ◌∙◌, arith, false-eqb, ◌==◌}
use Rattle.std.proofs.lemmas.Grind.{get_or_tail}
use Rattle.std.specs.Io.BufRead.{DropsThrough, drop_through, first_piece, strip_last, take_through}
use Rattle.std.specs.Io.Iter.{YieldsKnownPiece, pieces_left_to_read, split_known_bytes}
use Rattle.std.specs.declared.io.traits.Split.{Split}
use Rattle.std.specs.Io.KnownBytes.{IsAtEnd}
use Rattle.std.specs.Iterator.{Count, IsFinite, MakesProgress, size}
use Rattle.std.proofs.lemmas.Bool.{lt-ltb}
use Rattle.sheets.specs.Whole.{begun, lines_of}

-- a byte more in front
further : (b : ℕ) (xs : List ℕ) (t : Bool) (n : ℕ) → (if t then take (suc n) (b ∷ xs) else (b ∷ xs)) ≡ b ∷ (if t then take n xs else xs)
further b xs true n = refl
further b xs false n = refl

-- whether a list that is not empty loses its last byte
loses : (xs : List ℕ) (n k : ℕ) → n < length xs → length xs - 1 ≡ k → strip_last 10 xs ≡ (if slice_index xs k == 10 then take k xs else xs)
loses xs n k some is =
    ap (λ t. if t && (slice_index xs (length xs - 1) == 10) then take (length xs - 1) xs else xs) (lt-ltb 0 (length xs) (omega (arith, some)))
    ∙ ap (λ m. if slice_index xs m == 10 then take m xs else xs) is

stripped : (b d : ℕ) (ds : List ℕ) → strip_last 10 (b ∷ d ∷ ds) ≡ b ∷ strip_last 10 (d ∷ ds)
stripped b d ds =
    let n = length ds in
    let f : suc n - 1 ≡ n = omega arith in
    let last : slice_index (b ∷ d ∷ ds) (suc n) ≡ slice_index (d ∷ ds) n = get_or_tail b (d ∷ ds) (suc n) 0 (omega arith) ∙ ap (λ k. slice_index (d ∷ ds) k) f in
    loses (b ∷ d ∷ ds) 0 (suc n) (omega arith) (omega arith)
    ∙ ap (λ x. if x == 10 then take (suc n) (b ∷ d ∷ ds) else (b ∷ d ∷ ds)) last
    ∙ further b (d ∷ ds) (slice_index (d ∷ ds) n == 10) n
    ∙ sym (ap (λ xs. b ∷ xs) (loses (d ∷ ds) 0 n (omega arith) (omega arith)))

alone : (b : ℕ) (t : Bool) → (b == 10) ≡ t → strip_last 10 (b ∷ []) ≡ (if t then [] else (b ∷ []))
alone b true e = rw e refl
alone b false e = rw e refl

-- the first piece of what begins with a byte that is no line feed, where more follows
goes_on : (b c : ℕ) (cs : List ℕ) (t : Bool) → (c == 10) ≡ t → strip_last 10 (b ∷ take_through 10 (c ∷ cs)) ≡ b ∷ first_piece 10 (c ∷ cs)
goes_on b c cs true e = rw e (stripped b c [])
goes_on b c cs false e = rw e (stripped b c (take_through 10 cs))

at_feed : (b : ℕ) (bs : List ℕ) (t : Bool) → (b == 10) ≡ t → (0 < length bs → lines_of bs ≡ first_piece 10 bs ∷ lines_of (drop_through 10 bs)) → lines_of (b ∷ bs) ≡ first_piece 10 (b ∷ bs) ∷ lines_of (drop_through 10 (b ∷ bs))
at_feed b bs true e more = rw e (ap (λ p. p ∷ lines_of bs) (sym (alone b true e)))
at_feed b [] false e more = rw e (ap (λ p. p ∷ []) (sym (alone b false e)))
at_feed b (c ∷ cs) false e more = rw e (ap (begun b) (more (omega arith)) ∙ ap (λ p. p ∷ lines_of (drop_through 10 (c ∷ cs))) (sym (goes_on b c cs (c == 10) refl)))

pub piece_cut : (bs : List ℕ) → 0 < length bs → lines_of bs ≡ first_piece 10 bs ∷ lines_of (drop_through 10 bs)
piece_cut [] some = absurd (omega arith)
piece_cut (b ∷ bs) some = at_feed b bs (b == 10) refl (piece_cut bs)

-- what a good piece is to the bytes that were known
abbrev pub Fed : (old new : Option (List ℕ)) (piece : List ℕ) → Type 0
Fed old new piece = (rest : List ℕ) → old ≡ Some rest → (new ≡ Some (drop_through 10 rest)) × (lines_of rest ≡ piece ∷ lines_of (drop_through 10 rest))

module _ {X E : Type 0} (bytes : X → List ℕ) (byte : ℕ) (old : Option (List ℕ)) (r : Option (Result X E)) (new : Option (List ℕ)) (gives : YieldsKnownPiece bytes (first_piece byte) byte old r new) where
  pub fed : byte ≡ 10 → (x : X) → r ≡ Some (Ok x) → Fed old new (bytes x)
  fed ten x is rest known =
      let given = subst (λ q. YieldsKnownPiece bytes (first_piece byte) byte old q new) is gives in
      let h = subst (λ o. IfSome o (λ xs. (0 < length xs) × (bytes x ≡ first_piece byte xs)) × DropsThrough o new byte) known given in
      (h.1 ∙ ap (λ b. Some (drop_through b rest)) ten, piece_cut rest h.0.0 ∙ ap (λ p. p ∷ lines_of (drop_through 10 rest)) (sym (h.0.1 ∙ ap (λ b. first_piece b rest) ten)))

  pub fed_all : r ≡ None → (rest : List ℕ) → old ≡ Some rest → lines_of rest ≡ []
  fed_all is rest known = ap lines_of (subst IsAtEnd known (subst (λ q. YieldsKnownPiece bytes (first_piece byte) byte old q new) is gives))

some_left : (b : Bool) (known : Option (List ℕ)) (rest : List ℕ) → (if b then None else known) ≡ Some rest → b ≡ false
some_left true known rest is = absurd (cc is)
some_left false known rest is = refl

-- pieces may still come where the bytes are known
pub some_pieces : {B A : Type 0} (remaining : B → Option (List ℕ)) (s : Split B A) (rest : List ℕ) → split_known_bytes remaining s ≡ Some rest → 0 < pieces_left_to_read s
some_pieces remaining s rest known =
    let some = false-eqb s.turns.left 0 (sym (some_left (s.turns.left == 0) (remaining s.inner) rest known)) in
    omega (arith, some)

-- an iterator that gave an item has fewer left
pub fewer : {S A : Type 0} (can : S → Type 0) (left : S → Count) (s : S) (r : Option A) (t : S) (x : A) → MakesProgress can left s r t → r ≡ Some x → IsFinite (left s) → size (left t) < size (left s)
fewer can left s r t x on is finite = (subst (λ q. OnSome q (can t × IsFinite (left t) × (size (left t) < size (left s)))) is (on.on finite)).2

pub if_known : {A : Type 0} {P : A → Type 0} (o : Option A) → ((x : A) → o ≡ Some x → P x) → IfSome o P
if_known None f = tt
if_known (Some x) f = f x refl
