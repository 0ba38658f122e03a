-- Bytes that pass every check are a recording.
use Rattle.std.proofs.Common.{◌≡◌, ℕ, Bool, true, false, cond, None, Some, is_some, ◌+◌, ◌-◌, ◌*◌, ◌/◌, ◌<◌, ◌≤◌, List, [], ◌∷◌, ◌++◌, length, get_or, position, take, drop, sym, refl, ap, ◌∙◌, subst, arith}
use native.Mathlib.Nat.{div-eq_of_eq-mul_left}
use Rattle.std.specs.List.{flat_map, AllByRecursion}
use Rattle.std.proofs.lemmas.List.{drop_all, drop-drop, get_or-take, get_or-drop, length-drop, length-take-le, take-append-drop}
use Rattle.std.proofs.lemmas.Bool.{false≢true, true≢false, ltb-false, not-false, not-true}
use Rattle.std.proofs.lemmas.List.Sums.{fails_before_first}
use Rattle.std.proofs.lemmas.List.Quantifiers.{position-Some}
use Rattle.std.proofs.lemmas.List.Concat.{flat_map-append}
use Rattle.std.proofs.ByRecursion.{All-drop, All-from_get_or, All-take}
use Rattle.std.proofs.lemmas.Option.{get_or_from_slice_get}
use Rattle.recordings.specs.declared.entries.ChannelEntry.{ChannelEntry}
use Rattle.recordings.specs.Numbers.{bytes_of, number_from, numbers_in}
use Rattle.recordings.specs.Layout.{pair_of, EntryFits, place_of, ending, encoded, Records}
use Rattle.recordings.specs.Contents.{entry_from, entries_in}
use Rattle.recordings.specs.Refusals.{place_in, row_count_in, channel_count_in, edition_in, rows_place_in, Counted, PlacesAgree, UnfitFirst, unfit}
use Rattle.recordings.proofs.Words.{Byte, Word, bytes_back, length_numbers, next_number, number_word, numbers_words}
use Rattle.recordings.proofs.Pairs.{length_entries, pairs_back}
use Rattle.recordings.proofs.Columns.{entry_found, length_entries_in}

-- the number at place q of a part
pub number_in_part : (p n q : ℕ) (bs : List ℕ) → q + 4 ≤ n → number_from (take n (drop p bs)) q ≡ number_from bs (p + q)
number_in_part p n q bs h =
    let at : (i : ℕ) → i < n → get_or (take n (drop p bs)) i 0 ≡ get_or bs (p + i) 0 = λ i l. get_or-take n (drop p bs) i 0 l ∙ get_or-drop p bs i 0 in
    let e0 = at q (omega arith) in
    let e1 = at (q + 1) (omega arith) in
    let e2 = at (q + 2) (omega arith) in
    let e3 = at (q + 3) (omega arith) in
    let a1 : p + (q + 1) ≡ p + q + 1 = omega arith in
    let a2 : p + (q + 2) ≡ p + q + 2 = omega arith in
    let a3 : p + (q + 3) ≡ p + q + 3 = omega arith in
    cc

-- the entries that stand in a part of 8 c bytes
pub length_entries_part : (p c : ℕ) (bs : List ℕ) → p + 8 * c ≤ length bs → length (entries_in (numbers_in (take (8 * c) (drop p bs)))) ≡ c
length_entries_part p c bs h =
    let l : length (take (8 * c) (drop p bs)) ≡ 8 * c = length-take-le _ _ (simp length-drop (omega arith)) in
    omega (arith, length_entries (numbers_in (take (8 * c) (drop p bs))), length_numbers (take (8 * c) (drop p bs)))

pub entry_of_part : (p n q : ℕ) (bs : List ℕ) → q + 8 ≤ n → entry_from (take n (drop p bs)) q ≡ entry_from bs (p + q)
entry_of_part p n q bs h =
    let m = number_in_part p n q bs (omega arith) in
    let t = number_in_part p n (q + 4) bs (omega arith) in
    let a : p + (q + 4) ≡ p + q + 4 = omega arith in
    cc

-- no entry is unfit
past : (b : Bool) (i : ℕ) → None ≡ cond b (Some i) None → b ≡ false
past true i e = absurd (false≢true (ap is_some e))
past false i e = refl

all_fit : (es : List ChannelEntry) → None ≡ position unfit es → AllByRecursion EntryFits es
all_fit es e =
    let d : ChannelEntry = record { modulus = 0; bound = 0 } in
    let end = ltb-false _ _ (past _ _ e) in
    All-from_get_or EntryFits es d (λ k h. not-false _ (fails_before_first unfit es k d (omega arith)))

-- the last 16 bytes are those of the last four numbers
ending_bytes : (bs : List ℕ) → ((i : ℕ) → Byte (get_or bs i 0)) → 16 ≤ length bs
    → flat_map bytes_of (place_in bs ∷ row_count_in bs ∷ channel_count_in bs ∷ edition_in bs ∷ []) ≡ drop (length bs - 16) bs
ending_bytes bs h l =
    let n = length bs in
    let e0 = next_number bs (n - 16) h (omega arith) in
    let e1 = next_number bs (n - 12) h (omega arith) in
    let e2 = next_number bs (n - 8) h (omega arith) in
    let e3 = next_number bs (n - 4) h (omega arith) in
    let a0 : n - 16 + 4 ≡ n - 12 = omega arith in
    let a1 : n - 12 + 4 ≡ n - 8 = omega arith in
    let a2 : n - 8 + 4 ≡ n - 4 = omega arith in
    let z : drop (n - 4 + 4) bs ≡ [] = drop_all _ bs (omega arith) in
    cc

-- every check passes: the bytes record what stands in their parts
passing : (bs : List ℕ) → ((i : ℕ) → Byte (get_or bs i 0)) → Counted bs → PlacesAgree bs
    → None ≡ position unfit (entries_in (numbers_in (take (8 * channel_count_in bs) (drop (place_in bs) bs))))
    → Records bs (take (rows_place_in bs) bs) (numbers_in (take (place_in bs - rows_place_in bs) (drop (rows_place_in bs) bs))) (entries_in (numbers_in (take (8 * channel_count_in bs) (drop (place_in bs) bs))))
passing bs small counted agree fit =
    let a = rows_place_in bs in
    let p = place_in bs in
    let c = channel_count_in bs in
    let n = row_count_in bs in
    let rows = take (p - a) (drop a bs) in
    let ents = take (8 * c) (drop p bs) in
    let xs = numbers_in rows in
    let es = entries_in (numbers_in ents) in
    let ends : p + 8 * c + 16 ≡ length bs = agree.ends in
    let room : 4 * (n * c) ≤ p = agree.rows_fit in
    let some : 1 ≤ c = counted.some in
    let all : AllByRecursion Byte bs = All-from_get_or Byte bs 0 (λ i _. small i) in
    let lnote : length (take a bs) ≡ a = length-take-le a bs (omega arith) in
    let span : p - a ≡ 4 * (n * c) = omega arith in
    let lrows : length rows ≡ 4 * (n * c) = length-take-le (p - a) (drop a bs) (simp length-drop (omega arith)) ∙ span in
    let lents : length ents ≡ 8 * c = length-take-le _ _ (simp length-drop (omega arith)) in
    let lxs : length xs ≡ n * c = length_numbers rows ∙ omega arith in
    let les : length es ≡ c = length_entries_part p c bs (omega arith) in
    let count : length xs / length es ≡ n = ap (λ z. length xs / z) les ∙ div-eq_of_eq-mul_left some lxs in
    let place : place_of (take a bs) xs ≡ p = omega arith in
    let brows : flat_map bytes_of xs ≡ rows = bytes_back rows (n * c) (All-take Byte _ _ (All-drop Byte a bs all)) lrows in
    let bents : flat_map bytes_of (flat_map pair_of es) ≡ ents =
    ap (flat_map bytes_of) (pairs_back (numbers_in ents) c (length_numbers ents ∙ omega arith)) ∙ bytes_back ents (2 * c) (All-take Byte _ _ (All-drop Byte p bs all)) (omega arith) in
    let bend : flat_map bytes_of (ending (take a bs) xs es) ≡ drop (length bs - 16) bs =
    ap (λ z. flat_map bytes_of (z ∷ length xs / length es ∷ length es ∷ 1 ∷ [])) place
    ∙ ap (λ z. flat_map bytes_of (p ∷ z ∷ length es ∷ 1 ∷ [])) count
    ∙ ap (λ z. flat_map bytes_of (p ∷ n ∷ z ∷ 1 ∷ [])) les
    ∙ ap (λ z. flat_map bytes_of (p ∷ n ∷ c ∷ z ∷ [])) (sym counted.of_edition.edition_is)
    ∙ ending_bytes bs small counted.of_edition.long in
    let d1 : drop (8 * c) (drop p bs) ≡ drop (length bs - 16) bs = drop-drop (8 * c) p bs ∙ ap (λ z. drop z bs) (let e : p + 8 * c ≡ length bs - 16 = omega arith in e) in
    let d2 : drop (p - a) (drop a bs) ≡ drop p bs = drop-drop (p - a) a bs ∙ ap (λ z. drop z bs) (let e : a + (p - a) ≡ p = omega arith in e) in
    let s1 : ents ++ drop (length bs - 16) bs ≡ drop p bs = ap (λ z. ents ++ z) (sym d1) ∙ take-append-drop (8 * c) (drop p bs) in
    let s2 : rows ++ drop p bs ≡ drop a bs = ap (λ z. rows ++ z) (sym d2) ∙ take-append-drop (p - a) (drop a bs) in
    let whole : encoded (take a bs) xs es ≡ bs =
    ap (λ z. take a bs ++ z) (flat_map-append bytes_of xs _ ∙ ap (λ z. flat_map bytes_of xs ++ z) (flat_map-append bytes_of (flat_map pair_of es) _))
    ∙ ap (λ z. take a bs ++ (z ++ (flat_map bytes_of (flat_map pair_of es) ++ flat_map bytes_of (ending (take a bs) xs es)))) brows
    ∙ ap (λ z. take a bs ++ (rows ++ (z ++ flat_map bytes_of (ending (take a bs) xs es)))) bents
    ∙ ap (λ z. take a bs ++ (rows ++ (ents ++ z))) bend
    ∙ ap (λ z. take a bs ++ (rows ++ z)) s1
    ∙ ap (λ z. take a bs ++ z) s2
    ∙ take-append-drop a bs in
    let low : Word p = number_word _ _ _ _ (small (length bs - 16)) (small (length bs - 16 + 1)) (small (length bs - 16 + 2)) (small (length bs - 16 + 3)) in
    record {
      recordable = record {
        some = omega arith;
        few = omega (arith, counted.few);
        whole = lxs ∙ ap (λ z. z * c) (sym count) ∙ ap (λ z. length xs / length es * z) (sym les);
        small = numbers_words rows (All-take Byte _ _ (All-drop Byte a bs all));
        fit = all_fit es fit;
        reached = omega arith;
      };
      bytes_are = sym whole;
    }

-- the same, of the parts that the code has
pub passed : (bs note rows ents : List ℕ) → ((i : ℕ) → Byte (get_or bs i 0)) → Counted bs → PlacesAgree bs
    → note ≡ take (rows_place_in bs) bs → rows ≡ take (place_in bs - rows_place_in bs) (drop (rows_place_in bs) bs) → ents ≡ take (8 * channel_count_in bs) (drop (place_in bs) bs)
    → None ≡ position unfit (entries_in (numbers_in ents))
    → Records bs note (numbers_in rows) (entries_in (numbers_in ents))
passed bs note rows ents small counted agree enote erows eents fit =
    rw (enote, erows, eents) (passing bs small counted agree (rw eents at fit))

-- and an entry that is unfit in its part is unfit in the bytes
pub unfit_at : (bs ents : List ℕ) (k : ℕ) → PlacesAgree bs → ents ≡ take (8 * channel_count_in bs) (drop (place_in bs) bs)
    → Some k ≡ position unfit (entries_in (numbers_in ents)) → UnfitFirst bs (place_in bs) (channel_count_in bs) k
unfit_at bs ents k agree e u =
    let p = place_in bs in
    let c = channel_count_in bs in
    let es = entries_in (numbers_in ents) in
    let d : ChannelEntry = record { modulus = 0; bound = 0 } in
    let ends : p + 8 * c + 16 ≡ length bs = agree.ends in
    let l : length ents ≡ 8 * c = ap length e ∙ length-take-le _ _ (simp length-drop (omega arith)) in
    let same : (i : ℕ) → i < c → get_or es i d ≡ entry_from bs (p + 8 * i) =
    λ i h. get_or_from_slice_get es i (entry_from ents (8 * i)) d (entry_found ents i (omega arith)) ∙ ap (λ z. entry_from z (8 * i)) e ∙ entry_of_part p (8 * c) (8 * i) bs (omega arith) in
    let so = position-Some unfit es k d (sym u) in
    let lt : k < c = omega (arith, so.0, length_entries_in ents) in
    record {
      within = lt;
      fit_before = λ i h. subst EntryFits (same i (omega arith)) (not-false _ (so.2 i h));
      unfit = λ f. true≢false (sym (subst EntryFits (sym (same k lt)) f) ∙ not-true _ so.1);
    }
