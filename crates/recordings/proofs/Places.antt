-- What stands at each place of a recording's bytes.
use Rattle.std.proofs.Common.{◌≡◌, ℕ, ◌+◌, ◌*◌, ◌/◌, ◌^◌, ◌<◌, ◌≤◌, true, ltb, leb, List, [], ◌∷◌, ◌++◌, length, get_or, sym, ap, ◌∙◌, div-le_self, arith, length-append}
use Rattle.std.specs.List.{flat_map, AllByRecursion}
use Rattle.std.proofs.lemmas.List.{get_or-append-add, get_or_append_left}
use Rattle.std.proofs.ByRecursion.{All-append}
use Rattle.std.proofs.lemmas.Bool.{and_parts, leb-true, ltb-true}
use Rattle.heads.specs.Figures.{fits}
use Rattle.recordings.specs.declared.entries.ChannelEntry.{ChannelEntry}
use Rattle.recordings.specs.Numbers.{bytes_of, number_from}
use Rattle.recordings.specs.Layout.{pair_of, EntryFits, place_of, ending, encoded, Recordable}
use Rattle.recordings.specs.Refusals.{place_in, row_count_in, channel_count_in, edition_in}
use Rattle.recordings.proofs.Words.{Word, numbers_back, number_at, number_after, length_bytes}
use Rattle.recordings.proofs.Pairs.{entries_back, length_pairs, entry_of_numbers}

-- the limits of a fit entry
pub fit_limits : (m t : ℕ) → fits m t ≡ true → (m ≤ 2 ^ 31) × (4 * t < m)
fit_limits m t e =
    let p = and_parts (leb 1 m) _ e in
    let q = and_parts (leb m (2 ^ 31)) (ltb (4 * t) m) p.1 in
    (leb-true m (2 ^ 31) q.0, ltb-true (4 * t) m q.1)

pub pairs_words : (es : List ChannelEntry) → AllByRecursion EntryFits es → AllByRecursion Word (flat_map pair_of es)
pairs_words [] h = tt
pairs_words (e ∷ es) h = let l = fit_limits e.modulus e.bound h.0 in (omega arith, (omega arith, pairs_words es h.1))

-- all numbers after the note
abbrev pub numbers_after : (note xs : List ℕ) (es : List ChannelEntry) → List ℕ
numbers_after note xs es = xs ++ (flat_map pair_of es ++ ending note xs es)

pub all_words : (note xs : List ℕ) (es : List ChannelEntry) → Recordable note xs es → AllByRecursion Word (numbers_after note xs es)
all_words note xs es r =
    let n = div-le_self (length xs) (length es) in
    let low : Word (place_of note xs) = r.reached in
    let mid : Word (length xs / length es) = omega (arith, r.reached) in
    let high : Word (length es) = omega (arith, r.few) in
    All-append Word xs _ r.small (All-append Word (flat_map pair_of es) _ (pairs_words es r.fit) (low, (mid, (high, (omega arith, tt)))))

pub length_after : (note xs : List ℕ) (es : List ChannelEntry) → length (numbers_after note xs es) ≡ length xs + (2 * length es + 4)
length_after note xs es = length-append xs _ ∙ ap (λ n. length xs + n) (length-append (flat_map pair_of es) _ ∙ ap (λ n. n + 4) (length_pairs es))

pub number_in : (note ys : List ℕ) (i : ℕ) → AllByRecursion Word ys → i < length ys → number_from (note ++ flat_map bytes_of ys) (length note + 4 * i) ≡ get_or ys i 0
number_in note ys i h l =
    let b = length_bytes ys in
    number_after note (flat_map bytes_of ys) (4 * i) ∙ sym (number_at (flat_map bytes_of ys) i (omega arith)) ∙ ap (λ z. get_or z i 0) (numbers_back ys h)

-- the bytes of a recording say its numbers at their places
pub record Says (bs note xs : List ℕ) (es : List ChannelEntry) : Type 0 where
  pub length_is : place_of note xs + 8 * length es + 16 ≡ length bs
  pub place_is : place_in bs ≡ place_of note xs
  pub rows_are : row_count_in bs ≡ length xs / length es
  pub channels_are : channel_count_in bs ≡ length es
  pub edition_is : edition_in bs ≡ 1
  pub modulus_at : (k : ℕ) (d : ChannelEntry) → k < length es → number_from bs (place_of note xs + 8 * k) ≡ (get_or es k d).modulus
  pub bound_at : (k : ℕ) (d : ChannelEntry) → k < length es → number_from bs (place_of note xs + 8 * k + 4) ≡ (get_or es k d).bound

pub says : (note xs : List ℕ) (es : List ChannelEntry) → Recordable note xs es → Says (encoded note xs es) note xs es
says note xs es r =
    let ys = numbers_after note xs es in
    let ps = flat_map pair_of es in
    let bs = encoded note xs es in
    let w = all_words note xs es r in
    let la : length ys ≡ length xs + (2 * length es + 4) = length_after note xs es in
    let lp : length ps ≡ 2 * length es = length_pairs es in
    let lb : length bs ≡ length note + 4 * length ys = length-append note _ ∙ ap (λ n. length note + n) (length_bytes ys) in
    let tail : (j p : ℕ) → j < 4 → p ≡ length note + 4 * (length xs + (length ps + j)) → number_from bs p ≡ get_or (ending note xs es) j 0 =
    λ j p h e. ap (number_from bs) e ∙ number_in note ys (length xs + (length ps + j)) w (omega arith) ∙ get_or-append-add xs _ (length ps + j) 0 ∙ get_or-append-add ps _ j 0 in
    let pair : (i p : ℕ) → i < length ps → p ≡ length note + 4 * (length xs + i) → number_from bs p ≡ get_or ps i 0 =
    λ i p h e. ap (number_from bs) e ∙ number_in note ys (length xs + i) w (omega arith) ∙ get_or-append-add xs _ i 0 ∙ get_or_append_left ps _ 0 i h in
    let entry : (k : ℕ) (d : ChannelEntry) → k < length es → get_or es k d ≡ record { modulus = get_or ps (2 * k) 0; bound = get_or ps (2 * k + 1) 0 } =
    λ k d h. ap (λ z. get_or z k d) (sym (entries_back es)) ∙ entry_of_numbers ps k d (omega arith) in
    record {
      length_is = omega arith;
      place_is = tail 0 _ (omega arith) (omega arith);
      rows_are = tail 1 _ (omega arith) (omega arith);
      channels_are = tail 2 _ (omega arith) (omega arith);
      edition_is = tail 3 _ (omega arith) (omega arith);
      modulus_at = λ k d h. pair (2 * k) _ (omega arith) (omega arith) ∙ sym (ap (λ (e : ChannelEntry). e.modulus) (entry k d h));
      bound_at = λ k d h. pair (2 * k + 1) _ (omega arith) (omega arith) ∙ sym (ap (λ (e : ChannelEntry). e.bound) (entry k d h));
    }

pub length_encoded : (note xs : List ℕ) (es : List ChannelEntry) → length (encoded note xs es) ≡ length note + 4 * length xs + 8 * length es + 16
length_encoded note xs es = omega (arith, length-append note (flat_map bytes_of (numbers_after note xs es)), length_bytes (numbers_after note xs es), length_after note xs es)
