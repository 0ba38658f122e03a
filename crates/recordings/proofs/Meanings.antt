-- The laws of recordings.
use Rattle.std.proofs.Common.{◌≡◌, ℕ, ◌+◌, ◌*◌, ◌/◌, ◌<◌, List, ◌++◌, length, get_or, take, drop, Ok, Err, sym, refl, ap, ◌∙◌, arith}
use Rattle.std.specs.List.{flat_map}
use Rattle.std.proofs.lemmas.List.{take_at, drop_at}
use Rattle.std.proofs.ByRecursion.{All-get_or}
use Rattle.heads.specs.Figures.{fits}
use Rattle.recordings.specs.declared.entries.ChannelEntry.{ChannelEntry}
use Rattle.recordings.specs.declared.refusals.CheckRefusal.TheVariants.{TooShort, Edition, Channels, Places, UnfitEntry}
use Rattle.recordings.specs.Numbers.{number_from, numbers_in}
use Rattle.recordings.specs.Layout.{pair_of, EntryFits, place_of, Records}
use Rattle.recordings.specs.Contents.{note_of, rows_of, entries_of, entries_in}
use Rattle.recordings.specs.Refusals.{place_in, row_count_in, channel_count_in, PlacesAgree, FitsFrom}
use Rattle.recordings.specs.Laws.{RefusedRecordsNothing, RecordsOne, IsReadBack}
use Rattle.recordings.proofs.Words.{numbers_back}
use Rattle.recordings.proofs.Pairs.{entries_back, length_pairs}
use Rattle.recordings.proofs.Places.{all_words, numbers_after, Says, says}

pub bytes_say : (bs note xs : List ℕ) (es : List ChannelEntry) → Records bs note xs es → Says bs note xs es
bytes_say bs note xs es r = rw r.bytes_are (says note xs es r.recordable)

-- entry k is fit where the bytes are a recording
fit_at : (bs note xs : List ℕ) (es : List ChannelEntry) (k : ℕ) → Records bs note xs es → k < channel_count_in bs → FitsFrom bs (place_in bs + 8 * k)
fit_at bs note xs es k r h =
    let s = bytes_say bs note xs es r in
    let d : ChannelEntry = record { modulus = 0; bound = 0 } in
    let l : k < length es = omega (arith, s.channels_are) in
    let m : number_from bs (place_in bs + 8 * k) ≡ (get_or es k d).modulus = ap (λ p. number_from bs (p + 8 * k)) s.place_is ∙ s.modulus_at k d l in
    let t : number_from bs (place_in bs + 8 * k + 4) ≡ (get_or es k d).bound = ap (λ p. number_from bs (p + 8 * k + 4)) s.place_is ∙ s.bound_at k d l in
    ap (λ z. fits z (number_from bs (place_in bs + 8 * k + 4))) m ∙ ap (λ z. fits (get_or es k d).modulus z) t ∙ All-get_or EntryFits es k d l r.recordable.fit

agrees : (bs note xs : List ℕ) (es : List ChannelEntry) → Records bs note xs es → PlacesAgree bs
agrees bs note xs es r =
    let s = bytes_say bs note xs es r in
    let rows : row_count_in bs * channel_count_in bs ≡ length xs = ap (λ n. n * channel_count_in bs) s.rows_are ∙ ap (λ n. length xs / length es * n) s.channels_are ∙ sym r.recordable.whole in
    record { ends = omega (arith, s.place_is, s.channels_are, s.length_is); rows_fit = omega (arith, s.place_is) }

pub refused_records_nothing : RefusedRecordsNothing
refused_records_nothing bs note xs es TooShort h r = let s = bytes_say bs note xs es r in omega (arith, s.length_is)
refused_records_nothing bs note xs es Edition h r = h.1 (bytes_say bs note xs es r).edition_is
refused_records_nothing bs note xs es Channels h r =
    let s = bytes_say bs note xs es r in
    h.1 (omega (arith, s.channels_are, r.recordable.some)) (omega (arith, s.channels_are, r.recordable.few))
refused_records_nothing bs note xs es Places h r = h.1 (agrees bs note xs es r)
refused_records_nothing bs note xs es (UnfitEntry k) h r = h.2.unfit (fit_at bs note xs es k r h.2.within)

-- two parts of equal lengths
split : {X : Type 0} (a a' b b' : List X) → length a ≡ length a' → a ++ b ≡ a' ++ b' → (a ≡ a') × (b ≡ b')
split a a' b b' l e =
    let n = length a in
    (sym (take_at a b n refl) ∙ ap (take n) e ∙ take_at a' b' n (sym l), sym (drop_at a b n refl) ∙ ap (drop n) e ∙ drop_at a' b' n (sym l))

pub records_one : RecordsOne
records_one bs note note' xs xs' es es' r r' =
    let s = bytes_say bs note xs es r in
    let s' = bytes_say bs note' xs' es' r' in
    let ch : length es ≡ length es' = sym s.channels_are ∙ s'.channels_are in
    let ro : length xs ≡ length xs' =
    r.recordable.whole ∙ ap (λ n. n * length es) (sym s.rows_are ∙ s'.rows_are) ∙ ap (λ n. length xs' / length es' * n) ch ∙ sym r'.recordable.whole in
    let pl : place_of note xs ≡ place_of note' xs' = sym s.place_is ∙ s'.place_is in
    let no : length note ≡ length note' = omega arith in
    let parts = split note note' _ _ no (sym r.bytes_are ∙ r'.bytes_are) in
    let ys : numbers_after note xs es ≡ numbers_after note' xs' es' =
    sym (numbers_back _ (all_words note xs es r.recordable)) ∙ ap numbers_in parts.1 ∙ numbers_back _ (all_words note' xs' es' r'.recordable) in
    let rows = split xs xs' _ _ ro ys in
    let pairs = split (flat_map pair_of es) (flat_map pair_of es') _ _ (length_pairs es ∙ ap (λ n. 2 * n) ch ∙ sym (length_pairs es')) rows.1 in
    record { note_same = parts.0; rows_same = rows.0; entries_same = sym (entries_back es) ∙ ap entries_in pairs.0 ∙ entries_back es' }

pub reads_back : (bs note xs : List ℕ) (es : List ChannelEntry) → Records bs note xs es → IsReadBack bs note xs es
reads_back bs note xs es r (Ok x) c = records_one bs (note_of x) note (rows_of x) xs (entries_of x) es c r
reads_back bs note xs es r (Err e) c = refused_records_nothing bs note xs es e c r
