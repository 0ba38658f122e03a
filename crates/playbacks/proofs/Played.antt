-- The channels of a recording that is played, one by one.
use Rattle.std.proofs.Common.{◌≡◌, ℕ, zero, suc, ◌+◌, ◌<◌, ◌≤◌, Bool, true, false, cond, leb, ◌≢◌, List, [], ◌∷◌, length, get_or, drop, set, replicate, Some, None, Ok, Err, Option, Result, sym, refl, ap, ◌∙◌, subst, add-zero, add-suc, suc-add, arith}
use Rattle.std.specs.List.{slice_get}
use Rattle.std.specs.Option.{MatchOption, ok_or}
use Rattle.std.specs.Result.{result_ok}
use Rattle.std.proofs.lemmas.List.{get_or-set_same, get_or-set_other}
use Rattle.std.proofs.lemmas.Bool.{le-leb, lt-leb}
use Rattle.heads.specs.declared.plates.Figures.{Figures}
use Rattle.heads.specs.declared.faults.HeadFault.{HeadFault}
use Rattle.heads.specs.Answers.{Reads}
use Rattle.heads.specs.Channels.{Channel, channel_of}
use Rattle.heads.specs.PhaseTables.{table_told, table_waits}
use Rattle.banks.specs.declared.faults.BankFault.{BankFault}
use Rattle.banks.specs.declared.faults.BankFault.TheVariants.{NoSuchChannel}
use Rattle.banks.specs.Banks.{channel_at, channel_figures, channel_rest, answered_by, told_by, of_channel, read_on, BankReads}
use Rattle.recordings.specs.declared.entries.ChannelEntry.{ChannelEntry}
use Rattle.recordings.specs.declared.recording.Recording.{Recording}
use Rattle.recordings.specs.declared.refusals.CheckRefusal.{CheckRefusal}
use Rattle.recordings.specs.Contents.{column_of, entries_of, note_of, rows_of}
use Rattle.recordings.specs.Laws.{RecordsOne, RefusedRecordsNothing}
use Rattle.recordings.specs.Layout.{Records}
use Rattle.recordings.specs.Refusals.{CheckRefused, Checked}
use Rattle.playbacks.specs.declared.columns.Column.{Column}
use Rattle.playbacks.specs.Columns.{IsColumn, Found}
use Rattle.playbacks.specs.Playing.{PlayedBytes, Plays, played, played_from, if_few, few_entries, playback_channels}

pub few_length : {X : Type 0} (b : Bool) (xs : List X) → length (if_few b xs) ≡ cond b (length xs) 0
few_length true xs = refl
few_length false xs = refl

from_length : (r : Recording) (rows : List ℕ) (k : ℕ) (es : List ChannelEntry) → length (played_from r rows k es) ≡ length es
from_length r rows k [] = refl
from_length r rows k (e ∷ es) = ap suc (from_length r rows (suc k) es)

pub count_is : (r : Recording) (rows : List ℕ) → length (playback_channels (Some r) rows) ≡ cond (leb (length (entries_of r)) 8) (length (entries_of r)) 0
count_is r rows = from_length r rows 0 (few_entries r) ∙ few_length (leb (length (entries_of r)) 8) (entries_of r)

-- a channel that has an entry, and one that has none
at_from : (r : Recording) (rows : List ℕ) (i p : ℕ) (es : List ChannelEntry) (e : ChannelEntry) → slice_get es p ≡ Some e → channel_at p (played_from r rows i es) ≡ Some (played r (get_or rows (i + p) 0) (i + p) e)
at_from r rows i p [] e h = cc
at_from r rows i zero (x ∷ es) e h = let same : x ≡ e = cc in rw (add-zero i) (ap (λ (y : ChannelEntry). Some (played r (get_or rows i 0) i y)) same)
at_from r rows i (suc p) (x ∷ es) e h = at_from r rows (suc i) p es e h ∙ ap (λ (k : ℕ). Some (played r (get_or rows k 0) k e)) (suc-add i p ∙ sym (add-suc i p))

none_from : (r : Recording) (rows : List ℕ) (i p : ℕ) (es : List ChannelEntry) → slice_get es p ≡ None → channel_at p (played_from r rows i es) ≡ None
none_from r rows i p [] h = refl
none_from r rows i zero (x ∷ es) h = cc
none_from r rows i (suc p) (x ∷ es) h = none_from r rows (suc i) p es h

-- rows before the first channel told do not matter
before : (r : Recording) (rows : List ℕ) (k i j : ℕ) (es : List ChannelEntry) → k < i → played_from r (set rows k j) i es ≡ played_from r rows i es
before r rows k i j [] h = refl
before r rows k i j (e ∷ es) h =
    let ne : i ≢ k = omega arith in
    let same : get_or (set rows k j) i 0 ≡ get_or rows i 0 = get_or-set_other rows k i j 0 ne in
    ap (λ (n : ℕ). played r n i e ∷ played_from r (set rows k j) (suc i) es) same ∙ ap (λ (cs : List Channel). played r (get_or rows i 0) i e ∷ cs) (before r rows k (suc i) j es (omega arith))

-- one channel goes on by a row
rest_from : (r : Recording) (rows : List ℕ) (i p k j : ℕ) (es : List ChannelEntry) (e : ChannelEntry) → i + p ≡ k → k < length rows → slice_get es p ≡ Some e → played r j k e ≡ read_on (played r (get_or rows k 0) k e)
    → played_from r (set rows k j) i es ≡ channel_rest p (played_from r rows i es)
rest_from r rows i p k j [] e s l h q = cc
rest_from r rows i zero k j (x ∷ es) e s l h q =
    let same : x ≡ e = cc in
    let ik : k ≡ i = omega arith in
    let here : played r (get_or (set rows k j) i 0) i x ≡ read_on (played r (get_or rows i 0) i x) =
    subst (λ (n : ℕ). played r (get_or (set rows k j) n 0) n x ≡ read_on (played r (get_or rows n 0) n x)) ik
    (subst (λ (y : ChannelEntry). played r (get_or (set rows k j) k 0) k y ≡ read_on (played r (get_or rows k 0) k y)) (sym same) (ap (λ (n : ℕ). played r n k e) (get_or-set_same rows k j 0 l) ∙ q)) in
    ap (λ (c : Channel). c ∷ played_from r (set rows k j) (suc i) es) here ∙ ap (λ (cs : List Channel). read_on (played r (get_or rows i 0) i x) ∷ cs) (before r rows k (suc i) j es (omega arith))
rest_from r rows i (suc p) k j (x ∷ es) e s l h q =
    let ne : i ≢ k = omega arith in
    ap (λ (n : ℕ). played r n i x ∷ played_from r (set rows k j) (suc i) es) (get_or-set_other rows k i j 0 ne)
    ∙ ap (λ (cs : List Channel). played r (get_or rows i 0) i x ∷ cs) (rest_from r rows (suc i) p k j es e (omega arith) l h q)

none_rest : (p : ℕ) (cs : List Channel) → channel_at p cs ≡ None → channel_rest p cs ≡ cs
none_rest p [] h = refl
none_rest zero (c ∷ cs) h = cc
none_rest (suc p) (c ∷ cs) h = ap (λ (ds : List Channel). c ∷ ds) (none_rest p cs h)

module _ (r : Recording) (rows : List ℕ) (k : ℕ) where
  module _ (e : ChannelEntry) (h : Some e ≡ slice_get (few_entries r) k) where
    there : channel_at k (playback_channels (Some r) rows) ≡ Some (played r (get_or rows k 0) k e)
    there = at_from r rows 0 k (few_entries r) e (sym h) ∙ ap (λ (n : ℕ). Some (played r (get_or rows n 0) n e)) (omega arith)

    pub tells_there : (f : Figures) → f ≡ table_told e.modulus e.bound → Ok f ≡ channel_figures k (playback_channels (Some r) rows)
    tells_there f q = ap Ok q ∙ ap (told_by k) (sym there)

    pub reads_there : (j : ℕ) (a : Result ℕ HeadFault) → k < length rows → Reads (table_told e.modulus e.bound) (table_waits e.modulus e.bound (drop (get_or rows k 0) (column_of r k))) a (table_told e.modulus e.bound) (table_waits e.modulus e.bound (drop j (column_of r k)))
        → BankReads (playback_channels (Some r) rows) k (of_channel k a) (playback_channels (Some r) (set rows k j))
    reads_there j a l d = record {
      answers = ap (of_channel k) d.answers ∙ ap (answered_by k) (sym there);
      leaves = rest_from r rows 0 k k j (few_entries r) e (omega arith) l (sym h) (ap (channel_of (table_told e.modulus e.bound)) d.leaves);
    }

-- what follows of an option from what is known of it
pub of_each : {T : Type 0} (o : Option T) {P Q : Type 0} {R S : T → Type 0} → MatchOption o P R → (P → Q) → ((x : T) → R x → S x) → MatchOption o Q S
of_each None h f g = f h
of_each (Some x) h f g = g x h

-- how many channels are played
pub counted : (o : Option Recording) (rows : List ℕ) (n : ℕ) → MatchOption o (n ≡ 0) (λ r. n ≡ cond (leb (length (entries_of r)) 8) (length (entries_of r)) 0) → n ≡ length (playback_channels o rows)
counted None rows n h = h
counted (Some r) rows n h = h ∙ sym (count_is r rows)

-- the column of a channel that is played, if there is one
pub found : (o : Option Recording) (k : ℕ) (p : Option Column) → MatchOption o (p ≡ None) (λ r. MatchOption p (slice_get (few_entries r) k ≡ None) (IsColumn r k)) → Found o k (ok_or p (NoSuchChannel k))
found None k p h = rw h (refl, λ rows. refl)
found (Some r) k None h = (refl, λ rows. none_from r rows 0 k (few_entries r) h)
found (Some r) k (Some c) h =
    (ap Some (sym h.recording_is), record { recording_is = refl; channel_is = h.channel_is; entry_is = rw h.recording_is h.entry_is; within = h.within })

-- a channel that is not there is read
pub reads_none : (cs : List Channel) (k : ℕ) (x : Result ℕ BankFault) → channel_at k cs ≡ None → x ≡ Err (NoSuchChannel k) → BankReads cs k x cs
reads_none cs k x n e = record { answers = e ∙ ap (answered_by k) (sym n); leaves = sym (none_rest k cs n) }

-- what the column of a channel tells, and what its read is
module _ (o : Option Recording) (rows : List ℕ) (k : ℕ) (c : Column) (f : Found o k (Ok c)) where
  pub tells_column : (g : Figures) → g ≡ table_told c.entry.modulus c.entry.bound → Ok g ≡ channel_figures k (playback_channels o rows)
  tells_column g q = rw f.0 (tells_there c.recording rows k c.entry (sym f.1.entry_is) g q)

  pub reads_column : (j : ℕ) (a : Result ℕ HeadFault) (x : Result ℕ BankFault) → k < length rows
      → Reads (table_told c.entry.modulus c.entry.bound) (table_waits c.entry.modulus c.entry.bound (drop (get_or rows k 0) (column_of c.recording c.channel))) a (table_told c.entry.modulus c.entry.bound) (table_waits c.entry.modulus c.entry.bound (drop j (column_of c.recording c.channel)))
      → x ≡ of_channel k a → BankReads (playback_channels o rows) k x (playback_channels o (set rows k j))
  reads_column j a x l d y =
      let m = c.entry.modulus in
      let t = c.entry.bound in
      let here = subst (λ (n : ℕ). Reads (table_told m t) (table_waits m t (drop (get_or rows k 0) (column_of c.recording n))) a (table_told m t) (table_waits m t (drop j (column_of c.recording n)))) f.1.channel_is d in
      rw (f.0, y) (reads_there c.recording rows k c.entry (sym f.1.entry_is) j a l here)

-- every channel stands at row 0
pub no_rows : (n k : ℕ) → get_or {A = ℕ} (replicate n 0) k 0 ≡ 0
no_rows zero k = refl
no_rows (suc n) zero = refl
no_rows (suc n) (suc k) = no_rows n k

few_all : {X : Type 0} (xs : List X) → length xs ≤ 8 → if_few (leb (length xs) 8) xs ≡ xs
few_all xs h = rw (le-leb (length xs) 8 h)

pub plays_first : (r : Recording) → length (entries_of r) ≤ 8 → Plays (rows_of r) (entries_of r) (playback_channels (Some r) (replicate 8 0))
plays_first r h = record {
  as_many = from_length r (replicate 8 0) 0 (few_entries r) ∙ ap length (few_all (entries_of r) h);
  tables = λ k e q. there r (replicate 8 0) k e (sym (ap (λ (es : List ChannelEntry). slice_get es k) (few_all (entries_of r) h) ∙ q)) ∙ ap (λ (i : ℕ). Some (played r i k e)) (no_rows 8 k);
}

pub plays_none : (r : Recording) (rows : List ℕ) → 8 < length (entries_of r) → playback_channels (Some r) rows ≡ []
plays_none r rows h = rw (lt-leb (length (entries_of r)) 8 h)

-- bytes that are a recording
plays_bytes : (bs : List ℕ) (r : Recording) (cs : List Channel) → RecordsOne → RefusedRecordsNothing → Records bs (note_of r) (rows_of r) (entries_of r) → (length (entries_of r) ≤ 8 → Plays (rows_of r) (entries_of r) cs) → PlayedBytes bs cs
plays_bytes bs r cs one none d p = record {
  recorded = λ note xs es d'.
      let s = one bs (note_of r) note (rows_of r) xs (entries_of r) es d d' in
      subst (λ (ys : List ℕ). Plays ys es cs) s.rows_same (subst (λ (fs : List ChannelEntry). Plays (rows_of r) fs cs) s.entries_same (p d.recordable.few));
  refused = λ e x. absurd (none bs (note_of r) (rows_of r) (entries_of r) e x d);
}

-- bytes that are none
plays_nothing : (bs : List ℕ) (e : CheckRefusal) → RefusedRecordsNothing → CheckRefused bs e → PlayedBytes bs []
plays_nothing bs e none x = record { recorded = λ note xs es d. absurd (none bs note xs es e x d); refused = λ _ _. refl }

-- what the check of bytes answers is played from the first row on
pub plays_checked : (bs : List ℕ) (r : Result Recording CheckRefusal) → RecordsOne → RefusedRecordsNothing → Checked bs r → PlayedBytes bs (playback_channels (result_ok r) (replicate 8 0))
plays_checked bs (Ok r) one none d = plays_bytes bs r _ one none d (plays_first r)
plays_checked bs (Err e) one none x = plays_nothing bs e none x
