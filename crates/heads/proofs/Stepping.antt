-- What waits in a table or a track, one step on.
use Rattle.std.proofs.Common.{◌≡◌, ℕ, suc, ◌+◌, ◌-◌, ◌<◌, ◌≤◌, true, List, length, get_or, drop, Some, None, Ok, Err, Option, Result, refl, ap, ◌∙◌, add-one, arith, MatchOption}
use Rattle.std.proofs.lemmas.List.{drop_all, drop_more}
use Rattle.heads.specs.declared.faults.HeadFault.{HeadFault}
use Rattle.heads.specs.declared.faults.HeadFault.TheVariants.{End}
use Rattle.heads.specs.Advancing.{Advances}
use Rattle.heads.specs.Answers.{Reads, answered}
use Rattle.heads.specs.Figures.{fits}
use Rattle.heads.specs.EncoderTracks.{track_reading, track_readings, track_fits, track_told, track_waits}
use Rattle.heads.specs.PhaseTables.{entry_of, table_told, table_waits}

table_end : (m t i : ℕ) (xs : List ℕ) → fits m t ≡ true → length xs ≤ i → Reads (table_told m t) (table_waits m t (drop i xs)) (Err End) (table_told m t) (table_waits m t (drop i xs))
table_end m t i xs e h = record { same = refl; answers = rw (drop_all i xs h, e); leaves = rw (drop_all i xs h, e) }

table_step : (m t i : ℕ) (xs : List ℕ) (r : Result ℕ HeadFault) → fits m t ≡ true → i < length xs → r ≡ answered (entry_of m (get_or xs i 0))
    → Reads (table_told m t) (table_waits m t (drop i xs)) r (table_told m t) (table_waits m t (drop (i + 1) xs))
table_step m t i xs r e h q = record { same = refl; answers = rw (drop_more xs i 0 h, e) q; leaves = rw (drop_more xs i 0 h, e) }

-- a table that has gone on from number i to number j
pub table_reads : (m t i j : ℕ) (xs : List ℕ) (o : Option ℕ) (r : Result ℕ HeadFault) → fits m t ≡ true → Advances (length xs) i o j → MatchOption o (r ≡ Err End) (λ k. r ≡ answered (entry_of m (get_or xs k 0)))
    → Reads (table_told m t) (table_waits m t (drop i xs)) r (table_told m t) (table_waits m t (drop j xs))
table_reads m t i j xs None r e (h, s) q = rw (s, q) (table_end m t i xs e h)
table_reads m t i j xs (Some k) r e (h, p, s) q = rw s (table_step m t i xs r e h (q ∙ ap (λ (n : ℕ). answered (entry_of m (get_or xs n 0))) p))

-- one reading of a track less
track_step : (m p v d n k r : ℕ) → track_fits m p v d n ≡ true → k < n → r ≡ track_reading m p v d k
    → Reads (track_told m p v d n) (track_waits m p v d n k) (Ok r) (track_told m p v d n) (track_waits m p v d n (k + 1))
track_step m p v d n k r e h q =
    let more : n - k ≡ suc (n - (k + 1)) = omega arith in
    record { same = refl; answers = rw (more, e) (ap Ok q); leaves = rw (more, e) (ap (λ (j : ℕ). track_readings m p v d j (n - (k + 1))) (add-one k)) }

-- a track that has gone on from reading i to reading j
pub track_reads : (m p v d n i j k r : ℕ) → track_fits m p v d n ≡ true → Advances n i (Some k) j → r ≡ track_reading m p v d k
    → Reads (track_told m p v d n) (track_waits m p v d n i) (Ok r) (track_told m p v d n) (track_waits m p v d n j)
track_reads m p v d n i j k r e (h, q, s) a = rw s (track_step m p v d n i r e h (a ∙ ap (track_reading m p v d) q))
