-- What a log holds, and what an append answers and leaves. Assumes nothing.
use Rattle.std.specs.Prelude.{◌≡◌, ℕ, ◌<◌, Bool, true, cond, List, [], ◌∷◌, ◌++◌, length, take, Ok, Err, Result, ◌==◌, slice_index_or, slice_set}
use Rattle.logs.specs.declared.logs.Log.{Log}
use Rattle.logs.specs.declared.refusals.AppendRefusal.{AppendRefusal}
use Rattle.logs.specs.declared.refusals.AppendRefusal.TheVariants.{Full}

-- what an append answers: refused exactly where there is no place left
abbrev pub append_answer : Bool → Result (Unit {0}) AppendRefusal
append_answer full = cond full (Err Full) (Ok tt)

-- the records after an append
abbrev pub with_record : {T : Type 0} → Bool → List T → T → List T
with_record full records x = cond full records (records ++ x ∷ [])

-- what the places hold after an append to n records: x in the next place, and every other as it was
abbrev pub with_placed : {T : Type 0} → Bool → (n : ℕ) → List T → T → List T
with_placed full n places x = cond full places (slice_set places n x)

-- x stands at place k of the records
pub record StandsAt {T : Type 0} (records : List T) (k : ℕ) (x : T) : Type 0 where
  pub within : k < length records
  pub here : x ≡ slice_index_or records k x

-- a sink that was full or not, and had taken the records xs, was handed x, answered r, and then is full or not and has taken ys
pub record Takes {T : Type 0} (full : Bool) (xs : List T) (x : T) (r : Result (Unit {0}) AppendRefusal) (full' : Bool) (ys : List T) : Type 0 where
  pub answers : r ≡ append_answer full
  pub records : ys ≡ with_record full xs x
  pub stays_full : full ≡ true → full' ≡ true

module _ {T : Type 0} where
  -- what all places hold, with and without a record
  abbrev pub places_of : Log T → List T
  places_of l = l.places.now

  -- the records, oldest first
  abbrev pub held : Log T → List T
  held l = take l.count (places_of l)

  -- as many records as places
  abbrev pub full_log : Log T → Bool
  full_log l = length (held l) == length (places_of l)

  -- a record was handed to the log l, which answered r and is then m
  pub record Appended (l : Log T) (x : T) (r : Result (Unit {0}) AppendRefusal) (m : Log T) : Type 0 where
    pub answers : r ≡ append_answer (full_log l)
    pub records : held m ≡ with_record (full_log l) (held l) x
    pub room : length (places_of m) ≡ length (places_of l)
    pub places : places_of m ≡ with_placed (full_log l) (length (held l)) (places_of l) x
