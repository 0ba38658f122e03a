-- Two banks as one: the channels of the one and then those of the other. Assumes nothing.
use Rattle.std.specs.Prelude.{◌≡◌, ℕ, ◌+◌, ◌<◌, ◌≤◌, Bool, true, false, List, [], ◌++◌, length, nat_le}
use Rattle.heads.specs.Channels.{Channel}

abbrev pub if_few : Bool → List Channel → List Channel
if_few true cs = cs
if_few false cs = []

-- the channels of one bank and then those of another, or none where they are more than 8
abbrev pub both : (cs ds : List Channel) → List Channel
both cs ds = if_few (nat_le (length cs + length ds) 8) (cs ++ ds)

-- the rule of joining: es are those of cs and then those of ds, or none where they are more than 8
pub record Joins (cs ds es : List Channel) : Type 0 where
  pub few : length cs + length ds ≤ 8 → es ≡ cs ++ ds
  pub many : 8 < length cs + length ds → es ≡ []

-- how many channels two banks of m and n have as one
abbrev pub count_if_few : Bool → ℕ → ℕ
count_if_few true n = n
count_if_few false n = 0

abbrev pub joined_count : (m n : ℕ) → ℕ
joined_count m n = count_if_few (nat_le (m + n) 8) (m + n)
