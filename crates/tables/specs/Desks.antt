-- What each line of a table comes to. Assumes nothing.
use Rattle.std.specs.Prelude.{◌≡◌, ℕ, ◌⊎◌, List, Some, None, Ok, Err, vec_items, vec_capacity, Option, Result}
use Rattle.settings.specs.declared.kept.Setting.{Setting}
use Rattle.settings.specs.declared.refusals.SettingRefusal.{SettingRefusal}
use Rattle.unfolding.specs.declared.kept.Unfolding.{Unfolding}
use Rattle.unfolding.specs.declared.refusals.UnfoldRefusal.{UnfoldRefusal}
use Rattle.unfolding.specs.Unfolds.{UnfoldAnswers}
use Rattle.tables.specs.declared.desks.Desk.{Desk}
use Rattle.tables.specs.declared.errors.BadText.{BadText}
use Rattle.tables.specs.declared.parts.Part.{Part}
use Rattle.tables.specs.declared.parts.Part.TheVariants as part
use Rattle.tables.specs.declared.replies.Reply.{Reply}
use Rattle.tables.specs.declared.replies.Reply.TheVariants.{Nothing, Refused, Row}
use Rattle.tables.specs.Lines.{part_of}
use Rattle.tables.specs.Numbers.{NoRoom}
use Rattle.tables.specs.Ready.{Ready}
use Rattle.tables.specs.Tables.{line_in, seen_after}
use Rattle.tables.specs.Words.{words}

-- a refused setting is told as soon as it is made
abbrev pub told_of : Option (Result Setting SettingRefusal) → Reply
told_of None = Nothing
told_of (Some (Ok s)) = Nothing
told_of (Some (Err e)) = Refused e

-- what a row comes to with this setting and these bounds: what `unfold` answers
abbrev pub Answers : Option (Result Setting SettingRefusal) → (bounds row : List ℕ) → Reply → Type 0
Answers None bounds row r = ⊥
Answers (Some (Ok s)) bounds row r = (a : Result Unfolding UnfoldRefusal) × (r ≡ Row a) × UnfoldAnswers s row bounds a
Answers (Some (Err e)) bounds row r = r ≡ Refused e

-- moduli, bounds and setting stay
pub record Kept (d d' : Desk) : Type 0 where
  pub moduli : vec_items d'.moduli ≡ vec_items d.moduli
  pub bounds : vec_items d'.bounds ≡ vec_items d.bounds
  pub setting : d'.setting ≡ d.setting

-- a table with these moduli and bounds, and the setting that the moduli make once its heading is complete
pub record Headed (ms bs : List ℕ) (d : Desk) : Type 0 where
  pub moduli : vec_items d.moduli ≡ ms
  pub bounds : vec_items d.bounds ≡ bs
  pub ready : Ready d.heading ms d.setting

-- what a good line with these numbers comes to
abbrev pub Comes : Part → Desk → List ℕ → Reply → Desk → Type 0
Comes part.Passed d ns r d' = (r ≡ Nothing) × Kept d d'
Comes part.Note d ns r d' = (r ≡ Nothing) × Kept d d'
Comes part.Moduli d ns r d' = (r ≡ told_of d'.setting) × Headed ns (vec_items d.bounds) d'
Comes part.Bounds d ns r d' = (r ≡ told_of d'.setting) × Headed (vec_items d.moduli) ns d'
Comes part.Row d ns r d' = Answers d.setting (vec_items d.bounds) ns r × Kept d d'

-- what a line comes to: a bad one changes nothing
abbrev pub Replied : Desk → List ℕ → Result Reply BadText → Desk → Type 0
Replied d line (Ok r) d' = (ns : List ℕ) × (line_in d.heading line ≡ Ok ns) × (d'.heading ≡ seen_after (part_of line) d.heading) × Comes (part_of line) d ns r d'
Replied d line (Err e) d' = ((line_in d.heading line ≡ Err e) ⊎ NoRoom (vec_capacity d.numbers) (words line) e) × (d'.heading ≡ d.heading) × Kept d d'
