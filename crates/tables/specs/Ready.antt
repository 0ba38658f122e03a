-- When the setting of a table is made, and from what. Assumes nothing.
use Rattle.std.specs.Prelude.{◌≡◌, ℕ, Bool, ◌&&◌, List, is_some, Some, None, Option, Result}
use Rattle.settings.specs.declared.kept.Setting.{Setting}
use Rattle.settings.specs.declared.refusals.SettingRefusal.{SettingRefusal}
use Rattle.settings.specs.Told.{MakesFromModuli}
use Rattle.tables.specs.declared.headings.Heading.{Heading}

-- both lines were seen that stand before the rows
abbrev pub complete : Heading → Bool
complete h = h.moduli && h.bounds

-- a setting, or a refusal, is what these moduli make
abbrev pub MadeFrom : List ℕ → Option (Result Setting SettingRefusal) → Type 0
MadeFrom ms None = Unit {0}
MadeFrom ms (Some r) = MakesFromModuli ms r

-- the setting is made from the moduli once the heading is complete, and not before
pub record Ready (h : Heading) (ms : List ℕ) (o : Option (Result Setting SettingRefusal)) : Type 0 where
  pub when : is_some o ≡ complete h
  pub from : MadeFrom ms o
