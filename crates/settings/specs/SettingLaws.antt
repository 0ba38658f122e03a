-- Laws of refusal: what is refused is not accepted, and is refused for one reason. Assumes nothing.
use Rattle.std.specs.Prelude.{◌≡◌, ℕ, List}
use Rattle.settings.specs.declared.refusals.SettingRefusal.{SettingRefusal}
use Rattle.settings.specs.Settings.{Accepted, Split}
use Rattle.settings.specs.Refusals.{Refuses, ModuliRefused}

abbrev pub RefusedNotAccepted : Type 0
RefusedNotAccepted = (u : ℕ) (gs : List ℕ) (e : SettingRefusal) → Refuses u gs e → Accepted u gs → ⊥

abbrev pub OneRefusal : Type 0
OneRefusal = (u : ℕ) (gs : List ℕ) (e f : SettingRefusal) → Refuses u gs e → Refuses u gs f → e ≡ f

-- moduli that are refused have no unit and factors that pass
abbrev pub ModuliRefusedNotAccepted : Type 0
ModuliRefusedNotAccepted = (ms : List ℕ) (e : SettingRefusal) → ModuliRefused ms e → (u : ℕ) (gs : List ℕ) → Split ms u gs → Accepted u gs → ⊥

abbrev pub OneModuliRefusal : Type 0
OneModuliRefusal = (ms : List ℕ) (e f : SettingRefusal) → ModuliRefused ms e → ModuliRefused ms f → e ≡ f
