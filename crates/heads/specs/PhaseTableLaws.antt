-- A phase table keeps the laws of a head. Assumes nothing.
use Rattle.std.proofs.Common.{lit≤, ltb-true}
use Rattle.std.specs.Prelude.{◌≡◌, ℕ, ◌<◌, ◌≤◌, Bool, true, false, cond, List, [], ◌∷◌, map, ◌==◌, nat_lt, refl}
use Rattle.heads.specs.Entries.{Entry, reading, faulty, dark, wild, Below, AllBelow}
use Rattle.heads.specs.Figures.{fits, figures_of}
use Rattle.heads.specs.Laws.{PlateLaws, HeadLaws, Lawful, head_laws}
use Rattle.heads.specs.PhaseTables.{entry_of, if_fit, table_told, table_waits}

-- figures made by a test tell what a plate may tell
pub figures_laws : (f : Bool) (m t d : ℕ) → (f ≡ true → fits m t ≡ true) → (f ≡ true → d ≤ 255) → d ≤ 256 → PlateLaws (figures_of f m t d)
figures_laws true m t d h l u =
    record { fit_limits = λ _. h refl; fit_depth = λ _. l refl; unfit_modulus = λ e. cc; unfit_bound = λ e. cc; unfit_depth = λ e. cc }
figures_laws false m t d h l u =
    record { fit_limits = λ e. cc; fit_depth = λ e. cc; unfit_modulus = λ _. refl; unfit_bound = λ _. refl; unfit_depth = λ _. u }

-- what waits only where something is fit
pub if_fit_empty : (f : Bool) (m t d : ℕ) (w : List Entry) → (figures_of f m t d).fit ≡ false → if_fit f w ≡ []
if_fit_empty true m t d w e = cc
if_fit_empty false m t d w e = refl

pub if_fit_below : (f : Bool) (m t d : ℕ) (w : List Entry) → (f ≡ true → AllBelow m w) → AllBelow (figures_of f m t d).modulus (if_fit f w)
if_fit_below true m t d w h = h refl
if_fit_below false m t d w h = tt

entry_below : (m x : ℕ) (a b : Bool) → (b ≡ true → x < m) → Below m (cond a (faulty dark 0 0 0) (cond b (reading x) (faulty wild 0 x m)))
entry_below m x true b h = tt
entry_below m x false true h = h refl
entry_below m x false false h = tt

entries_below : (m : ℕ) (xs : List ℕ) → AllBelow m (map (entry_of m) xs)
entries_below m [] = tt
entries_below m (x ∷ xs) = (entry_below m x (x == 4294967295) (nat_lt x m) (ltb-true x m), entries_below m xs)

pub table_lawful : (m t : ℕ) (xs : List ℕ) → Lawful (table_told m t) (table_waits m t xs)
table_lawful m t xs = record {
  plate = figures_laws (fits m t) m t 0 (λ e. e) (λ _. lit≤ tt) (lit≤ tt);
  unfit_empty = if_fit_empty (fits m t) m t 0 (map (entry_of m) xs);
  below = if_fit_below (fits m t) m t 0 (map (entry_of m) xs) (λ _. entries_below m xs);
}

pub table_laws : {S : Type 0} (m t : S → ℕ) (xs : S → List ℕ) → HeadLaws (λ s. table_told (m s) (t s)) (λ s. table_waits (m s) (t s) (xs s))
table_laws m t xs = head_laws _ _ (λ s. table_lawful (m s) (t s) (xs s))
