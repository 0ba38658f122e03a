-- Where each unfolded reading begins and ends to allow. Assumes nothing.
use Rattle.std.specs.Prelude.{◌≡◌, ℕ, List, length, ℤ, pos, ◌+ℤ◌, ◌-ℤ◌, slice_index, slice_index_or}
use Rattle.unfolding.specs.declared.refusals.UnfoldRefusal.{UnfoldRefusal}
use Rattle.unfolding.specs.declared.refusals.UnfoldRefusal.TheVariants.{Readings, Bounds, WideBound, Wild, Contradictory}
use Rattle.unfolding.specs.Channels.{GreatestAt, LeastAt}

abbrev pub begins_at : (cs : List ℤ) (ts : List ℕ) (k : ℕ) → ℤ
begins_at cs ts k = slice_index_or cs k (pos 0) -ℤ pos (slice_index ts k)

abbrev pub ends_at : (cs : List ℤ) (ts : List ℕ) (k : ℕ) → ℤ
ends_at cs ts k = slice_index_or cs k (pos 0) +ℤ pos (slice_index ts k)

-- the refusal names the lowest channels that give lo and hi, and by how much lo exceeds hi
abbrev pub Crossed : (cs : List ℤ) (ts : List ℕ) (lo hi : ℤ) → UnfoldRefusal → Type 0
Crossed cs ts lo hi (Readings c k) = ⊥
Crossed cs ts lo hi (Bounds c k) = ⊥
Crossed cs ts lo hi (WideBound k x u) = ⊥
Crossed cs ts lo hi (Wild k r m) = ⊥
Crossed cs ts lo hi (Contradictory k x l) = GreatestAt (length cs) (begins_at cs ts) lo k × LeastAt (length cs) (ends_at cs ts) hi l × (pos x ≡ lo -ℤ hi)
