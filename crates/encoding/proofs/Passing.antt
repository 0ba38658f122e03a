-- What the writer's tests say of a note, rows and entries.
use Rattle.std.proofs.Common.{◌≡◌, ℕ, ◌*◌, ◌/◌, ◌<◌, List, length, div-add-mod', arith}
use Rattle.std.specs.List.{AllByRecursion}
use Rattle.std.proofs.ByRecursion.{All-from_get_or}
use Rattle.recordings.specs.declared.entries.ChannelEntry.{ChannelEntry}
use Rattle.recordings.specs.Layout.{EntryFits}
use Rattle.encoding.specs.Refusals.{FitAt, Whole}

pub whole_rows : (xs : List ℕ) (es : List ChannelEntry) → Whole xs es → length xs ≡ length xs / length es * length es
whole_rows xs es h = omega (arith, div-add-mod' (length xs) (length es))

pub all_fit : (es : List ChannelEntry) → ((k : ℕ) → k < length es → FitAt es k) → AllByRecursion EntryFits es
all_fit es h = All-from_get_or EntryFits es (record { modulus = 0; bound = 0 }) h
