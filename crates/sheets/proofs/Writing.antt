-- What the writer says when it had room for the whole recording.
use Rattle.std.proofs.Common.{◌≡◌, ℕ, ◌+◌, ◌*◌, ◌^◌, ◌≤◌, List, length, arith}
use Rattle.recordings.specs.declared.entries.ChannelEntry.{ChannelEntry}
use Rattle.recordings.proofs.Places.{length_encoded}
use Rattle.encoding.specs.declared.refusals.WriteRefusal.{WriteRefusal}
use Rattle.encoding.specs.declared.refusals.WriteRefusal.TheVariants.{Channels, Rows, UnfitEntry, Room}
use Rattle.encoding.specs.Refusals.{WriteRefused}

-- a room that is as large as the recording, up to the limit
abbrev pub Enough : (room : ℕ) (note xs : List ℕ) (es : List ChannelEntry) → Type 0
Enough room note xs es = length note + 4 * length xs + 8 * length es + 16 ≤ 2 ^ 31 → room ≡ length note + 4 * length xs + 8 * length es + 16

pub widened : (room : ℕ) (note xs : List ℕ) (es : List ChannelEntry) (e : WriteRefusal) → Enough room note xs es → WriteRefused room note xs es e → WriteRefused (2 ^ 31) note xs es e
widened room note xs es Channels h w = w
widened room note xs es Rows h w = w
widened room note xs es (UnfitEntry k) h w = w
widened room note xs es Room h w =
    let l = length_encoded note xs es in
    (w.0, w.1, w.2, λ f. w.3 (record { in_room = let r = h (omega (arith, l, f.in_limit)) in omega (arith, l, r); in_limit = f.in_limit }))
