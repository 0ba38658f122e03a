use Rattle.std.proofs.Common.{◌≡◌, ◌^◌, ◌≤◌, take}
use Rattle.settings.specs.Settings.{range_of}
use Rattle.settings.proofs.candidates.Candidate.range.Given as goal

abbrev pub invariant-loop-channel : goal.invariant-loop-channel
invariant-loop-channel l = (l.range ≡ range_of l.self.unit (take l.channel l.self.factors.now)) × (l.range ≤ 2 ^ 40)
