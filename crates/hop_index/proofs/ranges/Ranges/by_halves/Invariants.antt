use Rattle.std.proofs.Common.{◌-◌}
use Rattle.hop_index.specs.InnerRanges.{IsBetween}
use Rattle.hop_index.proofs.ranges.Ranges.by_halves.Given as goal

abbrev pub invariant-loop-low : goal.invariant-loop-low
invariant-loop-low g l = IsBetween l.self (g.N.Key.number l.number) l.low l.high

abbrev pub decreases-loop-low : goal.decreases-loop-low
decreases-loop-low g l = l.high - l.low
