use Rattle.std.proofs.Common.{◌+◌, ◌<◌, ◌≤◌}
use Rattle.hop_index.specs.InnerRanges.{IsBetween, head_of, range_at}
use Rattle.hop_index.proofs.ranges.Ranges.among_four.Given as goal

abbrev pub invariant-loop-step : goal.invariant-loop-step
invariant-loop-step g l = record {
  most : l.count ≤ l.low + l.step;
  between : IsBetween l.self (g.N.Key.number l.number) l.count (l.low + 4);
  from : l.count < l.low + l.step → head_of g.N.Key.width (g.N.Key.number l.number) ≤ head_of g.N.Key.width (range_at l.self l.count).last;
}
