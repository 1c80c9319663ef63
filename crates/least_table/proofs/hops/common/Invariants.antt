use Rattle.std.proofs.Common.{◌+◌, length}
use Rattle.least_table.specs.InnerRising.{CommonLeft}
use Rattle.least_table.proofs.hops.common.Given as goal

abbrev pub invariant-loop-a : goal.invariant-loop-a
invariant-loop-a l = CommonLeft l.low l.high l.out.items l.a l.b

abbrev pub decreases-loop-a : goal.decreases-loop-a
decreases-loop-a l = length l.a + length l.b
