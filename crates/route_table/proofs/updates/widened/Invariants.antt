use Rattle.std.proofs.Common.{◌≡◌, true, length}
use Rattle.ipnet_blocks.specs.BitStrings.{begins}
use Rattle.route_table.proofs.updates.widened.Given as goal

-- the block is inside this one
abbrev pub invariant-loop-net : goal.invariant-loop-net
invariant-loop-net g l = begins (g.P.Prefix.bits l.wide) (g.P.Prefix.bits l.initial.wide) ≡ true

abbrev pub decreases-loop-net : goal.decreases-loop-net
decreases-loop-net g l = length (g.P.Prefix.bits l.wide)
