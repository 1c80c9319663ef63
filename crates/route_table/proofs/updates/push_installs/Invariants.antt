use Rattle.std.proofs.Common.{List, length}
use Rattle.ipnet_addr.specs.Addresses.{width}
use Rattle.route_table.specs.InnerUpdates.{AddsInstalls, AreWithin}
use Rattle.route_table.specs.declared.between.Operation.{Operation}
use Rattle.route_table.proofs.updates.push_installs.Given as goal

-- what adds the installs that are left adds all
abbrev pub invariant-loop-path : goal.invariant-loop-path
invariant-loop-path g l = AreWithin (width g.P.FamilyNet.family) l.rest ×
    ((new : List Operation) → AddsInstalls g.P.FamilyNet.family l.rest l.operations.items new → AddsInstalls g.P.FamilyNet.family l.fn.edits l.fn.operations.items new)

abbrev pub decreases-loop-path : goal.decreases-loop-path
decreases-loop-path g l = length l.rest
