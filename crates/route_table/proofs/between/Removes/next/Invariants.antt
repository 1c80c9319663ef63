use Rattle.std.proofs.Common.{◌≡◌, length}
use Rattle.route_table.specs.InnerBetween.{AreRemoves, removes_left, routes_left}
use Rattle.route_table.proofs.between.Removes.next.Given as goal

-- what was passed is in the list
abbrev pub invariant-loop-net : goal.invariant-loop-net
invariant-loop-net l = AreRemoves l.self × (removes_left l.self ≡ removes_left l.initial.self)

abbrev pub decreases-loop-net : goal.decreases-loop-net
decreases-loop-net l = length (routes_left l.self)
