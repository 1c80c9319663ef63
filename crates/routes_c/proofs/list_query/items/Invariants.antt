use Rattle.std.proofs.Common.{◌≡◌, map, take}
use Rattle.route_laws.specs.LeastTables.{routes_for}
use Rattle.routes_c.specs.RouteLists.{route_shown}
use Rattle.routes_c.proofs.list_query.items.Given as goal

abbrev pub invariant-loop-item : goal.invariant-loop-item
invariant-loop-item l = l.list.items ≡ map route_shown (routes_for (take l.item-index l.items))
