use Rattle.std.proofs.Common.{◌≡◌, ◌++◌, ◌-◌, length, map, take}
use Rattle.routes_c.specs.RouteLists.{route_shown}
use Rattle.routes_c.proofs.list_query.page.Given as goal

abbrev pub invariant-loop-routes : goal.invariant-loop-routes
invariant-loop-routes l = l.list.items ++ map route_shown (take (l.limit - length l.list.items) l.routes) ≡ map route_shown (take l.limit l.fn.routes)

abbrev pub decreases-loop-routes : goal.decreases-loop-routes
decreases-loop-routes l = l.limit - length l.list.items
