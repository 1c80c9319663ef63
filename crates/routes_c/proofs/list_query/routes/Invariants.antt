use Rattle.std.proofs.Common.{◌≡◌, ◌++◌, map}
use Rattle.routes_c.specs.RouteLists.{route_shown}
use Rattle.routes_c.proofs.list_query.routes.Given as goal

abbrev pub invariant-loop-net : goal.invariant-loop-net
invariant-loop-net l = l.list.items ++ map route_shown l.net-iterator ≡ map route_shown l.fn.routes
