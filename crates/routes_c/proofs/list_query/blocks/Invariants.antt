use Rattle.std.proofs.Common.{◌≡◌, ◌++◌, map}
use Rattle.routes_c.specs.RouteLists.{default_route, route_shown}
use Rattle.routes_c.proofs.list_query.blocks.Given as goal

abbrev pub invariant-loop-net : goal.invariant-loop-net
invariant-loop-net l = l.list.items ++ map route_shown (map (default_route l.hop) l.net-iterator) ≡ map route_shown (map (default_route l.hop) l.fn.blocks)
