use Rattle.std.proofs.Common.{◌≡◌, map, take}
use Rattle.ipnet.specs.IpNets.{block}
use Rattle.routes_c.specs.RouteLists.{default_route, route_shown}
use Rattle.routes_c.proofs.list_query.networks.Given as goal

abbrev pub invariant-loop-net : goal.invariant-loop-net
invariant-loop-net l = l.list.items ≡ map route_shown (map (default_route l.hop) (map block (take l.net-index l.networks)))
