use Rattle.std.proofs.Common.{◌≡◌, ◌++◌, map}
use Rattle.ipnet.specs.IpNets.{block}
use Rattle.routes_c.specs.RouteLists.{route_shown}
use Rattle.routes_c.proofs.list_query.choices.Given as goal

abbrev pub invariant-loop-hop : goal.invariant-loop-hop
invariant-loop-hop l =
    l.list.items ++ map route_shown (map (λ c. record { block = block l.net; hop = c.hop; pref = c.pref }) l.hop-iterator)
    ≡ map route_shown (map (λ c. record { block = block l.net; hop = c.hop; pref = c.pref }) l.fn.choices)
