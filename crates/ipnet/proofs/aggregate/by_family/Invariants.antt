use Rattle.std.proofs.Common.{◌≡◌, take}
use Rattle.ipnet.specs.IpAggregated.{only_ipv4, only_ipv6}
use Rattle.ipnet.proofs.aggregate.by_family.Given as goal

abbrev pub invariant-loop-network : goal.invariant-loop-network
invariant-loop-network l =
    (l.ipv4.items ≡ only_ipv4 (take l.network-index l.network-items)) × (l.ipv6.items ≡ only_ipv6 (take l.network-index l.network-items))
