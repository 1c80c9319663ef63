use Rattle.std.proofs.Common.{◌≡◌, ◌++◌, take, map}
use Rattle.ipnet.specs.declared.ip_net.IpNet.TheVariants.{V6}
use Rattle.ipnet.proofs.aggregate.push_ipv6.Given as goal

abbrev pub invariant-loop-network : goal.invariant-loop-network
invariant-loop-network l =
    l.blocks.items ≡ l.fn.blocks.items ++ map V6 (take l.network-index l.network-items)
