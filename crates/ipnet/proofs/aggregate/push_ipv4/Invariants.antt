use Rattle.std.proofs.Common.{◌≡◌, ◌++◌, take, map}
use Rattle.ipnet.specs.declared.ip_net.IpNet.TheVariants.{V4}
use Rattle.ipnet.proofs.aggregate.push_ipv4.Given as goal

abbrev pub invariant-loop-network : goal.invariant-loop-network
invariant-loop-network l =
    l.blocks.items ≡ l.fn.blocks.items ++ map V4 (take l.network-index l.network-items)
