use Rattle.std.proofs.Common.{◌⊎◌, ◌↔◌, map}
use Rattle.ipnet_addr.specs.Addresses.{Address, IsAddress}
use Rattle.ipnet_blocks.specs.Aggregated.{InSome}
use Rattle.ipnet.specs.IpNets.{block}
use Rattle.route_table.specs.InnerOwning.{IsOwned}
use Rattle.route_laws.specs.Networks.{routes_of}
use Rattle.route_table.proofs.own_blocks.RouteTable.push_owned.Given as goal

-- the addresses of the networks, and those that the routes left have, stay the same
abbrev pub invariant-loop-route : goal.invariant-loop-route
invariant-loop-route l = (x : Address) → IsAddress x →
    (InSome (map block l.networks.items) x ⊎ IsOwned (routes_of l.self) l.number l.route-iterator x) ↔ (InSome (map block l.fn.networks.items) x ⊎ IsOwned (routes_of l.self) l.number l.fn.routes x)
