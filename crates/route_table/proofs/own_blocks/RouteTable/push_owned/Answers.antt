use Rattle.std.proofs.Common.{◌⊎◌, map}
use Rattle.ipnet_blocks.specs.Aggregated.{InSome}
use Rattle.ipnet.specs.IpNets.{block}
use Rattle.route_table.specs.InnerOwning.{IsOwned}
use Rattle.route_laws.specs.Networks.{routes_of}
use Rattle.route_table.proofs.Owned.{grows, keeps_all}
use Rattle.route_table.proofs.own_blocks.RouteTable.push_owned.Goals as goal

pub loop-route-init : goal.loop-route-init
loop-route-init c = keeps_all (routes_of c.args.self.now) c.args.number c.args.networks.now.items c.args.routes _ c.into_iter-route-iterator.ensures.into_iter_gives

pub loop-route-preserved : goal.loop-route-preserved
loop-route-preserved c =
    grows (routes_of c.args.self.now) c.args.number (λ x. InSome (map block c.args.networks.now.items) x ⊎ IsOwned (routes_of c.args.self.now) c.args.number c.args.routes x) c.loop-route.networks.items c.push_route.new.networks.items _ _ _ c.in-Some.ensures.steps.0
    c.loop-route.invariant c.in_ok-push_route.ensures
