use Rattle.std.proofs.Common.{◌≡◌, Some, map}
use Rattle.std.proofs.lemmas.Result.{IfOk-weaker}
use Rattle.ipnet_blocks.proofs.Maximals.{maximal_is_shortest}
use Rattle.route_laws.specs.Tables.{hop_at}
use Rattle.ipnet.specs.IpNets.{block}
use Rattle.route_laws.specs.Networks.{routes_of}
use Rattle.route_table.proofs.Owned.{owned_blocks, owned_is_flat}
use Rattle.route_table.proofs.own_blocks.RouteTable.owned.Goals as goal

pub returns-clause-maximal : goal.returns-clause-maximal
returns-clause-maximal c = IfOk-weaker c.aggregate.result _ _ (λ v h. owned_blocks (routes_of c.args.self.now) c.families-v4.ensures.table c.args.number c.new-networks.result.items c.push_owned.new.networks.items c.push_owned-2.new.networks.items c.families-v4.result.0 c.families-v4.result.1 c.families-v4.ensures.routes c.new-networks.ensures.items c.in_ok-push_owned.ensures c.in_ok-push_owned-2.ensures (map block v.items) h.maximal) c.aggregate.ensures.blocks

pub returns-clause-flat : goal.returns-clause-flat
returns-clause-flat c = IfOk-weaker c.aggregate.result _ _ (λ v h. owned_is_flat (routes_of c.args.self.now) c.args.number (map block v.items) h) (returns-clause-maximal c)

pub returns-clause-shortest : goal.returns-clause-shortest
returns-clause-shortest c = IfOk-weaker c.aggregate.result _ _ (λ v h. maximal_is_shortest (λ x. hop_at (routes_of c.args.self.now) x ≡ Some c.args.number) (map block v.items) h) (returns-clause-maximal c)
