use Rattle.std.proofs.Common.{◌≤◌, ◌∙◌, length, sym, subst}
use Rattle.route_table.proofs.Updating.{network_of_bits}
use Rattle.route_table.proofs.updates.network.Goals as goal

pub prefix_of-requires : goal.prefix_of-requires
prefix_of-requires g c = subst (λ w. length c.args.path.now ≤ w) (sym g.met.P.FamilyNet.width_is) c.requires

pub returns : goal.returns
returns g c = c.ip_net.ensures ∙ network_of_bits g.P.FamilyNet.family g.P.Prefix.of_bits g.P.FamilyNet.parts g.met.P.FamilyNet.parts_are c.args.path.now c.requires _ c.prefix_of.ensures.key
