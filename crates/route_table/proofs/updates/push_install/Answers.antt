use Rattle.route_table.proofs.Updating.{install_added}
use Rattle.route_table.proofs.updates.push_install.Goals as goal

pub returns-in_ok-push : goal.returns-in_ok-push
returns-in_ok-push g c = rw (c.in-Some.is, c.in_ok-push.ensures.items)
    (install_added g.P.FamilyNet.family c.args.path.now c.in-Some.hop c.network-net.result c.hop_of-hop.result c.args.operations.now.items c.network-net.ensures c.hop_of-hop.ensures.value c.hop_of-hop.ensures.in_range)
