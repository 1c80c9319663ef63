use Rattle.route_table.proofs.Updating.{remove_added}
use Rattle.route_table.proofs.updates.push_remove.Goals as goal

pub returns-in_ok-push : goal.returns-in_ok-push
returns-in_ok-push g c = rw (c.in-None.is, c.in_ok-push.ensures.items) (remove_added g.P.FamilyNet.family c.args.path.now c.network-net.result c.args.operations.now.items c.network-net.ensures)
