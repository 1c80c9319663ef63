use Rattle.std.proofs.Common.{arith}
use Rattle.route_table.proofs.Updating.{removes_next}
use Rattle.route_table.proofs.updates.push_removes.Goals as goal

pub loop-path-preserved : goal.loop-path-preserved
loop-path-preserved g c = removes_next g.P.FamilyNet.family c.args.edits.now c.loop-path.path-index c.loop-path-item.result (omega arith) c.loop-path-item.is _ _ _ c.loop-path.invariant c.in_ok-push_remove.ensures
