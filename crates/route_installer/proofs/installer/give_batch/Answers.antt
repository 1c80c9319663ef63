use Rattle.std.proofs.Common.{subst}
use Rattle.std.proofs.lemmas.Result.{err_from_is_err_and}
use Rattle.route_program.specs.Devices.{Closes, Torn}
use Rattle.route_program.proofs.Written.{Closes-written, Torn-longer}
use Rattle.route_installer.proofs.TakesNote.{batch_is}
use Rattle.route_installer.proofs.installer.give_batch.Goals as goal

pub returns-in_err-write_operations : goal.returns-in_err-write_operations
returns-in_err-write_operations g c =
    let p = err_from_is_err_and c.from_residual.result c.from_residual.ensures.1 in
    let torn = c.in_err-write_operations.ensures in
    rw (p.1, p.2) (
      torn.0,
      subst (Torn g.W.Write.contents c.args.writer.now c.write_operations.new.writer)
          (batch_is (g.O.Operations.left c.args.operations)) (Torn-longer g.W.Write.contents _ _ _ _ torn.1),
    )

pub returns : goal.returns
returns g c =
    subst (Closes g.W.Write.contents 1 c.args.writer.now c.close.new.writer c.close.result)
    (batch_is (g.O.Operations.left c.args.operations))
    (Closes-written g.W.Write.contents c.args.writer.now c.write_operations.new.writer c.close.new.writer c.close.result _ _
    c.in_ok-write_operations.ensures c.close.ensures)
