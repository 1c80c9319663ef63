use Rattle.std.proofs.Common.{ap, ◌∙◌}
use Rattle.std.proofs.lemmas.Result.{err_from_is_err_and}
use Rattle.route_installer.specs.InnerInstalling.{operation_bytes, update_line}
use Rattle.route_installer.proofs.TakesNote.{next_line}
use Rattle.route_program.proofs.WriteLines.{Told-all, Told-more, Told-nil, Told-torn}
use Rattle.route_installer.proofs.operations.write_operations.Goals as goal

pub loop-operation-init : goal.loop-operation-init
loop-operation-init g c = record { can = c.requires.operations; told = Told-nil g.W.Write.contents operation_bytes c.args.writer.now (g.O.Operations.left c.args.operations) }

pub loop-operation-preserved : goal.loop-operation-preserved
loop-operation-preserved g c =
    let line = next_line _ _ c.in-Some.operation c.in-Some.ensures.operation.0 c.in-Some.ensures.operation.1 _ c.from.ensures in
    record {
      can = c.in-Some.ensures.others;
      told = Told-more g.W.Write.contents operation_bytes c.args.writer.now c.loop-operation.writer c.write_piece.new.writer _ _ _ (update_line c.from.result) _ c.loop-operation.invariant.told line (c.as_slice.ensures.value ∙ c.print_to.ensures.text) c.in_ok-write_piece.ensures;
    }

pub returns-in_err-write_piece : goal.returns-in_err-write_piece
returns-in_err-write_piece g c =
    let p = err_from_is_err_and c.from_residual.result c.from_residual.ensures.1 in
    let line = next_line _ _ c.in-Some.operation c.in-Some.ensures.operation.0 c.in-Some.ensures.operation.1 _ c.from.ensures in
    rw (p.1, p.2) (Told-torn g.W.Write.contents operation_bytes c.args.writer.now c.loop-operation.writer c.write_piece.new.writer _ _ _ (update_line c.from.result) _ c.loop-operation.invariant.told line (c.as_slice.ensures.value ∙ c.print_to.ensures.text) _ c.in_err-write_piece.ensures)

pub returns : goal.returns
returns g c = Told-all g.W.Write.contents operation_bytes c.args.writer.now c.loop-operation.writer _ _ c.loop-operation.invariant.told (ap operation_bytes c.in_default.ensures.operation.0)
