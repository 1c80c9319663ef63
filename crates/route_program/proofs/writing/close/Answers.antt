use Rattle.route_program.proofs.Written.{Closes-delivered, Closes-end}
use Rattle.route_program.proofs.writing.close.Goals as goal

pub returns : goal.returns
returns g c =
    let mid = c.write_piece.new.writer in
    let written = rw c.line.ensures.text at c.in_ok-write_piece.ensures in
    Closes-end g.W.Write.contents c.args.writer.now mid c.flush.new.writer c.flush.result _ written (Closes-delivered g.W.Write.contents mid c.flush.new.writer c.flush.result c.flush.ensures)
