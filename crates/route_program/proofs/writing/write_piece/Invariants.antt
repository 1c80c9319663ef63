use Rattle.std.proofs.Common.{length}
use Rattle.route_program.proofs.WriteLines.{Told}
use Rattle.route_program.proofs.writing.write_piece.Given as goal

abbrev pub invariant-loop-left : goal.invariant-loop-left
invariant-loop-left g l = Told g.W.Write.contents (λ bytes. bytes) l.initial.writer l.writer l.piece l.left

abbrev pub decreases-loop-left : goal.decreases-loop-left
decreases-loop-left g l = length l.left
