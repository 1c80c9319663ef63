use Rattle.std.proofs.Common.{◌≡◌, ◌++◌, List, ℕ, Ok, length}
use Rattle.route_lines.specs.Lines.{answers, fed_all}
use Rattle.route_program.specs.Run.{TakesAll}
use Rattle.route_program.proofs.sink.take_piece.Given as goal

abbrev pub invariant-loop-end : goal.invariant-loop-end
invariant-loop-end g l = record {
  front : List ℕ;
  is : l.piece ≡ front ++ l.left;
  taken : TakesAll g.S.Sink.takes l.fn.sink (answers l.fn.cutter front) l.fn.writer (Ok tt) l.sink l.writer;
  cutter : l.cutter ≡ fed_all l.fn.cutter front;
  can : g.S.Sink.can_take l.sink l.writer;
}

abbrev pub decreases-loop-end : goal.decreases-loop-end
decreases-loop-end g l = length l.left
