use Rattle.std.proofs.Common.{◌≡◌, ◌++◌, map}
use Rattle.routes_c.specs.Shown.{piece_shown}
use Rattle.routes_c.proofs.last_lists.shown_pieces.Given as goal

abbrev pub invariant-loop-piece : goal.invariant-loop-piece
invariant-loop-piece l = l.list.items ++ map piece_shown l.piece-iterator ≡ map piece_shown l.fn.flat
