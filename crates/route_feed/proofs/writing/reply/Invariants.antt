use Rattle.std.proofs.Common.{◌++◌, ◌∷◌, [], length}
use Rattle.route_lines.specs.declared.reply.Closing.TheVariants.{Done}
use Rattle.route_lines.specs.declared.reply.Reply.TheVariants.{Close}
use Rattle.route_feed.specs.Replies.{printed}
use Rattle.route_program.proofs.WriteLines.{Told}
use Rattle.route_feed.proofs.writing.reply.Given as goal

abbrev pub invariant-loop-line : goal.invariant-loop-line
invariant-loop-line g l = record {
  can : g.B.Body.can_give l.body;
  told : Told g.W.Write.contents printed l.fn.writer l.writer (g.B.Body.lines l.fn.body ++ Close Done ∷ []) (g.B.Body.lines l.body ++ Close Done ∷ []);
}

abbrev pub decreases-loop-line : goal.decreases-loop-line
decreases-loop-line g l = length (g.B.Body.lines l.body)
