use Rattle.std.proofs.Common.{◌++◌, ◌∷◌, [], ap, refl, ◌∙◌}
use Rattle.std.proofs.lemmas.Result.{err_from_is_err_and}
use Rattle.route_lines.specs.declared.reply.Closing.TheVariants.{Done}
use Rattle.route_lines.specs.declared.reply.Reply.TheVariants.{Close}
use Rattle.route_feed.specs.Lines.{reply_line}
use Rattle.route_feed.specs.Replies.{printed}
use Rattle.route_program.proofs.WriteLines.{Told-nil, Told-more, Told-torn, Told-last}
use Rattle.route_feed.proofs.writing.reply.Goals as goal

pub loop-line-init : goal.loop-line-init
loop-line-init g c = record { can = c.requires.body; told = Told-nil g.W.Write.contents printed c.args.writer.now (g.B.Body.lines c.args.body ++ Close Done ∷ []) }

pub loop-line-preserved : goal.loop-line-preserved
loop-line-preserved g c =
    let line = ap (λ ls. printed (ls ++ Close Done ∷ [])) c.in-Some.ensures.line.0 in
    record {
      can = c.in-Some.ensures.others;
      told = Told-more g.W.Write.contents printed c.args.writer.now c.loop-line.writer c.write_piece.new.writer _ _ (g.B.Body.lines c.next_line.new.self ++ Close Done ∷ []) (reply_line c.in-Some.line) _ c.loop-line.invariant.told line (c.as_slice.ensures.value ∙ c.print_to.ensures.text) c.in_ok-write_piece.ensures;
    }

pub returns-in_err-write_piece : goal.returns-in_err-write_piece
returns-in_err-write_piece g c =
    let p = err_from_is_err_and c.from_residual.result c.from_residual.ensures.1 in
    let line = ap (λ ls. printed (ls ++ Close Done ∷ [])) c.in-Some.ensures.line.0 in
    rw (p.1, p.2) (Told-torn g.W.Write.contents printed c.args.writer.now c.loop-line.writer c.write_piece.new.writer _ _ (g.B.Body.lines c.next_line.new.self ++ Close Done ∷ []) (reply_line c.in-Some.line) _ c.loop-line.invariant.told line (c.as_slice.ensures.value ∙ c.print_to.ensures.text) _ c.in_err-write_piece.ensures)

pub returns : goal.returns
returns g c =
    Told-last g.W.Write.contents printed c.args.writer.now c.loop-line.writer c.close.new.writer _ _ [] (reply_line (Close Done)) _ c.loop-line.invariant.told (ap (λ ls. printed (ls ++ Close Done ∷ [])) c.in_default.ensures.line.0) refl c.close.result refl c.close.ensures
