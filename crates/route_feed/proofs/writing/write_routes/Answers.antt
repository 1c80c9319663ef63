use Rattle.std.proofs.Common.{◌∙◌, ap}
use Rattle.std.proofs.lemmas.Result.{err_from_is_err_and}
use Rattle.route_feed.proofs.Rebuilt.{add_bytes, next_add}
use Rattle.route_program.proofs.WriteLines.{Told-all, Told-more, Told-torn}
use Rattle.route_program.proofs.Written.{Delivers-after}
use Rattle.route_feed.proofs.writing.write_routes.Goals as goal

pub print_to-requires : goal.print_to-requires
print_to-requires g c = (next_add _ _ _ _ c.in-Some.ensures.steps c.loop-net.invariant.1).2

pub loop-net-preserved : goal.loop-net-preserved
loop-net-preserved g c =
    let next = next_add _ _ _ _ c.in-Some.ensures.steps c.loop-net.invariant.1 in (
      Told-more g.W.Write.contents add_bytes c.args.writer.now c.loop-net.writer c.write_piece.new.writer _ _ c.next.new.self _ _ c.loop-net.invariant.0 next.0 (c.as_slice.ensures.value ∙ c.print_to.ensures.text) c.in_ok-write_piece.ensures,
      next.1,
    )

pub returns-in_err-write_piece : goal.returns-in_err-write_piece
returns-in_err-write_piece g c =
    let p = err_from_is_err_and c.from_residual.result c.from_residual.ensures.1 in
    let next = next_add _ _ _ _ c.in-Some.ensures.steps c.loop-net.invariant.1 in
    rw (p.1, p.2) (Told-torn g.W.Write.contents add_bytes c.args.writer.now c.loop-net.writer c.write_piece.new.writer _ _ c.next.new.self _ _ c.loop-net.invariant.0 next.0 (c.as_slice.ensures.value ∙ c.print_to.ensures.text) _ c.in_err-write_piece.ensures)

pub returns : goal.returns
returns g c =
    Delivers-after g.W.Write.contents c.args.writer.now c.loop-net.writer c.flush.new.writer c.flush.result (add_bytes c.args.routes)
    (Told-all g.W.Write.contents add_bytes c.args.writer.now c.loop-net.writer c.args.routes _ c.loop-net.invariant.0 (ap add_bytes c.in-None.ensures.steps.0)) c.flush.ensures
