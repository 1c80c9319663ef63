use Rattle.std.proofs.Common.{refl, ◌+◌, ◌-◌, ◌∷◌, ◌++◌, [], Ok, Err, length, take, drop, sym, ap, ◌∙◌}
use Rattle.std.proofs.lemmas.Result.{err_from_is_err_and}
use Rattle.route_lines.proofs.Cutting.{new_after, quiet}
use Rattle.route_lines.specs.Lines.{fed_all}
use Rattle.route_program.proofs.SinkRun.{at_end, none_found, takes_more, takes_longer, fed_all-append}
use Rattle.route_program.proofs.sink.take_piece.Goals as goal

pub returns-in_err-take_line-clause-takes : goal.returns-in_err-take_line-clause-takes
returns-in_err-take_line-clause-takes g c =
    let p = err_from_is_err_and c.from_residual.result c.from_residual.ensures.1 in
    let inv = c.loop-end.invariant in
    let left = c.loop-end.left.now in
    let i = c.in-Some.end in
    let line = take i left ++ 10 ∷ [] in
    let e = c.in_err-take_line.field-0.0 in
    let some = takes_more g.S.Sink.takes c.args.sink.now c.loop-end.sink c.take_line.new.sink c.args.cutter.now c.loop-end.cutter inv.front line c.args.writer.now c.loop-end.writer c.take_line.new.writer (Err e) inv.taken inv.cutter c.in_err-take_line.ensures.takes in
    rw (p.1, p.2, at_end c.args.piece.now inv.front left i inv.is c.in-Some.ensures.0.high c.in-Some.ensures.1)
    (takes_longer g.S.Sink.takes c.args.sink.now c.take_line.new.sink c.args.cutter.now (inv.front ++ line) (take (length left - (i + 1)) (drop (i + 1) left)) c.args.writer.now c.take_line.new.writer e some)

pub loop-end-preserved : goal.loop-end-preserved
loop-end-preserved g c =
    let inv = c.loop-end.invariant in
    let left = c.loop-end.left.now in
    let i = c.in-Some.end in
    let line = take i left ++ 10 ∷ [] in
    record {
      front = inv.front ++ line;
      is = at_end c.args.piece.now inv.front left i inv.is c.in-Some.ensures.0.high c.in-Some.ensures.1;
      taken = takes_more g.S.Sink.takes c.args.sink.now c.loop-end.sink c.take_line.new.sink c.args.cutter.now c.loop-end.cutter inv.front line c.args.writer.now c.loop-end.writer c.take_line.new.writer (Ok tt) inv.taken inv.cutter c.in_ok-take_line.ensures.takes;
      cutter = c.in_ok-take_line.ensures.cutter ∙ sym (new_after (fed_all c.args.cutter.now inv.front) (take i left)) ∙ sym (fed_all-append c.args.cutter.now inv.front line);
      can = c.in_ok-take_line.ensures.others;
    }

pub returns-clause-takes : goal.returns-clause-takes
returns-clause-takes g c =
    let inv = c.loop-end.invariant in
    let left = c.loop-end.left.now in
    rw inv.is (takes_more g.S.Sink.takes c.args.sink.now c.loop-end.sink c.loop-end.sink c.args.cutter.now c.loop-end.cutter
    inv.front left c.args.writer.now c.loop-end.writer c.loop-end.writer (Ok tt) inv.taken inv.cutter
    (rw (quiet c.loop-end.cutter left (none_found left c.in_default.ensures)) (refl, refl, refl)))

pub returns-clause-cutter : goal.returns-clause-cutter
returns-clause-cutter g c =
    rw (c.loop-end.invariant.is, fed_all-append)
    (c.hold.ensures.kept ∙ ap (λ k. fed_all k c.loop-end.left.now) c.loop-end.invariant.cutter)
