use Rattle.std.proofs.Common.{get_or, ap, ◌∙◌, arith}
use Rattle.std.proofs.lemmas.List.{take_more}
use Rattle.route_lines.specs.Lines.{fed}
use Rattle.route_program.proofs.SinkRun.{fed_all-append}
use Rattle.route_program.proofs.sink.hold.Goals as goal

pub loop-byte-preserved : goal.loop-byte-preserved
loop-byte-preserved c =
    let x = get_or c.args.bytes.now c.loop-byte.byte-index 0 in
    rw (take_more c.args.bytes.now c.loop-byte.byte-index 0 (omega arith), fed_all-append)
    (c.feed.ensures.kept ∙ ap (λ k. fed k x) c.loop-byte.invariant)
