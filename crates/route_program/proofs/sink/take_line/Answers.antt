use Rattle.std.proofs.Common.{◌≡◌, sym, rules, []}
use Rattle.route_lines.specs.Lines.{kept_of}
use Rattle.route_program.proofs.SinkRun.{takes_new, takes_held}
use Rattle.route_program.proofs.sink.take_line.Goals as goal

pub returns-then-is_new-clause-takes : goal.returns-then-is_new-clause-takes
returns-then-is_new-clause-takes g c =
    let new : c.args.cutter.now ≡ kept_of [] = search rules in
    let taken = rw c.line_text.ensures at c.take.ensures.takes in
    takes_new g.S.Sink.takes c.args.sink.now c.take.new.self c.args.cutter.now c.args.bytes.now c.args.writer.now c.take.new.writer c.take.result c.requires.bytes new taken

pub returns-in-Some-clause-takes : goal.returns-in-Some-clause-takes
returns-in-Some-clause-takes g c =
    let taken = rw c.text.ensures at c.take-in-Some.ensures.takes in
    takes_held g.S.Sink.takes c.args.sink.now c.take-in-Some.new.self c.args.cutter.now c.hold.new.cutter c.args.bytes.now c.in-Some.line c.args.writer.now c.take-in-Some.new.writer c.take-in-Some.result c.requires.bytes c.hold.ensures.kept (sym c.in-Some.ensures.line) taken
