use Rattle.std.proofs.Common.{inl, inr, eq-eqb, ne_eqb, length-take-le, take, Ok, Err, refl, ap, ◌∙◌, arith}
use Rattle.std.proofs.KnownBytes.{Consumes-kept}
use Rattle.std.proofs.lemmas.Result.{err_from_is_err_and}
use Rattle.route_lines.specs.Lines.{rest_in}
use Rattle.route_lines.proofs.Cutting.{new_rest_in}
use Rattle.route_program.proofs.SinkRun.{Went-nil, Went-more, refused_some}
use Rattle.route_program.specs.Counted.{one_more}
use Rattle.route_program.proofs.sink.run.Goals as goal

pub loop-read-init : goal.loop-read-init
loop-read-init g c = record {
  went = rw c.new-cutter.ensures (Went-nil g.S.Sink.takes g.R.Read.remaining c.args.sink.now c.args.reader.now c.args.writer.now);
  can = c.requires.sink;
  reads = omega arith;
  faults = refl;
  ends = refl;
}

pub loop-read-preserved : goal.loop-read-preserved
loop-read-preserved g c =
    let inv = c.loop-read.invariant in
    let piece = take c.in-Ok.count c.read.new.buf in
    let count = length-take-le c.in-Ok.count c.read.new.buf (omega (arith, c.in-Ok.ensures.bound)) in
    record {
      went = Went-more g.S.Sink.takes g.R.Read.remaining 0 _ _ _ _ _ _ _ _ _ _ _ piece (Ok tt) inv.went
          (omega (arith, c.in-Ok.ensures.reads, count, c.if-count-eq0.false))
          c.in-Ok.ensures.bytes.0 c.in_ok-take_piece.ensures.takes c.in_ok-take_piece.ensures.cutter;
      can = c.in_ok-take_piece.ensures.others;
      reads = omega (arith, c.in-Ok.ensures.reads, inv.reads, c.requires.reader.0);
      faults = c.in-Ok.ensures.faults ∙ inv.faults;
      ends = rw (ne_eqb c.in-Ok.count 0 c.if-count-eq0.false) at c.in-Ok.ensures.ends ∙ inv.ends;
    }

pub returns-in_err-take_piece-clause-runs : goal.returns-in_err-take_piece-clause-runs
returns-in_err-take_piece-clause-runs g c =
    let p = err_from_is_err_and c.from_residual.result c.from_residual.ensures.1 in
    let inv = c.loop-read.invariant in
    let went = Went-more g.S.Sink.takes g.R.Read.remaining 1 c.args.sink.now c.loop-read.sink c.take_piece.new.sink c.args.reader.now c.loop-read.reader c.read.new.self c.args.writer.now c.loop-read.writer c.take_piece.new.writer
    c.loop-read.cutter c.take_piece.new.cutter (take c.in-Ok.count c.read.new.buf) (Err c.in_err-take_piece.field-0.0) inv.went (omega (arith, c.in-Ok.ensures.reads)) c.in-Ok.ensures.bytes.0 c.in_err-take_piece.ensures.takes tt in
    let some = refused_some g.S.Sink.takes c.loop-read.sink c.take_piece.new.sink c.loop-read.cutter c.in-Ok.count c.read.new.buf c.loop-read.writer c.take_piece.new.writer c.in_err-take_piece.field-0.0 c.in_err-take_piece.ensures.takes in
    let none = rw some at c.in-Ok.ensures.ends ∙ inv.ends in
    rw (p.1, p.2) (record { bytes = went.bytes; read = (went.read, went.few); ends = inr (went.taken, record { faults = c.in-Ok.ensures.faults ∙ inv.faults; ends = none; failing = λ _. c.in-Ok.ensures.failing }) })

pub returns-in_default-clause-runs : goal.returns-in_default-clause-runs
returns-in_default-clause-runs g c =
    let inv = c.loop-read.invariant in
    record {
      bytes = inv.went.bytes;
      read = (Consumes-kept _ _ _ inv.went.bytes inv.went.read c.in_default.ensures.bytes, let few = inv.went.few in omega (arith, few, c.in_default.ensures.reads));
      ends = inl (inv.went.taken, refl, (inl (omega (arith, c.in_default.ensures.faults, inv.faults, c.requires.reader.1), c.in_default.ensures.failing), c.in_default.ensures.ends ∙ inv.ends));
    }

pub returns-then-count-eq0-clause-runs : goal.returns-then-count-eq0-clause-runs
returns-then-count-eq0-clause-runs g c =
    let inv = c.loop-read.invariant in
    let piece = take c.in-Ok.count c.read.new.buf in
    let went = Went-more g.S.Sink.takes g.R.Read.remaining 1 c.args.sink.now c.loop-read.sink c.take_piece.new.sink c.args.reader.now c.loop-read.reader c.read.new.self c.args.writer.now c.loop-read.writer c.take_piece.new.writer
    c.loop-read.cutter c.take_piece.new.cutter piece (Ok tt) inv.went (omega (arith, c.in-Ok.ensures.reads)) c.in-Ok.ensures.bytes.0 c.in_ok-take_piece.ensures.takes c.in_ok-take_piece.ensures.cutter in
    record {
      bytes = went.bytes;
      read = (went.read, went.few);
      ends = (
        went.taken,
        c.rest.ensures ∙ ap rest_in went.kept ∙ new_rest_in went.bytes,
        record {
          at_end = c.in-Ok.ensures.bytes.1 c.if-count-eq0.true (omega (arith, c.requires.room));
          ends = rw (eq-eqb c.in-Ok.count 0 c.if-count-eq0.true) at c.in-Ok.ensures.ends ∙ ap one_more inv.ends;
          faults = c.in-Ok.ensures.faults ∙ inv.faults;
          failing = c.in-Ok.ensures.failing;
        },
      );
    }

pub returns-clause-runs : goal.returns-clause-runs
returns-clause-runs g c =
    let inv = c.loop-read.invariant in
    record {
      bytes = inv.went.bytes;
      read = (inv.went.read, let few = inv.went.few in omega (arith, few));
      ends = inl (inv.went.taken, refl, (inr (omega (arith, inv.reads), inv.faults), inv.ends));
    }
