use Rattle.std.proofs.Common.{◌≡◌, ◌+◌, Ok}
use Rattle.route_program.proofs.SinkRun.{Went}
use Rattle.route_program.proofs.sink.run.Given as goal

abbrev pub invariant-loop-read : goal.invariant-loop-read
invariant-loop-read g l = record {
  went : Went g.S.Sink.takes g.R.Read.remaining 0 l.fn.sink l.fn.reader l.fn.writer (Ok tt) l.sink l.reader l.writer l.cutter;
  can : g.S.Sink.can_take l.sink l.writer;
  reads : l.reader.reads ≡ l.fn.reader.reads + l._read;
  faults : l.reader.faults ≡ l.fn.reader.faults;
  ends : l.reader.ends ≡ l.fn.reader.ends;
}
