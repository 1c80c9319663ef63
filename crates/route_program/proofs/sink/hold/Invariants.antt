use Rattle.std.proofs.Common.{◌≡◌, take}
use Rattle.route_lines.specs.Lines.{fed_all}
use Rattle.route_program.proofs.sink.hold.Given as goal

abbrev pub invariant-loop-byte : goal.invariant-loop-byte
invariant-loop-byte l = l.cutter ≡ fed_all l.fn.cutter (take l.byte-index l.bytes)
