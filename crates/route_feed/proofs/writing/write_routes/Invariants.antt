use Rattle.route_feed.specs.Lines.{HaveNoHostBits}
use Rattle.route_feed.proofs.Rebuilt.{add_bytes}
use Rattle.route_program.proofs.WriteLines.{Told}
use Rattle.route_feed.proofs.writing.write_routes.Given as goal

abbrev pub invariant-loop-net : goal.invariant-loop-net
invariant-loop-net g l = Told g.W.Write.contents add_bytes l.fn.writer l.writer l.fn.routes l.net-iterator × HaveNoHostBits l.net-iterator
