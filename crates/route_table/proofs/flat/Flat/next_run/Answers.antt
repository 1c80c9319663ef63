use Rattle.route_table.proofs.HopRuns.{piece_then}
use Rattle.route_table.proofs.flat.Flat.next_run.Goals as goal

pub returns-in-Some : goal.returns-in-Some
returns-in-Some c = piece_then c.self.inside.pieces c.next.new.self c.self.inside.runs c.args.self.now c.of_net.result c.in-Some.net c.in-Some.number c.self.view_is c.in-Some.ensures.0 c.of_net.ensures
