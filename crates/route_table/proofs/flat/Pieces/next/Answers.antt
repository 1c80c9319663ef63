use Rattle.route_table.proofs.FlatRuns.{piece_given, piece_none}
use Rattle.route_table.proofs.flat.Pieces.next.Goals as goal

pub returns-in-Some : goal.returns-in-Some
returns-in-Some c = piece_given c.args.self.now.number c.args.self.now.blocks c.next.new.self c.in-Some.net c.in-Some.ensures.steps.0

pub returns-in-None : goal.returns-in-None
returns-in-None c = piece_none c.args.self.now.number c.args.self.now.blocks c.next.new.self c.in-None.ensures.steps.0
