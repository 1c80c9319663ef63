use Rattle.route_lines.proofs.Updates.{texts}
use Rattle.route_lines.proofs.laws.printed_updates.Goals as goal

pub returns : goal.returns
returns c = texts
