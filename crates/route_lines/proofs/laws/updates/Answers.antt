use Rattle.route_lines.proofs.Spells.{update_found}
use Rattle.route_lines.proofs.Updates as own
use Rattle.route_lines.proofs.laws.updates.Goals as goal

pub returns : goal.returns
returns c = record { grammar = own.updates; printable = own.printable_update; operations = own.printable_operation; found = update_found }
