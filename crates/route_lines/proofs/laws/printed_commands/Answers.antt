use Rattle.route_lines.proofs.PrintedCommands.{texts}
use Rattle.route_lines.proofs.laws.printed_commands.Goals as goal

pub returns : goal.returns
returns c = texts
