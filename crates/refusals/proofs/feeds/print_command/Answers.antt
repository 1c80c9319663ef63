use Rattle.route_lines.proofs.PrintedCommands.{printable_command}
use Rattle.refusals.proofs.feeds.print_command.Goals as goal

pub print-requires : goal.print-requires
print-requires c = printable_command _ _ c.in-Ok.ensures
