use Rattle.route_lines.proofs.PrintedCommands.{printable_command}
use Rattle.tests_route_feed.proofs.tests.texts.printed_command.Goals as goal

pub print-requires : goal.print-requires
print-requires g c = printable_command _ _ c.in-Ok.ensures
