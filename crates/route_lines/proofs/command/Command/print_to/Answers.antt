use Rattle.std.proofs.Common.{rules}
use Rattle.route_lines.specs.CommandText.{command_text}
use Rattle.route_lines.proofs.Commands.{commands}
use Rattle.route_lines.proofs.Printed.{printed}
use Rattle.route_lines.proofs.PrintedCommands.{prints}
use Rattle.route_lines.proofs.command.Command.print_to.Goals as goal

pub returns : goal.returns
returns c = printed command_text _ _ commands (prints _ c.requires c.print_words.ensures.words) (search rules) (search rules)
