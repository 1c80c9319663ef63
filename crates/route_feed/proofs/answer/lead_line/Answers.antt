use Rattle.std.proofs.Common.{ap, ◌∙◌}
use Rattle.route_feed.specs.Lines.{command_in}
use Rattle.route_feed.proofs.ReadLines.{of_commands, piece_spells}
use Rattle.route_feed.proofs.answer.lead_line.Goals as goal

pub returns : goal.returns
returns g c = rw (ap command_in c.line_text.ensures ∙ piece_spells of_commands c.args.line.now) at c.answer.ensures
