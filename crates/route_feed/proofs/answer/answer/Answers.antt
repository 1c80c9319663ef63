use Rattle.std.proofs.Common.{ap, ◌∙◌, refl, false}
use Rattle.route_lines.specs.Lines.{as_line}
use Rattle.route_feed.specs.Lines.{command_in}
use Rattle.route_feed.proofs.ReadLines.{of_commands, read_is, read_none}
use Rattle.route_feed.proofs.answer.answer.Goals as goal

pub returns-in_default-read : goal.returns-in_default-read
returns-in_default-read g c =
    rw (ap (λ o. command_in (as_line o)) c.in-Some.is ∙ read_none of_commands c.in-Some.text.now c.in_default-read.ensures)
    (record { refused = false; reply = c.close-in_default-read.ensures; table = refl })

pub returns : goal.returns
returns g c =
    rw (ap (λ o. command_in (as_line o)) c.in-Some.is ∙ read_is of_commands c.in-Some.text.now c.in-Ok.command c.in-Ok.ensures) c.answer_command.ensures
