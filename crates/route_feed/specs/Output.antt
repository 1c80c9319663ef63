-- The whole output, as a function of the bytes and of the failed allocations.
use Rattle.std.specs.Prelude.{ℕ, drop, get_or, Bool, false, List, [], ◌∷◌, ◌++◌, if◌then◌else◌, Option, None, map}
use Rattle.route_lines.specs.Bytes.{lines, rest}
use Rattle.route_lines.specs.Spelled.{command_of}
use Rattle.route_lines.specs.declared.command.Command.{Command}
use Rattle.route_lines.specs.declared.reply.Reply.{Reply}
use Rattle.route_laws.specs.Networks.{Stored}
use Rattle.route_feed.specs.Replies.{printed}
use Rattle.route_feed.specs.Steps as steps

-- the refusals for the later commands: a command that may be refused uses up one of them
abbrev pub refusals_after : List Stored → Option Command → List Bool → List Bool
refusals_after M command refusals = if steps.may_refuse M command then drop 1 refusals else refusals

-- the reply lines to the commands, in order; None is a line that isn't a command
abbrev pub replies : List Stored → List (Option Command) → List Bool → List Reply
replies M [] refusals = []
replies M (command ∷ commands) refusals =
    steps.answer_lines (steps.step M command (get_or refusals 0 false))
    ++ replies (steps.step M command (get_or refusals 0 false)).next commands (refusals_after M command refusals)

-- the table after the commands
abbrev pub table_after : List Stored → List (Option Command) → List Bool → List Stored
table_after M [] refusals = M
table_after M (command ∷ commands) refusals =
    table_after (steps.step M command (get_or refusals 0 false)).next commands (refusals_after M command refusals)

-- the commands of the complete lines
abbrev pub whole_commands : List ℕ → List (Option Command)
whole_commands bytes = map command_of (lines bytes)

-- bytes after the last line end are one more line, which isn't a command
abbrev pub at_end : List ℕ → List (Option Command)
at_end [] = []
at_end (b ∷ bs) = None ∷ []

-- the printed replies to the complete lines, starting with the empty table
abbrev pub lines_output : List ℕ → List Bool → List ℕ
lines_output bytes refusals = printed (replies [] (whole_commands bytes) refusals)

-- the whole output: the printed replies to the complete lines and to the rest, starting with the empty table
abbrev pub output : List ℕ → List Bool → List ℕ
output bytes refusals = printed (replies [] (whole_commands bytes ++ at_end (rest bytes)) refusals)
