-- The effect of the reply to one line on the table and the writer, by the result.
use Rattle.std.specs.Prelude.{◌≡◌, ℕ, Bool, List, Option, Result}
use Rattle.route_lines.specs.declared.command.Command.{Command}
use Rattle.route_laws.specs.Networks.{Stored}
use Rattle.route_program.specs.declared.counted.Counted.{Counted}
use Rattle.route_program.specs.declared.error.RunError.{RunError}
use Rattle.route_program.specs.Devices.{Closes}
use Rattle.route_feed.specs.Replies.{printed}
use Rattle.route_feed.specs.Steps.{step, answer_lines}

-- The reply to a command, or to a line that spells none (None), as a step of the table, which may be refused if memory runs out. `Ok`:
-- the reply was written, the writer was flushed once, after all of it, and nothing failed. `Write`: a beginning was written. There is no
-- other error. The table is the one after the step, even if the writer failed
pub record Answers {W : Type 0} (contents : W → Option (List ℕ)) (M N : List Stored) (command : Option Command) (old new : Counted W) (result : Result Unit RunError) : Type 0 where
  pub refused : Bool
  pub reply : Closes contents 1 old new result (printed (answer_lines (step M command refused)))
  pub table : N ≡ (step M command refused).next
