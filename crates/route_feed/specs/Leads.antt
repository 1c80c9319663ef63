-- The effect of `lead` on its devices, by its result.
use Rattle.std.specs.Prelude.{◌≡◌, ℕ, suc, ◌<◌, ◌⊎◌, Bool, List, [], ◌++◌, length, take, Option, Result, Ok, Err}
use Rattle.std.specs.Io.KnownBytes.{Appends}
use Rattle.route_lines.specs.Bytes.{rest}
use Rattle.route_lines.specs.declared.command.Command.{Command}
use Rattle.route_laws.specs.Networks.{Stored}
use Rattle.route_program.specs.declared.counted.Counted.{Counted}
use Rattle.route_program.specs.declared.error.RunError.{RunError}
use Rattle.route_program.specs.declared.error.RunError.TheVariants as Why
use Rattle.route_program.specs.Devices.{Closed, HasRead, HasReadAll, HasReadSoFar}
use Rattle.route_program.specs.Counted.{more_by, FailedLast, ReadFault}
use Rattle.route_feed.specs.Output.{whole_commands, at_end, lines_output, output, replies}
use Rattle.route_feed.specs.Replies.{printed}
use Rattle.route_feed.specs.Streams.{closings, replies_in}

module _ {W : Type 0} (contents : W → Option (List ℕ)) where
  -- this text was written, and flushed as often as it has closing lines, each time after more bytes, and at last after all of it
  abbrev pub Outputs : List ℕ → Counted W → Counted W → Type 0
  Outputs text old new = Closed contents (closings (replies_in text)) old new text

  -- the replies to some of these commands were written, and the writer was flushed after each of them. Then a beginning of the next
  -- reply, or all of it, was written but not flushed, since the writer failed, in its last call
  pub record Stopped (M : List Stored) (commands : List (Option Command)) (refusals : List Bool) (old new : Counted W) : Type 0 where
    pub front : List ℕ
    pub back : List ℕ
    pub answered : ℕ
    pub begun : List ℕ
    pub missing : List ℕ
    pub is_front : printed (replies M commands refusals) ≡ front ++ back
    pub another : answered < length commands
    pub is : front ≡ printed (replies M (take answered commands) refusals) ++ begun
    pub next : printed (replies M (take (suc answered) commands) refusals) ≡ front ++ missing
    pub appended : Appends (contents old.device) (contents new.device) front
    pub flushed : new.flushes ≡ more_by answered old.flushes
    pub failed : FailedLast old new

module _ {R W : Type 0} (remaining : R → Option (List ℕ)) (contents : W → Option (List ℕ)) where
  -- `Ok`: all was read, the whole output was written and flushed, and nothing failed. `Read`: the replies to the complete lines were
  -- written and flushed, and only the reader failed, in its last call. `Write`: a beginning of these replies was written, or of the output
  -- if all was read; each reply before the last was flushed, and only the writer failed, in its last call. `Memory`: nothing was done
  abbrev pub LeadEnds : Counted R → Counted R → Counted W → Counted W → Result Unit RunError → Type 0
  LeadEnds from to old new (Ok done) = HasReadAll remaining (λ bytes. (refusals : List Bool) × Outputs contents (output bytes refusals) old new) from to
  LeadEnds from to old new (Err Why.Read) = HasRead remaining (λ bytes. (refusals : List Bool) × Outputs contents (lines_output bytes refusals) old new) from to × ReadFault from to
  LeadEnds from to old new (Err Why.Write) =
      HasReadSoFar remaining (λ bytes. (refusals : List Bool) × Stopped contents [] (whole_commands bytes) refusals old new) from to
      ⊎ HasReadAll remaining (λ bytes. (refusals : List Bool) × Stopped contents [] (whole_commands bytes ++ at_end (rest bytes)) refusals old new) from to
  LeadEnds from to old new (Err Why.Memory) = (to ≡ from) × (new ≡ old)
  LeadEnds from to old new (Err Why.Line) = ⊥
