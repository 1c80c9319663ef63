-- The output of each mode for its input.
use Rattle.std.specs.Prelude.{◌≡◌, ◌<◌, ◌⊎◌, ⊤, ℕ, Bool, List, Option, Result, length}
use Rattle.std.specs.Io.KnownBytes.{Appends}
use Rattle.route_lines.specs.Bytes.{lines}
use Rattle.route_program.specs.declared.counted.Counted.{Counted}
use Rattle.route_program.specs.declared.error.RunError.{RunError}
use Rattle.route_program.specs.Devices.{HasReadAll, HasReadSoFar}
use Rattle.route_feed.specs.Follows.{AreReplies, FollowEnds, MeetsWant, followed}
use Rattle.route_feed.specs.Leads.{LeadEnds}
use Rattle.route_feed.specs.Output.{output}
use Rattle.route_feed.specs.Shortens.{AppendsLeast, ShortenEnds}
use Rattle.routes.specs.declared.Mode.{Mode}
use Rattle.routes.specs.declared.Mode.TheVariants.{Lead, Follow, Least}

-- the output of a leader or of a follower was written, or the lines of a least table
abbrev pub ModeWrites : Mode → List ℕ → Option (List ℕ) → Option (List ℕ) → Type 0
ModeWrites Lead bytes old new = (refusals : List Bool) × Appends old new (output bytes refusals)
ModeWrites Follow bytes old new = Appends old new (followed bytes)
ModeWrites Least bytes old new = AppendsLeast bytes old new

-- the effect of a run on its devices, by its result: that of `lead`, `follow` or `shorten`
abbrev pub ModeEnds : {R W : Type 0} → (R → Option (List ℕ)) → (W → Option (List ℕ)) → Mode → Counted R → Counted R → Counted W → Counted W → Result Unit RunError → Type 0
ModeEnds remaining contents Lead from to old new result = LeadEnds remaining contents from to old new result
ModeEnds remaining contents Follow from to old new result = FollowEnds remaining contents from to old new result
ModeEnds remaining contents Least from to old new result = ShortenEnds remaining contents from to old new result

-- at which points a run in this mode may lack memory: a leader before it reads; the others too at a line that may want it, and `least` once all is read
abbrev pub MayLackMemory : {R : Type 0} → (R → Option (List ℕ)) → Mode → Counted R → Counted R → Type 0
MayLackMemory remaining Lead from to = to ≡ from
MayLackMemory remaining Follow from to = (to ≡ from) ⊎ HasReadSoFar remaining (λ bytes. MeetsWant (lines bytes)) from to
MayLackMemory remaining Least from to =
    (to ≡ from) ⊎ HasReadSoFar remaining (λ bytes. MeetsWant (lines bytes)) from to ⊎ HasReadAll remaining (λ bytes. AreReplies (lines bytes)) from to

-- at which points a run in this mode may meet a fault of its output: a leader once it has read a line, or all; the others once all is read
-- and each line is a reply line
abbrev pub MayFailToWrite : {R : Type 0} → (R → Option (List ℕ)) → Mode → Counted R → Counted R → Type 0
MayFailToWrite remaining Lead from to = HasReadSoFar remaining (λ bytes. 0 < length (lines bytes)) from to ⊎ HasReadAll remaining (λ bytes. ⊤) from to
MayFailToWrite remaining Follow from to = HasReadAll remaining (λ bytes. AreReplies (lines bytes)) from to
MayFailToWrite remaining Least from to = HasReadAll remaining (λ bytes. AreReplies (lines bytes)) from to
