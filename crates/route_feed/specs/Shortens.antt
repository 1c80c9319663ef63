-- The effect of `shorten` on its devices, by its result.
use Rattle.std.specs.Prelude.{◌≡◌, ℕ, List, ◌⊎◌, Option, Result, Ok, Err}
use Rattle.std.specs.Io.KnownBytes.{Appends}
use Rattle.route_lines.specs.Bytes.{lines}
use Rattle.route_laws.specs.LeastTables.{IsLeast}
use Rattle.route_laws.specs.Tables.{Route}
use Rattle.route_program.specs.declared.counted.Counted.{Counted}
use Rattle.route_program.specs.declared.error.RunError.{RunError}
use Rattle.route_program.specs.declared.error.RunError.TheVariants as Why
use Rattle.route_feed.specs.AddLines.{add_lines}
use Rattle.route_program.specs.Devices.{Delivered, HasRead, HasReadAll, HasReadSoFar, Torn}
use Rattle.route_program.specs.Counted.{ReadFault}
use Rattle.route_feed.specs.Follows.{AreReplies, MeetsAnother, MeetsWant}
use Rattle.route_feed.specs.Streams.{committed, painted_hop, replies_in}

-- a smallest table with the hops after the committed changes
abbrev pub IsLeastFor : List ℕ → List Route → Type 0
IsLeastFor bytes routes = IsLeast (painted_hop (committed (replies_in bytes))) routes

-- the lines that add the routes of such a table were written
abbrev pub AppendsLeast : List ℕ → Option (List ℕ) → Option (List ℕ) → Type 0
AppendsLeast bytes old new = (routes : List Route) × IsLeastFor bytes routes × Appends old new (add_lines routes)

module _ {R W : Type 0} (remaining : R → Option (List ℕ)) (contents : W → Option (List ℕ)) where
  -- As `FollowEnds`, but the lines of such a table are written. It may also end with `Memory` once all is read and all are reply lines
  abbrev pub ShortenEnds : Counted R → Counted R → Counted W → Counted W → Result Unit RunError → Type 0
  ShortenEnds from to old new (Ok done) = HasReadAll remaining (λ bytes. AreReplies (lines bytes) × ((routes : List Route) × IsLeastFor bytes routes × Delivered contents old new (add_lines routes))) from to
  ShortenEnds from to old new (Err Why.Read) = HasRead remaining (λ bytes. AreReplies (lines bytes)) from to × ReadFault from to × (new ≡ old)
  ShortenEnds from to old new (Err Why.Line) = MeetsAnother remaining from to × (new ≡ old)
  ShortenEnds from to old new (Err Why.Write) = HasReadAll remaining (λ bytes. AreReplies (lines bytes) × ((routes : List Route) × IsLeastFor bytes routes × Torn contents old new (add_lines routes))) from to
  ShortenEnds from to old new (Err Why.Memory) =
      ((to ≡ from) ⊎ HasReadSoFar remaining (λ bytes. MeetsWant (lines bytes)) from to ⊎ HasReadAll remaining (λ bytes. AreReplies (lines bytes)) from to) × (new ≡ old)
