-- The state of a follower, and the effect of a reply line on it.
use Rattle.std.specs.Prelude.{◌≡◌, ◌≢◌, ℕ, Bool, true, List, if◌then◌else◌, Option, Some, None, Result, Ok, Err, take}
use Rattle.ipnet_addr.specs.Addresses.{Address, IsAddress}
use Rattle.route_lines.specs.declared.cutter.Line.{Line}
use Rattle.route_lines.specs.declared.reply.Closing.{Closing}
use Rattle.route_lines.specs.declared.reply.Closing.TheVariants.{Done}
use Rattle.route_lines.specs.declared.reply.Reply.{Reply}
use Rattle.route_laws.specs.Networks.{Stored, routes_of}
use Rattle.route_laws.specs.Tables.{hop_at}
use Rattle.route_program.specs.declared.error.RunError.{RunError}
use Rattle.route_program.specs.declared.error.RunError.TheVariants as Why
use Rattle.route_feed.specs.Lines.{reply_in}
use Rattle.route_feed.specs.Streams.{Change, WantsMemory, is_done, change_of, closes, painted_over, pending_after}

-- a table for the hops, the pending changes, and whether there was a fault
pub record State : Type 0 where
  pub table : List Stored
  pub pending : List Change
  pub failed : Bool

-- the hop of an address after a line: at `ok`, that of the last pending change whose block contains it
abbrev pub hop_after : State → Option Closing → Address → Option ℕ
hop_after s (Some closing) x = if is_done closing then painted_over (hop_at (routes_of s.table) x) s.pending x else hop_at (routes_of s.table) x
hop_after s None x = hop_at (routes_of s.table) x

-- the line was accepted: only `ok` changes the table
pub record TakesLine (old new : State) (line : Reply) : Type 0 where
  pub hops : (x : Address) → IsAddress x → hop_at (routes_of new.table) x ≡ hop_after old (closes line) x
  pub pending : new.pending ≡ pending_after old.pending (closes line) (change_of line)
  pub kept : closes line ≢ Some Done → new.table ≡ old.table

-- each address has its hop after some first ones of these changes
pub record HasFirst (old : List Stored) (changes : List Change) (new : List Stored) : Type 0 where
  pub carried : ℕ
  pub hops : (x : Address) → IsAddress x → hop_at (routes_of new) x ≡ painted_over (hop_at (routes_of old) x) (take carried changes) x

-- there was no memory for the line: the pending changes stay, and the table too unless the line is `ok`, where it may have some first ones of them
pub record LacksMemory (old new : State) (line : Reply) : Type 0 where
  pub pending : new.pending ≡ old.pending
  pub first : HasFirst old.table old.pending new.table
  pub kept : closes line ≡ None → new.table ≡ old.table

-- a line was followed; or the reason why it was not, and then the follower has failed
abbrev pub FollowsLine : State → Line → Result Unit RunError → State → Type 0
FollowsLine a line (Ok done) b = (reply : Reply) × (reply_in line ≡ Some reply) × TakesLine a b reply
FollowsLine a line (Err Why.Line) b = (reply_in line ≡ None) × (b ≡ record a { failed = true })
FollowsLine a line (Err Why.Memory) b = (reply : Reply) × (reply_in line ≡ Some reply) × WantsMemory a.pending reply × LacksMemory a b reply × (b.failed ≡ true)
FollowsLine a line (Err Why.Read) b = ⊥
FollowsLine a line (Err Why.Write) b = ⊥
