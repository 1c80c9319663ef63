-- A follower that reads an input to its end.
use Rattle.std.specs.Prelude.{◌≡◌, ◌≢◌, ℕ, List, Option, Result, Ok, Err}
use Rattle.ipnet_addr.specs.Addresses.{Address, IsAddress}
use Rattle.route_lines.specs.Bytes.{lines}
use Rattle.route_laws.specs.Networks.{routes_of}
use Rattle.route_laws.specs.Tables.{hop_at}
use Rattle.route_program.specs.declared.counted.Counted.{Counted}
use Rattle.route_program.specs.declared.error.RunError.{RunError}
use Rattle.route_program.specs.declared.error.RunError.TheVariants as Why
use Rattle.route_feed.specs.Following.{State}
use Rattle.route_program.specs.Devices.{HasReturned, MetEnd}
use Rattle.route_feed.specs.Follows.{AreReplies, FollowEnds}
use Rattle.route_feed.specs.Streams.{committed, painted_hop, replies_in}

module _ {R W : Type 0} (remaining : R → Option (List ℕ)) (contents : W → Option (List ℕ)) where
  -- all was read, each line is a reply line, and the follower has the hops after the committed changes
  pub record Reached (from to : Counted R) (follower : State) : Type 0 where
    pub bytes : List ℕ
    pub read : HasReturned remaining from to bytes
    pub replies : AreReplies (lines bytes)
    pub hops : (x : Address) → IsAddress x → hop_at (routes_of follower.table) x ≡ painted_hop (committed (replies_in bytes)) x
    pub met : MetEnd remaining from to

  -- the end was reached, and nothing was written; or it was not, and so `follow` ends
  abbrev pub Reaches : Counted R → Counted R → Counted W → Counted W → Result State RunError → Type 0
  Reaches from to old new (Ok follower) = Reached from to follower × (new ≡ old)
  Reaches from to old new (Err e) = (e ≢ Why.Write) × FollowEnds remaining contents from to old new (Err e)
