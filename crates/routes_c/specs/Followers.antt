-- The effects of the calls on a follower.
use Rattle.std.specs.Prelude.{◌≡◌, ◌≢◌, ◌⊎◌, ℕ, Bool, true, false, List, Option, None, Some}
use Rattle.ipnet_addr.specs.Addresses.{Address}
use Rattle.route_feed.specs.Following.{TakesLine}
use Rattle.route_feed.specs.Streams.{WantsMemory}
use Rattle.route_laws.specs.Flats.{flat_of}
use Rattle.route_laws.specs.Networks.{routes_of}
use Rattle.route_laws.specs.Tables.{hop_at}
use Rattle.route_lines.specs.Spelled.{reply_of}
use Rattle.route_lines.specs.declared.reply.Reply.{Reply}
use Rattle.routes_c.specs.Handles.{KeepsContent, follower_of}
use Rattle.routes_c.specs.Lists.{MakesPieces, MakesRoutes}
use Rattle.routes_c.specs.RouteLists.{AreLeast}
use Rattle.routes_c.specs.declared.follower_session.FollowerSession.{FollowerSession}
use Rattle.routes_c.specs.declared.handle.Handle.{Handle}
use Rattle.routes_c.specs.declared.last_lists.LastLists.{LastLists}

-- a line: 0 if it was read; 7 if it isn't a reply line; 2 if an allocation fails for keeping or committing a change; 8 exactly if there
-- was a fault before. 2 and 7 are faults. The lists are unchanged
pub record Follows (s t : FollowerSession) (text : List ℕ) (code : ℕ) : Type 0 where
  pub answers : (code ≡ 0) ⊎ ((code ≡ 2) ⊎ ((code ≡ 7) ⊎ (code ≡ 8)))
  pub taken : code ≡ 0 → (line : Reply) × (reply_of text ≡ Some line) × TakesLine s.follower t.follower line
  pub works : code ≡ 0 → (s.follower.failed ≡ false) × (t.follower.failed ≡ false)
  pub no_memory : code ≡ 2 → (s.follower.failed ≡ false) × (line : Reply) × (reply_of text ≡ Some line) × WantsMemory s.follower.pending line
  pub not_a_line : code ≡ 7 → (s.follower.failed ≡ false) × (reply_of text ≡ None)
  pub failed : code ≡ 8 → (s.follower.failed ≡ true) × (t.follower ≡ s.follower)
  pub fault : code ≢ 0 → t.follower.failed ≡ true
  pub lists : t.lists ≡ s.lists

-- the hop of an address: 8 after a fault; without one 0 and the number of the hop, or 1 if the address has no hop. At 1 and 8 the
-- number is unchanged
abbrev pub TellsHop : Bool → Option ℕ → ℕ → ℕ → ℕ → Type 0
TellsHop true hop code old new = (code ≡ 8) × (new ≡ old)
TellsHop false None code old new = (code ≡ 1) × (new ≡ old)
TellsHop false (Some k) code old new = (code ≡ 0) × (new ≡ k)

-- a call that looks up the hop of an address; 3 if there is no follower, and then the number is unchanged
abbrev pub TellsHopAt : Handle → Handle → Address → ℕ → ℕ → ℕ → Type 0
TellsHopAt old new x code was now = KeepsContent follower_of old new ((code ≡ 3) × (now ≡ was)) (λ s. TellsHop s.follower.failed (hop_at (routes_of s.follower.table) x) code was now)

-- a list of the hops: 0 if it was made, 2 if an allocation fails, and 8 exactly after a fault. All else is unchanged
pub record FollowerMakes (s t : FollowerSession) (list : LastLists → LastLists → ℕ → Type 0) (code : ℕ) : Type 0 where
  pub answers : (code ≡ 0) ⊎ ((code ≡ 2) ⊎ (code ≡ 8))
  pub made : list s.lists t.lists code
  pub failed : code ≡ 8 → s.follower.failed ≡ true
  pub works : code ≢ 8 → s.follower.failed ≡ false
  pub follower : t.follower ≡ s.follower

-- the flat list of the hops
abbrev pub FollowerFlattens : FollowerSession → FollowerSession → ℕ → Type 0
FollowerFlattens s t code = FollowerMakes s t (λ k l. MakesPieces k l (flat_of (hop_at (routes_of s.follower.table)))) code

-- a least table of the hops
abbrev pub FollowerLists : FollowerSession → FollowerSession → ℕ → Type 0
FollowerLists s t code = FollowerMakes s t (λ k l. MakesRoutes k l (AreLeast (hop_at (routes_of s.follower.table)))) code
