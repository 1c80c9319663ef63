-- The effects of the C calls that change a table, by the number that they return.
use Rattle.std.specs.Prelude.{◌≡◌, ◌≢◌, ◌⊎◌, ◌<◌, ◌≤◌, ℕ, true, false, List, []}
use Rattle.ipnet_blocks.specs.Blocks.{Block}
use Rattle.hop_index.specs.Indexes.{hop_number}
use Rattle.route_choices.specs.declared.hop.Hop.{Hop}
use Rattle.route_choices.specs.Choices.{holds_hop, is_one_too_many}
use Rattle.route_laws.specs.Networks.{Stored, choices_at, routes_of, with_choice, without_choice}
use Rattle.route_laws.specs.Tables.{match_of, match_number}
use Rattle.routes_c.specs.Handles.{GoesOn, Keeps, session_of}
use Rattle.routes_c.specs.declared.handle.Handle.{Handle}
use Rattle.routes_c.specs.declared.session.Session.{Session}
use Rattle.routes_c.specs.declared.shown.Change.{Change}

-- the stored reply and the stored lists are unchanged
abbrev pub KeepsLists : Session → Session → Type 0
KeepsLists s t = (t.reply ≡ s.reply) × (t.lists ≡ s.lists)

-- the hops in a change: those of the addresses that the network governs, before and after
pub record Tells (T U : List Stored) (b : Block) (change : Change) : Type 0 where
  pub before : change.before ≡ hop_number (match_number (match_of (routes_of T) b))
  pub after : change.after ≡ hop_number (match_number (match_of (routes_of U) b))

-- an `add`: 0 if the route was added; 5 exactly if eight other hops are stored; 2 if an allocation fails, which happens only if the
-- network isn't stored. At 2 and 5 the table and the change are unchanged
pub record Adds (T U : List Stored) (b : Block) (k : Hop) (p : ℕ) (code : ℕ) (old new : Change) : Type 0 where
  pub answers : (code ≡ 0) ⊎ ((code ≡ 2) ⊎ (code ≡ 5))
  pub added : code ≡ 0 → (U ≡ with_choice T b (record { hop = k; pref = p })) × Tells T U b new
  pub unchanged : code ≢ 0 → (U ≡ T) × (new ≡ old)
  pub full : code ≡ 5 → is_one_too_many (choices_at T b) k ≡ true
  pub not_full : code ≢ 5 → is_one_too_many (choices_at T b) k ≡ false
  pub no_memory : code ≡ 2 → choices_at T b ≡ []

-- a `del`: 0 if the network has the hop, and else 1; at 1 the table and the change are unchanged
pub record Removes (T U : List Stored) (b : Block) (k : Hop) (code : ℕ) (old new : Change) : Type 0 where
  pub answers : (code ≡ 0) ⊎ (code ≡ 1)
  pub removed : U ≡ without_choice T b k
  pub done : code ≡ 0 → (holds_hop (choices_at T b) k ≡ true) × Tells T U b new
  pub missing : code ≡ 1 → (holds_hop (choices_at T b) k ≡ false) × (U ≡ T) × (new ≡ old)

-- a call that changes a table and sets a change; 3 if there is no table, and then the change is unchanged
abbrev pub Changes : Handle → Handle → (List Stored → List Stored → ℕ → Change → Change → Type 0) → ℕ → Change → Change → Type 0
Changes old new does code was now = GoesOn session_of old new ((code ≡ 3) × (now ≡ was)) (λ s t. does s.table t.table code was now × KeepsLists s t)

-- the same for a network of this length; 6 if it is above `most`, and then the change is unchanged
abbrev pub ChangesAt : ℕ → ℕ → Handle → Handle → (List Stored → List Stored → ℕ → Change → Change → Type 0) → ℕ → Change → Change → Type 0
ChangesAt most len old new does code was now = (most < len → (code ≡ 6) × (now ≡ was) × Keeps old new) × (len ≤ most → Changes old new does code was now)
