-- A table that is kept installed while changes are reported, event by event.
use Rattle.std.specs.Prelude.{◌≡◌, ℕ, Bool, true, false, if◌then◌else◌, List, [], ◌∷◌, ◌++◌, Option}
use Rattle.ipnet_addr.specs.Addresses.{Address}
use Rattle.ipnet_blocks.specs.Blocks.{IsBlock}
use Rattle.route_choices.specs.Hops.{IsHop}
use Rattle.route_laws.specs.LeastTables.{IsLeast}
use Rattle.route_laws.specs.Nearest.{IsNearest}
use Rattle.route_laws.specs.Operations.{Operation, after_all, between}
use Rattle.route_laws.specs.Painted.{AreChanges, hop_over, painted_all}
use Rattle.route_laws.specs.Tables.{Route, hop_at, with_route}

-- A route is installed already; or changes are reported, and a nearest table with the hops after them is to be installed if the
-- installed table is kept in sync; or a least table is to be installed.
pub data Event : Type 0 where
  Have : Route → Event
  Told : List Route → List Route → Event
  Sync : List Route → Event

-- a table with the committed hops, the installed table, and whether the installed table is kept in sync with these hops
pub record Installer : Type 0 where
  pub table : List Route
  pub installed : List Route
  pub kept : Bool

-- nothing is installed, and no address has a hop
abbrev pub start : Installer
start = record { table = []; installed = []; kept = false }

-- the state after an event; from the first `Sync` on, the installed table is kept in sync
abbrev pub after_event : Installer → Event → Installer
after_event s (Have r) = record { table = s.table; installed = with_route s.installed r; kept = s.kept }
after_event s (Told rs N) = record { table = if s.kept then N else painted_all s.table rs; installed = if s.kept then N else s.installed; kept = s.kept }
after_event s (Sync N) = record { table = N; installed = N; kept = true }

-- the state after all events
abbrev pub after_events : Installer → List Event → Installer
after_events s [] = s
after_events s (e ∷ es) = after_events (after_event s e) es

-- the operations of an event
abbrev pub gives : Installer → Event → List Operation
gives s (Have r) = []
gives s (Told rs N) = if s.kept then between s.installed N else []
gives s (Sync N) = between s.installed N

-- the operations of all events, event by event
abbrev pub given : Installer → List Event → List Operation
given s [] = []
given s (e ∷ es) = gives s e ++ given (after_event s e) es

-- the installed table with the routes that the events say are installed already
abbrev pub with_haves : List Route → List Event → List Route
with_haves M [] = M
with_haves M (Have r ∷ es) = with_haves (with_route M r) es
with_haves M (Told rs N ∷ es) = with_haves M es
with_haves M (Sync N ∷ es) = with_haves M es

-- the table installed before all events
abbrev pub haves : List Event → List Route
haves es = with_haves [] es

-- the operations turn the installed table into the one after the event; a `Have` has no operations
abbrev pub IsMade : Installer → Event → Type 0
IsMade s (Have r) = gives s (Have r) ≡ []
IsMade s (Told rs N) = after_all s.installed (gives s (Told rs N)) ≡ Installer.installed (after_event s (Told rs N))
IsMade s (Sync N) = after_all s.installed (gives s (Sync N)) ≡ N

-- The events that may come: no `Have` after the first `Sync`; from then on, changes only with a table that is nearest to the installed
-- one and has the hops after the changes; and a `Sync` only with a least table of the committed hops, which is the installed table if
-- that is a least one already.
abbrev pub MayCome : Installer → Event → Type 0
MayCome s (Have r) = (s.kept ≡ false) × IsBlock r.block × IsHop r.hop
MayCome s (Told rs N) = AreChanges rs × (s.kept ≡ true → IsNearest s.installed (hop_at (painted_all s.table rs)) N)
MayCome s (Sync N) = IsLeast (hop_at s.table) N × (s.kept ≡ true → IsLeast (hop_at s.table) s.installed → N ≡ s.installed)

-- each of the events may come in its turn
abbrev pub MayAllCome : Installer → List Event → Type 0
MayAllCome s [] = Unit {0}
MayAllCome s (e ∷ es) = MayCome s e × MayAllCome (after_event s e) es

-- the hop of an address after the reported changes, or `now` if none contains it
abbrev pub told : Option ℕ → List Event → Address → Option ℕ
told now [] x = now
told now (Have r ∷ es) x = told now es x
told now (Told rs N ∷ es) x = told (hop_over now rs x) es x
told now (Sync N ∷ es) x = told now es x
