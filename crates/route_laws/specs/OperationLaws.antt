-- The theorems about operations between tables, as statements.
use Rattle.std.specs.Prelude.{◌≡◌, true, if◌then◌else◌, ℕ, List, ◌++◌, ◌∷◌, [], None, take}
use Rattle.ipnet_addr.specs.Addresses.{Address, IsAddress}
use Rattle.ipnet_blocks.specs.Blocks.{Block, IsBlock, has_address}
use Rattle.ipnet_blocks.specs.Maximal.{IsMaximal}
use Rattle.route_choices.specs.declared.hop.Hop.{Hop}
use Rattle.route_choices.specs.Hops.{IsHop, number_of}
use Rattle.route_laws.specs.LeastTables.{IsLeast}
use Rattle.route_laws.specs.Nearest.{IsFewestTo}
use Rattle.route_laws.specs.Operations.{IsFewestOperations, IsHitless, after_all, between}
use Rattle.route_laws.specs.Painted.{AreChanges, changes_to, hop_over, painted, painted_all}
use Rattle.route_laws.specs.Runs.{Event, Sync, Told, IsMade, MayAllCome, after_events, given, gives, haves, start, told}
use Rattle.route_laws.specs.Tables.{Route, Changed, IsTable, hop_at}

-- the operations between two tables turn the first into the second
abbrev pub BetweenReaches : Type 0
BetweenReaches = (M N : List Route) → IsTable M → IsTable N → after_all M (between M N) ≡ N

-- on the way each address changes its hop at most once, from its hop in the first table to that in the second
abbrev pub BetweenIsHitless : Type 0
BetweenIsHitless = (M N : List Route) → IsTable M → IsTable N → IsHitless M (between M N)

-- no shorter sequence of operations, on any blocks, turns the first into the second
abbrev pub BetweenIsFewest : Type 0
BetweenIsFewest = (M N : List Route) → IsTable M → IsTable N → IsFewestOperations M N (between M N)

-- ---- changes of blocks

-- a change of a table makes a table
abbrev pub PaintedIsTable : Type 0
PaintedIsTable = (M : List Route) (r : Route) → IsTable M → IsBlock r.block → IsHop r.hop → IsTable (painted M r)

-- the addresses of the block have the hop of r, and all others keep their hop
abbrev pub HopsOfPainted : Type 0
HopsOfPainted = (M : List Route) (r : Route) → IsTable M → IsBlock r.block → IsHop r.hop → (x : Address) → IsAddress x →
    hop_at (painted M r) x ≡ (if has_address r.block x then number_of r.hop else hop_at M x)

-- each address has the hop of the last change whose block contains it, or its old hop if none does
abbrev pub HopsOfChanges : Type 0
HopsOfChanges = (M rs : List Route) → IsTable M → AreChanges rs → (x : Address) → IsAddress x → hop_at (painted_all M rs) x ≡ hop_over (hop_at M x) rs x

-- the maximal blocks of the addresses whose hop differs in two tables are valid changes, with any hop
abbrev pub ToldAreChanges : Type 0
ToldAreChanges = (M N : List Route) (bs : List Block) (hop : Hop) → IsMaximal (Changed M N) bs → IsHop hop → AreChanges (changes_to hop bs)

-- ---- event by event

-- the operations of an event turn the table installed before it into the table installed after it; a `Have` has no operations
abbrev pub GivesWhatItSays : Type 0
GivesWhatItSays = (es : List Event) (e : Event) → MayAllCome start (es ++ e ∷ []) → IsMade (after_events start es) e

-- each address changes its hop at most once in the operations of one event
abbrev pub GivesHitless : Type 0
GivesHitless = (es : List Event) (e : Event) → MayAllCome start (es ++ e ∷ []) →
    IsHitless (after_events start es).installed (gives (after_events start es) e)

-- once the installed table is kept in sync, each address has the reported hop in it
abbrev pub KeepsHops : Type 0
KeepsHops = (es : List Event) → MayAllCome start es → (after_events start es).kept ≡ true →
    (x : Address) → IsAddress x → hop_at (after_events start es).installed x ≡ told None es x

-- Once the installed table is kept in sync, the operations of changes are the fewest of all that give each address the reported hop,
-- these changes included.
abbrev pub ToldIsFewest : Type 0
ToldIsFewest = (es : List Event) (rs N : List Route) → MayAllCome start (es ++ Told rs N ∷ []) → (after_events start es).kept ≡ true →
    IsFewestTo (after_events start es).installed (told None (es ++ Told rs N ∷ [])) (gives (after_events start es) (Told rs N))

-- the operations of all events turn the table installed before them into the table installed after them
abbrev pub GivenReaches : Type 0
GivenReaches = (es : List Event) → MayAllCome start es → after_all (haves es) (given start es) ≡ (after_events start es).installed

-- after a `Sync` the installed table is a least table of the reported hops
abbrev pub SyncIsLeast : Type 0
SyncIsLeast = (es : List Event) (N : List Route) → MayAllCome start (es ++ Sync N ∷ []) →
    IsLeast (told None es) (after_events start (es ++ Sync N ∷ [])).installed

-- a later `Sync` has no operations if the installed table is a least one already
abbrev pub SyncStays : Type 0
SyncStays = (es : List Event) (N : List Route) → MayAllCome start (es ++ Sync N ∷ []) → (after_events start es).kept ≡ true →
    IsLeast (told None es) (after_events start es).installed → gives (after_events start es) (Sync N) ≡ []

-- a later `Sync` changes no hop at any moment
abbrev pub SyncIsUnseen : Type 0
SyncIsUnseen = (es : List Event) (N : List Route) → MayAllCome start (es ++ Sync N ∷ []) → (after_events start es).kept ≡ true →
    (x : Address) → IsAddress x → (i : ℕ) →
    hop_at (after_all (after_events start es).installed (take i (gives (after_events start es) (Sync N)))) x ≡ hop_at (after_events start es).installed x
