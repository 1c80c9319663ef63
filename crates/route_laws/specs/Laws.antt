-- The theorems about tables, as statements.
use Rattle.std.specs.Prelude.{◌≡◌, ◌≢◌, ◌⊎◌, false, [], ◌∷◌, ◌++◌, ℕ, ◌^◌, ◌≤◌, ◌<◌, if◌then◌else◌, ◌↔◌, ◌==◌, ◌+◌, List, Option, Some, None, MatchOption, AllPairs, Contains, length, map, sum_by, filter, flat_map}
use Rattle.ipnet_addr.specs.Addresses.{Family, Address, IsAddress, same_family}
use Rattle.ipnet_blocks.specs.Blocks.{Block, IsBlock, HasAddress, IsAscending, has_address, is_inside, host}
use Rattle.ipnet_blocks.specs.Maximal.{IsMaximal, IsUnion, IsShortest, maximal_of}
use Rattle.route_choices.specs.Hops.{IsHop, number_of}
use Rattle.route_choices.specs.declared.hop.Hop.{Hop}
use Rattle.route_choices.specs.declared.hop.Hop.TheVariants.{Number}
use Rattle.route_choices.specs.Choices.{Choice, AreChoices, best, default_preference, holds_hop, is_one_too_many, choices_with, choices_without}
use Rattle.route_laws.specs.Tables.{Route, IsTable, IsMatch, covering, is_stored, longer, match_of, match_number, hop_at, Governed, Changed, with_route, without_block}
use Rattle.route_laws.specs.Flats.{Piece, IsFlat, IsAdmissible, blocks_of, flat_of}
use Rattle.route_laws.specs.Changes.{changed, route_for, with_each, with_pieces}
use Rattle.route_laws.specs.Fewest.{AreHops}
use Rattle.route_laws.specs.LeastTables.{HasHops}
use Rattle.route_laws.specs.Bounds.{excess, lengths_in, pieces_in}
use Rattle.route_laws.specs.Onwards.{routes_from}
use Rattle.route_laws.specs.Overwritten.{overwritten}
use Rattle.route_laws.specs.Pages.{first_page, pages, pages_up_to}
use Rattle.route_laws.specs.Networks.{Stored, IsStoredTable, best_route, choices_at, overwritten_by, routes_of, with_choice, with_choices, without_choice, without_each, without_stored}

-- `match_of` finds the match
abbrev pub MatchIsLongest : Type 0
MatchIsLongest = (M : List Route) (n : Block) → IsTable M → IsBlock n → (r : Route) → (match_of M n ≡ Some r) ↔ IsMatch M n r

-- of two routes whose blocks contain n the shorter comes first
abbrev pub CoverAscends : Type 0
CoverAscends = (M : List Route) (n : Block) → IsTable M → IsBlock n → AllPairs (λ r s. r.block.len < s.block.len) (covering M n)

-- an address that n governs has the same match as n
abbrev pub GovernedMatch : Type 0
GovernedMatch = (M : List Route) (n : Block) (x : Address) → IsTable M → IsBlock n → IsAddress x → Governed M n x → match_of M (host x) ≡ match_of M n

-- no admissible list is shorter than the flat list
abbrev pub FlatIsShortest : Type 0
FlatIsShortest = (h : Address → Option ℕ) (ps : List Piece) (bs : List Block) → IsFlat h ps → IsAdmissible h bs → length ps ≤ length bs

-- an ascending admissible list that is as short is the flat list
abbrev pub ShortestIsFlat : Type 0
ShortestIsFlat = (h : Address → Option ℕ) (ps : List Piece) (bs : List Block) → IsFlat h ps → IsAdmissible h bs → IsAscending bs → length bs ≤ length ps → blocks_of ps ≡ bs

-- the flat list is admissible
abbrev pub FlatIsAdmissible : Type 0
FlatIsAdmissible = (h : Address → Option ℕ) (ps : List Piece) → IsFlat h ps → IsAdmissible h (blocks_of ps)

-- two flat lists are the same exactly if each address has the same hop, or none, in both
abbrev pub SameFlat : Type 0
SameFlat = (g h : Address → Option ℕ) (ps qs : List Piece) → IsFlat g ps → IsFlat h qs → (ps ≡ qs) ↔ ((x : Address) → IsAddress x → g x ≡ h x)

-- the search of the bit tree finds the flat list
abbrev pub SearchIsFlat : Type 0
SearchIsFlat = (h : Address → Option ℕ) → IsFlat h (flat_of h)

-- the blocks of one number in the flat list are the maximal blocks of the addresses with that hop
abbrev pub OwnIsMaximal : Type 0
OwnIsMaximal = (h : Address → Option ℕ) (ps : List Piece) (k : ℕ) → IsFlat h ps → IsMaximal (λ x. h x ≡ Some k) (blocks_of (filter (λ p. p.number == k) ps))

-- in each family, a flat list has at most one block more than the lengths of the stored networks together
abbrev pub FlatIsBounded : Type 0
FlatIsBounded = (M : List Route) (ps : List Piece) → IsTable M → IsFlat (hop_at M) ps → (f : Family) → length (pieces_in f ps) ≤ 1 + lengths_in f M

-- an empty table given an accepted `add` of every piece has the same hops and the same flat list
abbrev pub FlatRebuilds : Type 0
FlatRebuilds = (M : List Route) (ps : List Piece) → IsTable M → IsFlat (hop_at M) ps →
    IsTable (with_pieces [] ps) × ((x : Address) → IsAddress x → hop_at (with_pieces [] ps) x ≡ hop_at M x) × IsFlat (hop_at (with_pieces [] ps)) ps

-- the pieces as routes are a table with these hops
abbrev pub FlatIsTable : Type 0
FlatIsTable = (h : Address → Option ℕ) (ps : List Piece) → AreHops h → IsFlat h ps → HasHops h (map route_for ps)

-- so has an empty table of networks after an `add` of each piece; its best routes are the pieces
abbrev pub FlatReadded : Type 0
FlatReadded = (h : Address → Option ℕ) (ps : List Piece) → AreHops h → IsFlat h ps →
    IsStoredTable (with_each [] ps) × (routes_of (with_each [] ps) ≡ map route_for ps) × HasHops h (routes_of (with_each [] ps)) × IsFlat (hop_at (routes_of (with_each [] ps))) ps

-- each of these networks is new when it is added, so no `add` has one hop too many
abbrev pub ReaddedAreNew : Type 0
ReaddedAreNew = (h : Address → Option ℕ) (front back : List Piece) (p : Piece) → IsFlat h (front ++ p ∷ back) → choices_at (with_each [] front) p.block ≡ []

-- the bound on the number of blocks that n governs
abbrev pub GovernedBound : Type 0
GovernedBound = (M : List Route) (n : Block) (bs : List Block) → IsTable M → IsBlock n → IsMaximal (Governed M n) bs → length bs ≤ 1 + sum_by (λ r. excess n r.block) M

-- a table with one route more, or one block fewer, is a table
abbrev pub StaysTable : Type 0
StaysTable = (M : List Route) → IsTable M → ((r : Route) → IsBlock r.block → IsHop r.hop → IsTable (with_route M r)) × ((n : Block) → IsTable (without_block M n))

-- the search finds the maximal blocks of the changed addresses
abbrev pub ChangedIsMaximal : Type 0
ChangedIsMaximal = (M N : List Route) → IsMaximal (Changed M N) (maximal_of (changed M N))

-- no list of blocks of these addresses is shorter
abbrev pub ChangedIsShortest : Type 0
ChangedIsShortest = (M N : List Route) → IsShortest (Changed M N) (maximal_of (changed M N))

-- an ascending list that is as short is this one
abbrev pub ShortestIsChanged : Type 0
ShortestIsChanged = (M N : List Route) (bs : List Block) → IsUnion (Changed M N) bs → IsAscending bs → length bs ≤ length (maximal_of (changed M N)) → maximal_of (changed M N) ≡ bs

-- the search finds the maximal blocks of the changed addresses, and no other list
abbrev pub MaximalIsChanged : Type 0
MaximalIsChanged = (M N : List Route) (bs : List Block) → IsMaximal (Changed M N) bs → maximal_of (changed M N) ≡ bs

-- the addresses that a new route changes have its hop then
abbrev pub AddedHaveOneHop : Type 0
AddedHaveOneHop = (M : List Route) (r : Route) → IsTable M → IsBlock r.block → IsHop r.hop → (b : Block) → Contains (maximal_of (changed M (with_route M r))) b →
    (x : Address) → HasAddress b x → hop_at (with_route M r) x ≡ number_of r.hop

-- the addresses that the removal of a route changes have the hop of the longest match that is left
abbrev pub LeftHaveOneHop : Type 0
LeftHaveOneHop = (M : List Route) (n : Block) → IsTable M → IsBlock n → (b : Block) → Contains (maximal_of (changed M (without_block M n))) b →
    (x : Address) → HasAddress b x → hop_at (without_block M n) x ≡ match_number (match_of (without_block M n) n)

-- an accepted `add` changes the hop of an address exactly if the block governs it and the old and the new hop differ
abbrev pub ChangedByAdd : Type 0
ChangedByAdd = (M : List Route) (r : Route) → IsTable M → IsBlock r.block → IsHop r.hop → (x : Address) → IsAddress x →
    Changed M (with_route M r) x ↔ (Governed M r.block x × (match_number (match_of M r.block) ≢ number_of r.hop))

-- the same for a `del`
abbrev pub ChangedByDel : Type 0
ChangedByDel = (M : List Route) (n : Block) → IsTable M → IsBlock n → (x : Address) → IsAddress x →
    Changed M (without_block M n) x ↔ (Governed M n x × (match_number (match_of M n) ≢ match_number (match_of (without_block M n) n)))

-- the maximal blocks of a change are those of the addresses that the block governs, or none
abbrev pub BlocksOfAdd : Type 0
BlocksOfAdd = (M : List Route) (r : Route) (bs : List Block) → IsTable M → IsBlock r.block → IsHop r.hop → IsMaximal (Governed M r.block) bs →
    ((match_number (match_of M r.block) ≢ number_of r.hop) → IsMaximal (Changed M (with_route M r)) bs)
    × (match_number (match_of M r.block) ≡ number_of r.hop → IsMaximal (Changed M (with_route M r)) [])

-- the same for a `del`
abbrev pub BlocksOfDel : Type 0
BlocksOfDel = (M : List Route) (n : Block) (bs : List Block) → IsTable M → IsBlock n → IsMaximal (Governed M n) bs →
    ((match_number (match_of M n) ≢ match_number (match_of (without_block M n) n)) → IsMaximal (Changed M (without_block M n)) bs)
    × (match_number (match_of M n) ≡ match_number (match_of (without_block M n) n) → IsMaximal (Changed M (without_block M n)) [])

-- an `add` doesn't change which addresses its block governs
abbrev pub GovernedAfter : Type 0
GovernedAfter = (M : List Route) (r : Route) → IsTable M → IsBlock r.block → (x : Address) → Governed (with_route M r) r.block x ↔ Governed M r.block x

-- a `del` right after an `add` of a block that was not stored restores the table
abbrev pub AddThenDel : Type 0
AddThenDel = (M : List Route) (r : Route) → IsTable M → IsBlock r.block → IsHop r.hop → is_stored M r.block ≡ false → without_block (with_route M r) r.block ≡ M

-- the routes after an `add`: the new route, and the old routes of other blocks
abbrev pub MembersAfterAdd : Type 0
MembersAfterAdd = (M : List Route) (r s : Route) → IsTable M → IsBlock r.block → Contains (with_route M r) s ↔ ((s ≡ r) ⊎ (Contains M s × (s.block ≢ r.block)))

-- the routes after a `del`: those of other blocks
abbrev pub MembersAfterDel : Type 0
MembersAfterDel = (M : List Route) (n : Block) (s : Route) → IsTable M → Contains (without_block M n) s ↔ (Contains M s × (s.block ≢ n))

-- the match of a block after an `add`: the new route, if it contains the block and the old match is no longer; else the old match
abbrev pub MatchAfterAdd : Type 0
MatchAfterAdd = (M : List Route) (r : Route) (n : Block) → IsTable M → IsTable (with_route M r) → IsBlock n →
    match_of (with_route M r) n ≡ (if is_inside n r.block then Some (longer r (match_of M n)) else match_of M n)

-- the match of a block after a `del` of another block than that of its match: the old match
abbrev pub MatchAfterDel : Type 0
MatchAfterDel = (M : List Route) (n b : Block) → IsTable M → IsBlock n → ((r : Route) → match_of M n ≡ Some r → r.block ≢ b) →
    match_of (without_block M b) n ≡ match_of M n

-- a change in one family changes neither the routes of the other nor the hops of its addresses
abbrev pub OtherFamilyAfterAdd : Type 0
OtherFamilyAfterAdd = (M : List Route) (r : Route) → IsTable M → IsBlock r.block → IsHop r.hop →
    ((f : Family) → (r.block.family ≡ f → ⊥) → filter (λ s. same_family s.block.family f) (with_route M r) ≡ filter (λ s. same_family s.block.family f) M)
    × ((x : Address) → IsAddress x → (x.family ≡ r.block.family → ⊥) → hop_at (with_route M r) x ≡ hop_at M x)

-- the same for a `del`
abbrev pub OtherFamilyAfterDel : Type 0
OtherFamilyAfterDel = (M : List Route) (n : Block) → IsTable M → IsBlock n →
    ((f : Family) → (n.family ≡ f → ⊥) → filter (λ s. same_family s.block.family f) (without_block M n) ≡ filter (λ s. same_family s.block.family f) M)
    × ((x : Address) → IsAddress x → (x.family ≡ n.family → ⊥) → hop_at (without_block M n) x ≡ hop_at M x)

-- the flat list of the empty table is empty
abbrev pub EmptyIsFlat : Type 0
EmptyIsFlat = flat_of (hop_at []) ≡ []

-- the table of one route
abbrev pub one_route : Block → ℕ → List Route
one_route b k = record { block = b; hop = Number k; pref = default_preference } ∷ []

-- an accepted `add` of it to the empty table changes exactly the addresses of its block
abbrev pub OneRouteIsChanged : Type 0
OneRouteIsChanged = (b : Block) (k : ℕ) → IsBlock b → k < 2 ^ 32 → maximal_of (changed [] (one_route b k)) ≡ b ∷ []

-- they have its hop
abbrev pub OneRouteHops : Type 0
OneRouteHops = (b : Block) (k : ℕ) (x : Address) → IsBlock b → k < 2 ^ 32 → IsAddress x → hop_at (one_route b k) x ≡ (if has_address b x then Some k else None)

-- the flat list is this block
abbrev pub OneRouteIsFlat : Type 0
OneRouteIsFlat = (b : Block) (k : ℕ) → IsBlock b → k < 2 ^ 32 → flat_of (hop_at (one_route b k)) ≡ record { block = b; number = k } ∷ []

-- an `overwrite` makes a table
abbrev pub OverwriteIsTable : Type 0
OverwriteIsTable = (M : List Route) (r : Route) → IsTable M → IsBlock r.block → IsHop r.hop → IsTable (overwritten M r)

-- all addresses of the block have the new hop then, and all others keep theirs
abbrev pub HopsOfOverwrite : Type 0
HopsOfOverwrite = (M : List Route) (r : Route) → IsTable M → IsBlock r.block → IsHop r.hop → (x : Address) → IsAddress x →
    hop_at (overwritten M r) x ≡ (if has_address r.block x then number_of r.hop else hop_at M x)

-- the pages together are the routes of the family from n on, each once
abbrev pub PagesAreRoutes : Type 0
PagesAreRoutes = (M : List Route) (n : Block) (limit : ℕ) → IsTable M → 0 < limit → flat_map (λ page. page) (pages M n limit) ≡ routes_from M n

-- the limit on the number of pages cuts none off
abbrev pub PagesEnd : Type 0
PagesEnd = (M : List Route) (n : Block) (limit more : ℕ) → IsTable M → 0 < limit → pages_up_to (length M + more) M limit (first_page M n limit) ≡ pages M n limit

-- ---- tables of networks with choices

-- the best routes are a table
abbrev pub RoutesAreTable : Type 0
RoutesAreTable = (T : List Stored) → IsStoredTable T → IsTable (routes_of T)

-- an `add` and a `del` make a table
abbrev pub StaysStored : Type 0
StaysStored = (T : List Stored) (b : Block) → IsStoredTable T → IsBlock b →
    ((c : Choice) → IsHop c.hop → c.pref < 2 ^ 16 → is_one_too_many (choices_at T b) c.hop ≡ false → IsStoredTable (with_choice T b c))
    × ((h : Hop) → IsStoredTable (without_choice T b h))

-- the best routes after an `add`: the network has the best of its new choices
abbrev pub RoutesOfAdd : Type 0
RoutesOfAdd = (T : List Stored) (b : Block) (c : Choice) →
    routes_of (with_choice T b c) ≡ with_route (routes_of T) (best_route (record { block = b; choices = choices_with (choices_at T b) c }))

-- the best routes after a `del`: the network has the best of the choices that are left, or no route if none is left
abbrev pub RoutesOfDel : Type 0
RoutesOfDel = (T : List Stored) (b : Block) (h : Hop) → MatchOption (best (choices_without (choices_at T b) h))
    (routes_of (without_choice T b h) ≡ without_block (routes_of T) b)
    (λ d. routes_of (without_choice T b h) ≡ with_route (routes_of T) (record { block = b; hop = d.hop; pref = d.pref }))

-- removing another choice than the best doesn't change the best routes
abbrev pub OthersAreFree : Type 0
OthersAreFree = (T : List Stored) (b : Block) (h : Hop) (c : Choice) → IsStoredTable T → best (choices_at T b) ≡ Some c → c.hop ≢ h → routes_of (without_choice T b h) ≡ routes_of T

-- removing a hop that isn't stored changes nothing
abbrev pub NoneIsFree : Type 0
NoneIsFree = (T : List Stored) (b : Block) (h : Hop) → IsStoredTable T → IsBlock b → holds_hop (choices_at T b) h ≡ false → without_choice T b h ≡ T

-- a change concerns one block
abbrev pub ChoicesAfter : Type 0
ChoicesAfter = (T : List Stored) (b : Block) (cs : List Choice) → IsStoredTable T → IsBlock b → AreChoices cs →
    (choices_at (with_choices T b cs) b ≡ cs) × ((d : Block) → (d ≡ b → ⊥) → choices_at (with_choices T b cs) d ≡ choices_at T d)

-- two tables with equal choices at each block are equal
abbrev pub SameTables : Type 0
SameTables = (T U : List Stored) → IsStoredTable T → IsStoredTable U → ((b : Block) → choices_at T b ≡ choices_at U b) → T ≡ U

-- a `del` right after an `add` of a new network, with the same hop, restores the table
abbrev pub NetworkRestored : Type 0
NetworkRestored = (T : List Stored) (b : Block) (c : Choice) → IsStoredTable T → IsBlock b → IsHop c.hop → c.pref < 2 ^ 16 → choices_at T b ≡ [] → without_choice (with_choice T b c) b c.hop ≡ T

-- a `del` of each of the choices of a block removes the block
abbrev pub AllThenDel : Type 0
AllThenDel = (T : List Stored) (b : Block) → IsStoredTable T → IsBlock b → without_each T b (choices_at T b) ≡ without_stored T b

-- replacing the networks inside a block by one network replaces the best routes inside it by one route
abbrev pub RoutesOfOverwrite : Type 0
RoutesOfOverwrite = (T : List Stored) (b : Block) (c : Choice) → routes_of (overwritten_by T b c) ≡ overwritten (routes_of T) (record { block = b; hop = c.hop; pref = c.pref })

-- ---- a change of the choices of a block: the same for `add` and `del`

-- the hop of an address changes exactly if the block governs it and the numbers at the block's match before and after differ
abbrev pub ChangedByChoices : Type 0
ChangedByChoices = (T : List Stored) (b : Block) (cs : List Choice) → IsStoredTable T → IsBlock b → AreChoices cs → (x : Address) → IsAddress x →
    Changed (routes_of T) (routes_of (with_choices T b cs)) x ↔ (Governed (routes_of T) b x × (match_number (match_of (routes_of T) b) ≢ match_number (match_of (routes_of (with_choices T b cs)) b)))

-- so the maximal blocks of the change are those of the governed addresses, or none
abbrev pub BlocksOfChoices : Type 0
BlocksOfChoices = (T : List Stored) (b : Block) (cs : List Choice) (bs : List Block) → IsStoredTable T → IsBlock b → AreChoices cs → IsMaximal (Governed (routes_of T) b) bs →
    ((match_number (match_of (routes_of T) b) ≢ match_number (match_of (routes_of (with_choices T b cs)) b)) → IsMaximal (Changed (routes_of T) (routes_of (with_choices T b cs))) bs)
    × (match_number (match_of (routes_of T) b) ≡ match_number (match_of (routes_of (with_choices T b cs)) b) → IsMaximal (Changed (routes_of T) (routes_of (with_choices T b cs))) [])

-- all addresses of these blocks have one hop then
abbrev pub ChoicesHaveOneHop : Type 0
ChoicesHaveOneHop = (T : List Stored) (b : Block) (cs : List Choice) → IsStoredTable T → IsBlock b → AreChoices cs → (d : Block) → Contains (maximal_of (changed (routes_of T) (routes_of (with_choices T b cs)))) d →
    (x : Address) → HasAddress d x → hop_at (routes_of (with_choices T b cs)) x ≡ match_number (match_of (routes_of (with_choices T b cs)) b)

-- if a block has choices, its match is the best of them
abbrev pub MatchOfChoices : Type 0
MatchOfChoices = (T : List Stored) (b : Block) (c : Choice) → IsStoredTable T → IsBlock b → best (choices_at T b) ≡ Some c → match_of (routes_of T) b ≡ Some (record { block = b; hop = c.hop; pref = c.pref })
