-- Lists of routes of a table, in the layout of C.
use Rattle.std.specs.Prelude.{◌≡◌, ◌==◌, ℕ, List, Option, None, Some, filter, map, take}
use Rattle.ipnet_addr.specs.Addresses.{Address}
use Rattle.ipnet.specs.IpNets.{block, network_at}
use Rattle.ipnet.specs.declared.ip_net.IpNet.{IpNet}
use Rattle.ipnet_blocks.specs.Blocks.{Block}
use Rattle.ipnet_blocks.specs.Maximal.{IsMaximal}
use Rattle.route_choices.specs.Choices.{default_preference}
use Rattle.route_choices.specs.declared.hop.Hop.{Hop}
use Rattle.route_choices.specs.declared.hop.Hop.TheVariants.{Number, Drop}
use Rattle.route_laws.specs.Flats.{blocks_of, flat_of}
use Rattle.route_laws.specs.LeastTables.{IsLeast, routes_for}
use Rattle.route_laws.specs.Networks.{Stored, choices_at, routes_of}
use Rattle.route_laws.specs.Onwards.{routes_after, routes_from}
use Rattle.route_laws.specs.Tables.{Governed, Route as TableRoute, covering, hop_at, match_of, routes_inside}
use Rattle.routes_c.specs.Shown.{shown}
use Rattle.routes_c.specs.declared.list_query.ListQuery.{ListQuery}
use Rattle.routes_c.specs.declared.list_query.ListQuery.TheVariants as ask
use Rattle.routes_c.specs.declared.shown.Route.{Route}

-- a route in the layout of C
abbrev pub route_shown : TableRoute → Route
route_shown r = shown (network_at r.block) r.hop r.pref

-- these are routes that have the property, in order
abbrev pub Shown : (List TableRoute → Type 0) → List Route → Type 0
Shown P items = (rs : List TableRoute) × P rs × (items ≡ map route_shown rs)

-- all routes of a network, best first
abbrev pub all_routes : List Stored → Block → List TableRoute
all_routes T b = map (λ c. record { block = b; hop = c.hop; pref = c.pref }) (choices_at T b)

-- a route with the default preference
abbrev pub default_route : Hop → Block → TableRoute
default_route k b = record { block = b; hop = k; pref = default_preference }

-- the blocks of the flat list with this number
abbrev pub own_routes : List TableRoute → ℕ → List TableRoute
own_routes M k = map (default_route (Number k)) (blocks_of (filter (λ p. p.number == k) (flat_of (hop_at M))))

-- the hop of a match, or `drop` if there is none
abbrev pub hop_or_drop : Option TableRoute → Hop
hop_or_drop None = Drop
hop_or_drop (Some r) = r.hop

-- the maximal blocks of the addresses that the network governs, each with the hop of its longest match
abbrev pub AreGoverned : List TableRoute → Block → List TableRoute → Type 0
AreGoverned M n rs = (bs : List Block) × IsMaximal (Governed M n) bs × (rs ≡ map (default_route (hop_or_drop (match_of M n))) bs)

-- the routes of a least table with these hops, each with the default preference
abbrev pub AreLeast : (Address → Option ℕ) → List TableRoute → Type 0
AreLeast h rs = (items : List (IpNet × Hop)) × IsLeast h (routes_for items) × (rs ≡ routes_for items)

-- the routes that the call asks for
abbrev pub AreAsked : ListQuery → List Stored → List TableRoute → Type 0
AreAsked (ask.Inside n) T rs = rs ≡ routes_inside (routes_of T) (block n)
AreAsked (ask.Cover n) T rs = rs ≡ covering (routes_of T) (block n)
AreAsked (ask.From n limit) T rs = rs ≡ take limit (routes_from (routes_of T) (block n))
AreAsked (ask.After n limit) T rs = rs ≡ take limit (routes_after (routes_of T) (block n))
AreAsked (ask.All n) T rs = rs ≡ all_routes T (block n)
AreAsked (ask.Governed n) T rs = AreGoverned (routes_of T) (block n) rs
AreAsked (ask.Own k) T rs = rs ≡ own_routes (routes_of T) k
AreAsked ask.Least T rs = AreLeast (hop_at (routes_of T)) rs
