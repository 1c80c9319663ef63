-- A table as a finite map from blocks to hops, its matches, and the hops of addresses.
use Rattle.std.specs.Prelude.{◌≢◌, ℕ, ◌≤◌, Bool, not, nat_lt, if◌then◌else◌, List, [], ◌∷◌, ◌++◌, Option, Some, None, All, AllPairs, Contains, filter}
use Rattle.std.specs.List.{list_any}
use Rattle.ipnet_addr.specs.Addresses.{Address}
use Rattle.ipnet_blocks.specs.Blocks.{Block, IsBlock, HasAddress, IsInside, IsLarger, IsBefore, is_inside, is_before, same_block, host}
use Rattle.ipnet.specs.IpNets.{block, network_at}
use Rattle.ipnet.specs.declared.ip_net.IpNet.{IpNet}
use Rattle.route_choices.specs.declared.hop.Hop.{Hop}
use Rattle.route_choices.specs.Hops.{IsHop, number_of}

-- a block, a hop, and the preference of this hop among those of the block
pub record Route : Type 0 where
  pub block : Block
  pub hop : Hop
  pub pref : ℕ

-- a network, a hop and a preference as a route; host bits are ignored
abbrev pub route_of : IpNet → Hop → ℕ → Route
route_of n k p = record { block = block n; hop = k; pref = p }

-- a route as calls return it
abbrev pub item_of : Route → IpNet × Hop × ℕ
item_of r = (network_at r.block, r.hop, r.pref)

-- a table is the list of its routes, ascending, each block once
pub record IsTable (M : List Route) : Type 0 where
  pub blocks : All (λ r. IsBlock r.block) M
  pub hops : All (λ r. IsHop r.hop) M
  pub ascending : AllPairs (λ r s. IsBefore r.block s.block) M

-- the routes whose blocks contain the block
abbrev pub covering : List Route → Block → List Route
covering M n = filter (λ r. is_inside n r.block) M

-- the routes inside the block, its own included
abbrev pub routes_inside : List Route → Block → List Route
routes_inside M n = filter (λ r. is_inside r.block n) M

-- the longer of a route and another, if there is another
abbrev pub longer : Route → Option Route → Route
longer r None = r
longer r (Some s) = if nat_lt r.block.len s.block.len then s else r

-- the longest of these routes
abbrev pub longest : List Route → Option Route
longest [] = None
longest (r ∷ rs) = Some (longer r (longest rs))

-- the longest match: the longest route whose block contains the block
abbrev pub match_of : List Route → Block → Option Route
match_of M n = longest (covering M n)

-- the number of the hop of a match, or none if there is no match or its hop is `drop`
abbrev pub match_number : Option Route → Option ℕ
match_number None = None
match_number (Some r) = number_of r.hop

-- the hop of an address: the number at the longest match of its host block
abbrev pub hop_at : List Route → Address → Option ℕ
hop_at M x = match_number (match_of M (host x))

-- the addresses whose hops differ
abbrev pub Changed : List Route → List Route → Address → Type 0
Changed M N x = hop_at M x ≢ hop_at N x

-- the addresses of n that no route of M strictly inside n contains
pub record Governed (M : List Route) (n : Block) (x : Address) : Type 0 where
  pub inside : HasAddress n x
  pub free : (r : Route) → Contains M r → IsLarger n r.block → HasAddress r.block x → ⊥

-- a route has this block
abbrev pub is_stored : List Route → Block → Bool
is_stored M n = list_any (λ r. same_block r.block n) M

-- the table with the route added, in place of any other of its block
abbrev pub with_route : List Route → Route → List Route
with_route M r = filter (λ s. is_before s.block r.block) M ++ r ∷ filter (λ s. is_before r.block s.block) M

-- the table without the block
abbrev pub without_block : List Route → Block → List Route
without_block M n = filter (λ s. not (same_block s.block n)) M

-- the result of `match_of`, as a relation
pub record IsMatch (M : List Route) (n : Block) (r : Route) : Type 0 where
  pub member : Contains M r
  pub holds : IsInside n r.block
  pub longest : (s : Route) → Contains M s → IsInside n s.block → s.block.len ≤ r.block.len
