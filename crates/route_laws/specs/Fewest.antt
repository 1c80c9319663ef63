-- The fewest routes inside a block.
use Rattle.std.specs.Prelude.{◌≡◌, ◌≢◌, ◌^◌, ◌<◌, ◌≤◌, ◌+◌, ◌⊎◌, ◌↔◌, ℕ, List, Option, Some, None, All, IfSome, length}
use Rattle.ipnet_addr.specs.Addresses.{Family, Ipv4, Ipv6, Address, IsAddress, width}
use Rattle.ipnet_blocks.specs.Blocks.{Block, IsBlock, HasAddress, IsInside, family_block, first_of, host, left, right}
use Rattle.ipnet_blocks.specs.Halves.{IsLesser}
use Rattle.route_choices.specs.Hops.{number_of}
use Rattle.route_laws.specs.LeastTables.{HasHops, IsLeast}
use Rattle.route_laws.specs.Tables.{Route, IsTable, hop_at, match_of, routes_inside}

-- the hop of a match, or s if there is none
abbrev pub inherited : Option ℕ → Option Route → Option ℕ
inherited s None = s
inherited s (Some r) = number_of r.hop

-- the hop of an address if the block inherits s, a number or none, from the routes outside
abbrev pub hop_under : Option ℕ → List Route → Address → Option ℕ
hop_under s N x = inherited s (match_of N (host x))

-- N is a table inside b in which each address of b has the hop that h gives, if b inherits s
pub record GivesInside (h : Address → Option ℕ) (b : Block) (s : Option ℕ) (N : List Route) : Type 0 where
  pub table : IsTable N
  pub inside : All (λ r. IsInside r.block b) N
  pub same : (x : Address) → HasAddress b x → hop_under s N x ≡ h x

-- n is the least number of routes of such a table
pub record IsFewest (h : Address → Option ℕ) (b : Block) (s : Option ℕ) (n : ℕ) : Type 0 where
  pub reached : (N : List Route) × GivesInside h b s N × (length N ≡ n)
  pub least : (L : List Route) → GivesInside h b s L → n ≤ length L

-- the hops are valid numbers of hops
abbrev pub AreHops : (Address → Option ℕ) → Type 0
AreHops h = (x : Address) → IsAddress x → IfSome (h x) (λ k. k < 2 ^ 32)

-- the hops of a table are
abbrev pub HopsOfTable : Type 0
HopsOfTable = (M : List Route) → IsTable M → AreHops (hop_at M)

-- the hops of any hop function that some table gives are
abbrev pub GivenHops : Type 0
GivenHops = (h : Address → Option ℕ) (N : List Route) → HasHops h N → AreHops h

-- the block of one address needs no route if it inherits the hop of the address, and else one
abbrev pub FewestOfHost : Type 0
FewestOfHost = (h : Address → Option ℕ) → AreHops h → (b : Block) → IsBlock b → b.len ≡ width b.family → (s : Option ℕ) (n : ℕ) →
    IsFewest h b s n ↔ (((h (first_of b) ≡ s) × (n ≡ 0)) ⊎ ((h (first_of b) ≢ s) × (n ≡ 1)))

-- Any other block needs the lesser of two numbers: the routes that its halves need under s, and one more than the routes that they need
-- under one hop, the same for both, or under none.
abbrev pub FewestByHalves : Type 0
FewestByHalves = (h : Address → Option ℕ) → AreHops h → (b : Block) → IsBlock b → b.len < width b.family → (f g : Option ℕ → ℕ) →
    ((k : Option ℕ) → IsFewest h (left b) k (f k)) → ((k : Option ℕ) → IsFewest h (right b) k (g k)) →
    (s : Option ℕ) (n : ℕ) → IsFewest h b s n ↔ IsLesser f g s n

-- a least table has in each family the fewest routes that all addresses need which inherit nothing, and no others
abbrev pub LeastIsFewest : Type 0
LeastIsFewest = (h : Address → Option ℕ) (N : List Route) → IsLeast h N →
    ((f : Family) → IsFewest h (family_block f) None (length (routes_inside N (family_block f))))
    × (length N ≡ length (routes_inside N (family_block Ipv4)) + length (routes_inside N (family_block Ipv6)))
