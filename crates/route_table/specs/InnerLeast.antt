-- Least tables of one family, as lists of bit strings.
use Rattle.std.specs.Prelude.{◌≡◌, ℕ, Bool, List, All, Option, filter, length, map}
use Rattle.ipnet_addr.specs.Addresses.{Family, Address, width, same_family}
use Rattle.ipnet_blocks.specs.Blocks.{bit_string}
use Rattle.ipnet_blocks.specs.Networks.{Network, IsTruncated}
use Rattle.ipnet.specs.IpNets.{family, parts, net_in}
use Rattle.ipnet.specs.declared.ip_net.IpNet.{IpNet}
use Rattle.least_table.specs.InnerPlanners.{HasPlanned}
use Rattle.least_table.specs.Pieces.{AreDisjoint, piece_hop}
use Rattle.least_table.specs.declared.planner.Planner.{Planner}
use Rattle.least_table.specs.Tables as bits
use Rattle.trie_core.specs.Bits.{number_from}
use Rattle.route_choices.specs.Hops.{hop_from, number_of}
use Rattle.route_choices.specs.declared.hop.Hop.{Hop}
use Rattle.route_laws.specs.Flats.{Piece}
use Rattle.route_laws.specs.LeastTables.{routes_for}
use Rattle.route_laws.specs.Tables.{Route, IsTable}

-- a route as the bits of its block, and its hop
abbrev pub entry_of : Route → List Bool × Option ℕ
entry_of r = (bit_string r.block, number_of r.hop)

abbrev pub entries_of : List Route → List (List Bool × Option ℕ)
entries_of N = map entry_of N

-- the address of a family with these bits, and its hop
abbrev pub address_at : Family → List Bool → Address
address_at f s = record { family = f; number = number_from (width f) s }

abbrev pub hops_of : Family → (Address → Option ℕ) → List Bool → Option ℕ
hops_of f h s = h (address_at f s)

-- the pieces of one family, as bit strings
abbrev pub pieces_of : Family → List Piece → List (List Bool × ℕ)
pieces_of f ps = map (λ p. (bit_string p.block, p.number)) (filter (λ p. same_family p.block.family f) ps)

-- the pieces that were added to a plan of one family
abbrev pub IsPlanned : Family → Planner Network → List (List Bool × ℕ) → Type 0
IsPlanned f = HasPlanned (width f)

-- disjoint pieces that have the hops of a family's addresses
pub record ArePieces (f : Family) (h : Address → Option ℕ) (ps : List (List Bool × ℕ)) : Type 0 where
  pub disjoint : AreDisjoint ps
  pub same : (s : List Bool) → length s ≡ width f → piece_hop ps s ≡ hops_of f h s

-- networks of one family as networks of either family, each with its hop
abbrev pub least_items : Family → {P : Type 0} → (P → Network) → List (P × Option ℕ) → List (IpNet × Hop)
least_items f parts_in table = map (λ r. (net_in f (parts_in r.0), hop_from r.1)) table

-- routes of one family that are a least table with the hops of these pieces
pub record AreLeast (f : Family) (ps : List (List Bool × ℕ)) (rs : List (IpNet × Hop)) : Type 0 where
  pub table : IsTable (routes_for rs)
  pub in_family : All (λ r. family r.0 ≡ f) rs
  pub truncated : All (λ r. IsTruncated (family r.0) (parts r.0)) rs
  pub least : bits.IsLeastTable (width f) (piece_hop ps) (entries_of (routes_for rs))
