-- Changes as a table, and the operations of edits of both families.
use Rattle.std.specs.Prelude.{◌≡◌, ◌≤◌, ℕ, Bool, List, [], ◌∷◌, ◌++◌, All, MatchOption, Option, filter, length, map, reverse}
use Rattle.ipnet_addr.specs.Addresses.{Family, Ipv4, Ipv6, width}
use Rattle.ipnet_blocks.specs.Blocks.{Block, bit_string, family_block, is_inside}
use Rattle.ipnet_blocks.specs.Networks.{IsTruncated}
use Rattle.ipnet.specs.IpNets.{family, parts}
use Rattle.nearest_table.specs.Changed.{MakeNearest}
use Rattle.nearest_table.specs.Edits.{installed_in, removed_in}
use Rattle.route_choices.specs.Choices.{default_preference}
use Rattle.route_choices.specs.Hops.{IsHop, hop_from}
use Rattle.route_laws.specs.Painted.{AreChanges}
use Rattle.route_laws.specs.Operations.{Operation, Remove, installs}
use Rattle.route_laws.specs.Overwritten.{overwritten}
use Rattle.route_laws.specs.Tables.{IsTable, Route}
use Rattle.route_table.specs.InnerLeast.{entries_of}
use Rattle.route_table.specs.InnerFamilyTables.{block_at}
use Rattle.route_table.specs.Operations.{network_of, operation_of}
use Rattle.route_table.specs.declared.between.Operation as Given

-- the bits of the first route's block were returned, or no route was left
abbrev pub GivesPath : Family → List Route → Option (List Bool) → List Route → Type 0
GivesPath f rs item left = MatchOption item ((rs ≡ []) × (left ≡ [])) (λ s. (r : Route) × (rs ≡ r ∷ left) × (bit_string r.block ≡ s) × (length s ≤ width f))

-- the blocks of edits have at most w bits
abbrev pub AreWithin : ℕ → List (List Bool × Option (Option ℕ)) → Type 0
AreWithin w es = All (λ e. length e.0 ≤ w) es

-- the table after several changes, where each replaces the routes inside its block
abbrev pub overwritten_all : List Route → List Route → List Route
overwritten_all C [] = C
overwritten_all C (r ∷ rs) = overwritten_all (overwritten C r) rs

-- the route of a family with these bits and this hop
abbrev pub installed_route : Family → List Bool × Option ℕ → Route
installed_route f e = record { block = block_at f e.0; hop = hop_from e.1; pref = default_preference }

-- the routes that edits of a family install
abbrev pub routes_in : Family → List (List Bool × Option (Option ℕ)) → List Route
routes_in f es = map (installed_route f) (installed_in es)

-- the blocks whose routes they remove
abbrev pub blocks_in : Family → List (List Bool × Option (Option ℕ)) → List Block
blocks_in f es = map (block_at f) (removed_in es)

-- the operations of the edits of both families: all installs from the last to the first, then all removes
abbrev pub operations_of : List (List Bool × Option (Option ℕ)) → List (List Bool × Option (Option ℕ)) → List Operation
operations_of es4 es6 = installs (reverse (routes_in Ipv4 es4 ++ routes_in Ipv6 es6)) ++ map Remove (blocks_in Ipv4 es4 ++ blocks_in Ipv6 es6)

-- the routes of a family
abbrev pub in_part : Family → List Route → List Route
in_part f M = filter (λ r. is_inside r.block (family_block f)) M

-- the edits of a family are those between its installed routes and a nearest table with the hops after its changes
pub record AreEditsOf (f : Family) (C M : List Route) (es : List (List Bool × Option (Option ℕ))) : Type 0 where
  pub made : MakeNearest (width f) (entries_of (in_part f C)) (entries_of (in_part f M)) es
  pub within : AreWithin (width f) es

pub record MakeBoth (C M : List Route) (es4 es6 : List (List Bool × Option (Option ℕ))) : Type 0 where
  pub table : IsTable M
  pub ipv4 : AreEditsOf Ipv4 C M es4
  pub ipv6 : AreEditsOf Ipv6 C M es6

-- changes of blocks, and the edits of each family that lead to a nearest table with the hops after them
pub record AreEditsFor (rs M : List Route) (es4 es6 : List (List Bool × Option (Option ℕ))) : Type 0 where
  pub changes : AreChanges rs
  pub both : MakeBoth (overwritten_all [] rs) M es4 es6

-- the networks of all operations have no host bits
abbrev pub AreTruncated : List Given.Operation → Type 0
AreTruncated os = All (λ o. IsTruncated (family (network_of o)) (parts (network_of o))) os

-- the installs of a family's edits were added, from the last to the first
pub record AddsInstalls (f : Family) (es : List (List Bool × Option (Option ℕ))) (old new : List Given.Operation) : Type 0 where
  pub operations : map operation_of new ≡ map operation_of old ++ installs (reverse (routes_in f es))
  pub hops : All (λ r. IsHop r.hop) (routes_in f es)
  pub truncated : AreTruncated old → AreTruncated new

-- the removes of a family's edits were added, from the first to the last
pub record AddsRemoves (f : Family) (es : List (List Bool × Option (Option ℕ))) (old new : List Given.Operation) : Type 0 where
  pub operations : map operation_of new ≡ map operation_of old ++ map Remove (blocks_in f es)
  pub truncated : AreTruncated old → AreTruncated new
