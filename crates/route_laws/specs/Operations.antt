-- Operations on an installed table, the tables on the way, and the operations between two tables.
use Rattle.std.specs.Prelude.{◌≡◌, ◌==◌, ℕ, ◌≤◌, ◌⊎◌, Bool, not, ◌&&◌, List, [], ◌∷◌, ◌++◌, filter, map, length, take, reverse}
use Rattle.std.specs.List.{list_any}
use Rattle.ipnet_addr.specs.Addresses.{Address, IsAddress}
use Rattle.ipnet_blocks.specs.Blocks.{Block, same_block}
use Rattle.route_choices.specs.Choices.{same_hop}
use Rattle.route_laws.specs.Tables.{Route, hop_at, is_stored, with_route, without_block}

-- add a route, in place of any other of its block; or remove a block
pub data Operation : Type 0 where
  Install : Route → Operation
  Remove : Block → Operation

-- the table after an operation
abbrev pub after : List Route → Operation → List Route
after M (Install r) = with_route M r
after M (Remove b) = without_block M b

-- the table after all of these operations
abbrev pub after_all : List Route → List Operation → List Route
after_all M [] = M
after_all M (o ∷ os) = after_all (after M o) os

-- Take any two moments: an address has its old hop at the first, or its new hop at the second. So at each moment it has one of the two,
-- and it changes its hop at most once.
pub record IsHitless (M : List Route) (os : List Operation) : Type 0 where
  pub turns : (x : Address) → IsAddress x → (i j : ℕ) → i ≤ j →
      (hop_at (after_all M (take i os)) x ≡ hop_at M x) ⊎ (hop_at (after_all M (take j os)) x ≡ hop_at (after_all M os) x)

-- no shorter sequence of operations turns M into N
abbrev pub IsFewestOperations : List Route → List Route → List Operation → Type 0
IsFewestOperations M N os = (L : List Operation) → after_all M L ≡ N → length os ≤ length L

-- whether two routes are the same
abbrev pub same_route : Route → Route → Bool
same_route r s = same_block r.block s.block && (same_hop r.hop s.hop && (r.pref == s.pref))

-- whether the table has exactly this route
abbrev pub is_held : List Route → Route → Bool
is_held M r = list_any (λ s. same_route s r) M

-- the routes of N that M lacks
abbrev pub missing : List Route → List Route → List Route
missing M N = filter (λ r. not (is_held M r)) N

-- the routes of M whose blocks N does not store
abbrev pub surplus : List Route → List Route → List Route
surplus M N = filter (λ r. not (is_stored N r.block)) M

-- an operation that installs each route
abbrev pub installs : List Route → List Operation
installs rs = map Install rs

-- an operation that removes the block of each route
abbrev pub removes : List Route → List Operation
removes rs = map (λ r. Remove r.block) rs

-- The missing routes are installed in descending order, so an inner one comes before the outer ones. Then the surplus routes are removed
-- in ascending order, so an outer one comes before the inner ones.
abbrev pub between : List Route → List Route → List Operation
between M N = installs (reverse (missing M N)) ++ removes (surplus M N)
