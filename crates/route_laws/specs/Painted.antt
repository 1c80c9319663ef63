-- Changes of a table; each gives all addresses of a block one hop.
use Rattle.std.specs.Prelude.{ℕ, ◌+◌, if◌then◌else◌, not, ◌&&◌, List, [], ◌∷◌, All, Option, filter, length, map}
use Rattle.ipnet_addr.specs.Addresses.{Address}
use Rattle.ipnet_blocks.specs.Blocks.{Block, IsBlock, has_address, is_inside, same_block}
use Rattle.route_choices.specs.Choices.{default_preference}
use Rattle.route_choices.specs.declared.hop.Hop.{Hop}
use Rattle.route_choices.specs.Hops.{IsHop, number_of}
use Rattle.route_laws.specs.Changes.{same_number}
use Rattle.route_laws.specs.Overwritten.{overwritten, without_inside}
use Rattle.route_laws.specs.Tables.{Route, match_of, match_number}

-- The table after all addresses of the block of r got its hop. No route is inside that block but r, and r isn't either if the block
-- inherits the hop from the routes outside.
abbrev pub painted : List Route → Route → List Route
painted M r = if same_number (match_number (match_of (without_inside M r.block) r.block)) (number_of r.hop) then without_inside M r.block else overwritten M r

-- the table after several changes
abbrev pub painted_all : List Route → List Route → List Route
painted_all M [] = M
painted_all M (r ∷ rs) = painted_all (painted M r) rs

-- changes of blocks, each with its hop
pub record AreChanges (rs : List Route) : Type 0 where
  pub blocks : All (λ r. IsBlock r.block) rs
  pub hops : All (λ r. IsHop r.hop) rs

-- the routes strictly inside a block
abbrev pub strictly_inside : List Route → Block → List Route
strictly_inside M n = filter (λ s. is_inside s.block n && not (same_block s.block n)) M

-- the most operations that changes take: one for each, and one for each route strictly inside its block in the table before it
abbrev pub most_operations : List Route → List Route → ℕ
most_operations M [] = 0
most_operations M (r ∷ rs) = 1 + length (strictly_inside M r.block) + most_operations (painted M r) rs

-- the hop of the last change whose block contains the address, or `now` if none does
abbrev pub hop_over : Option ℕ → List Route → Address → Option ℕ
hop_over now [] x = now
hop_over now (r ∷ rs) x = hop_over (if has_address r.block x then number_of r.hop else now) rs x

-- blocks whose addresses all get one hop, as in a leader's reply
abbrev pub changes_to : Hop → List Block → List Route
changes_to hop bs = map (λ b. record { block = b; hop = hop; pref = default_preference }) bs
