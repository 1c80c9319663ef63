-- A table with several choices for each network, and the table of its best routes.
use Rattle.std.specs.Prelude.{◌≡◌, not, if◌then◌else◌, List, [], ◌∷◌, ◌++◌, All, AllPairs, Contains, filter, map}
use Rattle.ipnet_blocks.specs.Blocks.{Block, IsBlock, IsBefore, IsLarger, is_before, is_inside, same_block}
use Rattle.route_choices.specs.declared.hop.Hop.{Hop}
use Rattle.route_choices.specs.Choices.{Choice, AreChoices, best_hop, best_preference, choices_with, choices_without}
use Rattle.route_laws.specs.Tables.{Route}

-- a stored network
pub record Stored : Type 0 where
  pub block : Block
  pub choices : List Choice

-- the stored networks, ascending, each block once, with one to eight choices each
pub record IsStoredTable (T : List Stored) : Type 0 where
  pub blocks : All (λ s. IsBlock s.block) T
  pub some : All (λ s. s.choices ≡ [] → ⊥) T
  pub choices : All (λ s. AreChoices s.choices) T
  pub ascending : AllPairs (λ s t. IsBefore s.block t.block) T

-- the choices of a block, or none if it isn't stored
abbrev pub choices_at : List Stored → Block → List Choice
choices_at [] b = []
choices_at (s ∷ T) b = if same_block s.block b then s.choices else choices_at T b

-- the best route of a stored network
abbrev pub best_route : Stored → Route
best_route s = record { block = s.block; hop = best_hop s.choices; pref = best_preference s.choices }

-- the best routes: the table that all theorems are about
abbrev pub routes_of : List Stored → List Route
routes_of T = map best_route T

-- the table with the network added, in place of any other with its block
abbrev pub with_stored : List Stored → Stored → List Stored
with_stored T s = filter (λ t. is_before t.block s.block) T ++ s ∷ filter (λ t. is_before s.block t.block) T

-- the table without this block
abbrev pub without_stored : List Stored → Block → List Stored
without_stored T b = filter (λ t. not (same_block t.block b)) T

-- the table with these choices for the block, or without the block if there are none
abbrev pub with_choices : List Stored → Block → List Choice → List Stored
with_choices T b [] = without_stored T b
with_choices T b (c ∷ cs) = with_stored T (record { block = b; choices = c ∷ cs })

-- the table after an accepted `add`
abbrev pub with_choice : List Stored → Block → Choice → List Stored
with_choice T b c = with_choices T b (choices_with (choices_at T b) c)

-- the table after a `del`
abbrev pub without_choice : List Stored → Block → Hop → List Stored
without_choice T b h = with_choices T b (choices_without (choices_at T b) h)

-- the table after a `del` of each of these choices
abbrev pub without_each : List Stored → Block → List Choice → List Stored
without_each T b [] = T
without_each T b (c ∷ cs) = without_each (without_choice T b c.hop) b cs

-- the stored networks that are not inside n
abbrev pub networks_outside : List Stored → Block → List Stored
networks_outside T n = filter (λ s. not (is_inside s.block n)) T

-- the table with one network of one choice in place of all networks inside its block
abbrev pub overwritten_by : List Stored → Block → Choice → List Stored
overwritten_by T b c = with_stored (networks_outside T b) (record { block = b; choices = c ∷ [] })

-- no stored network is strictly inside n
abbrev pub IsLeaf : List Stored → Block → Type 0
IsLeaf T n = (s : Stored) → Contains T s → IsLarger n s.block → ⊥
