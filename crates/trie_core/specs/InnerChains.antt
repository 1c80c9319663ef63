-- The value of a node with skipped levels.
use Rattle.std.specs.Prelude.{ℕ, zero, suc, ◌+◌, ◌*◌, ◌<◌, ◌≤◌, ◌≡◌, ◌^◌, Bool, List, [], ◌∷◌, length, take, drop}
use Rattle.std.proofs.Common.{arith}
use denote.Param.Weighed.{most}
use Rattle.ipnet_blocks.specs.Blocks.{digits}
use Rattle.trie_core.specs.Nodes.{Seen}
use Rattle.trie_core.specs.InnerPlaces.{child_of, value_list, child_list}
use Rattle.trie_core.specs.InnerNodes.{node_map, node_height}
use Rattle.trie_core.specs.InnerCount.{spare_set}

module _ {X : Type 0} where
  -- a node without values and with one child, m, at the number n
  abbrev pub over : ℕ → Seen X → Seen X
  over n m = record { entries = node_map (value_list 0 []) (child_list (2 ^ n) (m ∷ [])); spares = spare_set (child_list (2 ^ n) (m ∷ [])); levels = node_height (m ∷ []) + 1 }

  -- k such nodes along the string s, and then m
  abbrev pub chain : ℕ → List Bool → Seen X → Seen X
  chain zero s m = m
  chain (suc k) s m = over (child_of s) (chain k (drop 5 s) m)

  -- each skipped level counts as a level
  pub chain_levels : (k : ℕ) (s : List Bool) (m : Seen X) → (chain k s m).levels ≡ m.levels + k
  chain_levels zero s m = omega arith
  chain_levels (suc k) s m = omega (arith, chain_levels k (drop 5 s) m)

  -- no child has more levels than the deepest
  pub most_le-levels : (cs : List (Seen X)) → most (λ c. 2 * c.levels + 1 + 1) cs ≤ 2 * node_height cs + 2
  most_le-levels [] = omega arith
  most_le-levels (c ∷ cs) = omega (arith, most_le-levels cs)

-- the bits of k skipped levels, five for each
abbrev pub skipped : ℕ → ℕ → List Bool
skipped k skip = digits (5 * k) skip

-- the string q begins with the skipped levels
abbrev pub Starts : ℕ → ℕ → List Bool → Type 0
Starts k skip q = (5 * k ≤ length q) × (take (5 * k) q ≡ skipped k skip)

-- the string q ends inside the skipped levels: it is shorter, and they begin with it
abbrev pub EndsIn : ℕ → ℕ → List Bool → Type 0
EndsIn k skip q = (length q < 5 * k) × (take (length q) (skipped k skip) ≡ q)
