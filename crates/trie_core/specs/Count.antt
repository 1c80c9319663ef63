-- The number of nodes that a map needs, and the number that a search enters.
use Rattle.std.specs.Prelude.{ℕ, zero, suc, ◌+◌, ◌*◌, ◌/◌, length, take, cond, is_some, ◌||◌, Bool, List, [], ◌∷◌, ◌++◌}
use Rattle.std.specs.FinMap.{entries, from_entries, len, get}
use Rattle.trie_core.specs.Nodes.{BitMap, BitSet}

-- the prefixes of q of length 5 * i + 5, 5 * i + 10 and so on, n of them
abbrev pub fives_from : ℕ → ℕ → List Bool → List (List Bool × Unit {0})
fives_from i zero q = []
fives_from i (suc n) q = (take (5 * i + 5) q, tt) ∷ fives_from (suc i) n q

-- the prefixes of q of positive length divisible by five
abbrev pub fives : List Bool → List (List Bool × Unit {0})
fives q = fives_from 0 (length q / 5) q

-- the number of these strings that are in the set
abbrev pub found_in : BitSet → List (List Bool × Unit {0}) → ℕ
found_in b [] = 0
found_in b (e ∷ es) = cond (is_some (get b e.0)) 1 0 + found_in b es

module _ {X : Type 0} where
  abbrev pub fives_of : List (List Bool × X) → List (List Bool × Unit {0})
  fives_of [] = []
  fives_of (e ∷ es) = fives e.0 ++ fives_of es

  -- the prefixes of keys of positive length divisible by five, each once
  unfoldable pub begun : BitMap X → BitSet
  begun m = from_entries (fives_of (entries m))

  -- the number of nodes of a tidy map: the root, and one for each of these strings
  abbrev pub nodes : BitMap X → ℕ
  nodes m = len (begun m) + 1

  -- one, and the number of prefixes of q of positive length divisible by five that are prefixes of a key
  abbrev pub visit_count : BitMap X → List Bool → ℕ
  visit_count m q = found_in (begun m) (fives q) + 1

  -- whether there is a node at this string, below the root: a prefix of a key, of positive length divisible by five, or a spare node
  abbrev pub stands : BitMap X → BitSet → List Bool → Bool
  stands m b k = is_some (get (begun m) k) || is_some (get b k)

  -- the number of these strings that have a node
  abbrev pub standing_at : BitMap X → BitSet → List (List Bool × Unit {0}) → ℕ
  standing_at m b [] = 0
  standing_at m b (e ∷ es) = cond (stands m b e.0) 1 0 + standing_at m b es

  -- one, and the number of prefixes of q of positive length divisible by five that have a node
  unfoldable pub node_visits : BitMap X → BitSet → List Bool → ℕ
  node_visits m b q = standing_at m b (fives q) + 1
