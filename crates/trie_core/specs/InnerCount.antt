-- The number of nodes at and below a node, those that its map needs and the spare ones, computed from its children.
use Rattle.std.specs.Prelude.{ℕ, zero, suc, ◌+◌, Bool, List, [], ◌∷◌}
use Rattle.std.specs.FinMap.{len, empty, insert, remove}
use Rattle.trie_core.specs.Nodes.{BitMap, BitSet, Seen}
use Rattle.trie_core.specs.InnerNodes.{node_map}
use Rattle.trie_core.specs.Count.{nodes}

-- 1 for a child whose map is empty, else 0
abbrev pub spare_if : ℕ → ℕ
spare_if zero = 1
spare_if (suc n) = 0

-- the set with the empty string added, for a child whose map is empty
abbrev pub marked_if : ℕ → BitSet → BitSet
marked_if zero b = insert b [] tt
marked_if (suc n) b = b

module _ {X : Type 0} where
  -- the number of nodes that a child's map needs, or 0 if it is empty
  abbrev pub nodes_if : ℕ → BitMap X → ℕ
  nodes_if zero m = 0
  nodes_if (suc n) m = nodes m

  -- the number of spare nodes below a node; the node itself is never counted, so the empty string is left out
  abbrev pub spare_count : Seen X → ℕ
  spare_count s = len (remove s.spares [])

  -- the number of spare nodes at a child: the child itself if its map is empty, and those below it
  abbrev pub spare_of : Seen X → ℕ
  spare_of s = spare_if (len s.entries) + spare_count s

  -- the number of all nodes: those that the map needs, and the spare ones
  abbrev pub all_nodes : Seen X → ℕ
  all_nodes s = nodes s.entries + spare_count s

  -- the sum of f over the children
  abbrev pub total : (Seen X → ℕ) → List (Seen X) → ℕ
  total f [] = 0
  total f (c ∷ cs) = f c + total f cs

  -- the number of spare nodes at and below the children
  abbrev pub spares_below : List (Seen X) → ℕ
  spares_below cs = total spare_of cs

  -- the number of entries at and below a node
  abbrev pub entry_count : Seen X → ℕ
  entry_count s = len s.entries

  -- the spare nodes of a child; the child itself is the empty string, if its map is empty
  abbrev pub marked : Seen X → BitSet
  marked s = marked_if (len s.entries) (remove s.spares [])

  -- the same for each child
  abbrev pub marks : List (List Bool × Seen X) → List (List Bool × Seen (Unit {0}))
  marks [] = []
  marks (c ∷ cs) = (c.0, record { entries = marked c.1; spares = empty; levels = c.1.levels }) ∷ marks cs

  -- the strings of the spare nodes at and below the children
  unfoldable pub spare_set : List (List Bool × Seen X) → BitSet
  spare_set cs = node_map [] (marks cs)
