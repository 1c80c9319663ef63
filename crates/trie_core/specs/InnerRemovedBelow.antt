-- The removal of a key.
use Rattle.std.specs.Prelude.{◌≡◌, ℕ, ◌+◌, ◌*◌, ◌≤◌, List, [], Bool, Option, length}
use Rattle.std.specs.FinMap.{get, empty, len}
use Rattle.std.specs.FinMap as map
use Rattle.trie_core.specs.Nodes.{Seen}
use Rattle.trie_core.specs.InnerPlaces.{value_list, child_list}
use Rattle.trie_core.specs.InnerNodes.{node_map, node_height}
use Rattle.trie_core.specs.InnerCount.{spare_count, spare_set, all_nodes}
use Rattle.trie_core.specs.Ways.{IsPruned}

module _ {X : Type 0} where
  -- the removal of the key q from m leaves n, removes `gone` nodes, and returns `out`
  pub record IsRemovedBelow (q : List Bool) (m : Seen X) (gone : ℕ) (out : Option X) (n : Seen X) : Type 0 where
    pub value : out ≡ get m.entries q
    pub map : n.entries ≡ map.remove m.entries q
    pub spares : IsPruned q m.spares n.entries n.spares
    pub count : all_nodes n + gone ≡ all_nodes m
    pub levels : n.levels ≤ m.levels
    pub within : 5 * gone ≤ length q

  -- a node with neither values nor children
  abbrev pub lone : Seen X
  lone = record { entries = node_map (value_list {X = X} 0 []) (child_list {X = Seen X} 0 []); spares = spare_set (child_list {X = Seen X} 0 []); levels = node_height {X = X} [] + 1 }

  pub record IsBare (d : Seen X) : Type 0 where
    pub same : d ≡ lone
    pub entries : d.entries ≡ empty
    pub spares : spare_count d ≡ 0
    pub count : all_nodes d ≡ 1

  -- a node with a key or a spare node
  abbrev pub IsFull : Seen X → Type 0
  IsFull d = spare_count d ≡ 0 → len d.entries ≡ 0 → ⊥
