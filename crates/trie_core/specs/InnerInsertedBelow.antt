-- The change of a node when a held value is stored.
use Rattle.std.specs.Prelude.{◌≡◌, ℕ, ◌+◌, ◌/◌, ◌≤◌, List, Bool, Option, None, length, max, IsTrue}
use Rattle.std.specs.Option.{ForSome}
use Rattle.std.specs.FinMap.{get, insert, empty}
use Rattle.trie_core.specs.Nodes.{Seen}
use Rattle.trie_core.specs.InnerCount.{all_nodes}
use Rattle.trie_core.specs.Ways.{off_way}
use Rattle.trie_core.specs.declared.insert.Insertion.{Insertion}

-- n is m with the held value at q and with `made` more nodes; `out` is the old value. A new key needs `may_grow`
pub record IsInsertedBelow {X : Type 0} (q : List Bool) (held : Option X) (may_grow : Bool) (room : ℕ) (m : Seen X) (made : ℕ) (out : Option X) (n : Seen X) : Type 0 where
  pub old : out ≡ get m.entries q
  pub map : ForSome held (λ v. n.entries ≡ insert m.entries q v)
  pub spares : n.spares ≡ off_way m.spares q
  pub count : all_nodes n ≡ all_nodes m + made
  pub levels : n.levels ≤ max m.levels (length q / 5 + 1)
  pub within : made ≤ room
  pub grows : get m.entries q ≡ None → IsTrue may_grow

-- n is m after the insertion at q
abbrev pub IsStored : {X : Type 0} → List Bool → Insertion X → Insertion X → Seen X → Seen X → Type 0
IsStored q old new m n = IsInsertedBelow q old.held old.may_grow old.room m new.made new.held n

-- a node without entries and children
abbrev pub bare : {X : Type 0} → Seen X
bare = record { entries = empty; spares = empty; levels = 1 }
