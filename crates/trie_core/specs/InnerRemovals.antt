-- The change of a node when all entries inside a string are removed.
use Rattle.std.specs.Prelude.{◌≡◌, ℕ, ◌+◌, ◌≤◌, List, Bool}
use Rattle.std.specs.FinMap.{len}
use Rattle.trie_core.specs.Nodes.{Seen}
use Rattle.trie_core.specs.InnerCount.{all_nodes}
use Rattle.trie_core.specs.Inside.{outside}

-- n is m without the entries inside q; `went` is the number of entries and the number of nodes removed
pub record IsRemoved {X : Type 0} (q : List Bool) (m : Seen X) (went : ℕ × ℕ) (n : Seen X) : Type 0 where
  pub map : n.entries ≡ outside m.entries q
  pub entries : len n.entries + went.0 ≡ len m.entries
  pub count : all_nodes n + went.1 ≡ all_nodes m
  pub levels : n.levels ≤ m.levels
