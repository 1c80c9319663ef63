-- The invariant of a map's root.
use Rattle.std.specs.Prelude.{ℕ, ◌≤◌, ◌≡◌, List, Bool, length, is_some, true}
use Rattle.std.specs.FinMap as map
use Rattle.trie_core.specs.Nodes.{BitMap, Seen}
use Rattle.trie_core.specs.InnerCount.{all_nodes}
use Rattle.trie_core.specs.Ways.{AreIdle}

-- no key is longer than n bits
abbrev pub KeysUpTo : {X : Type 0} → ℕ → BitMap X → Type 0
KeysUpTo n m = (q : List Bool) → is_some (map.get m q) ≡ true → length q ≤ n

-- `len` and `nodes` are the numbers of entries and nodes, and the keys have at most w bits
pub record IsRoot {X : Type 0} (w len nodes : ℕ) (s : Seen X) : Type 0 where
  pub entries_counted : len ≡ map.len s.entries
  pub nodes_counted : nodes ≡ all_nodes s
  pub levels : s.levels ≤ 26
  pub keys : KeysUpTo w s.entries
  pub idle : AreIdle s.entries s.spares
