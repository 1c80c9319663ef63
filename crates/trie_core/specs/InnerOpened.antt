-- A frame of a branch below skipped levels.
use Rattle.std.specs.Prelude.{ℕ, ◌+◌, ◌-◌, ◌*◌, ◌<◌, ◌≤◌, ◌≡◌, length, take, Bool, List, ◌++◌}
use Rattle.std.specs.FinMap.{entries}
use Rattle.trie_core.specs.InnerPlaces.{child_string}
use Rattle.trie_core.specs.Nodes.{Seen}
use Rattle.trie_core.specs.InnerNodes.{under}
use Rattle.trie_core.specs.InnerCount.{all_nodes}
use Rattle.trie_core.specs.InnerWalks.{Left}

-- f is the frame of the branch of m, and the way is its path; m is the child at a number of the node at the trail
pub record IsOpened {X : Type 0} (trail : List Bool) (child : ℕ) (m : Seen X) (f : Left X) (way : List Bool) : Type 0 where
  pub rest : under way f.0 ≡ under (trail ++ child_string child) (entries m.entries)
  pub positive : 0 < f.1
  pub fewer : f.1 ≤ m.levels
  pub reach : 5 * f.1 + f.3 ≤ 5 * m.levels + 5
  pub nodes : f.2 + 2 ≤ 2 * all_nodes m
  pub above : take (length way - f.3) way ≡ trail
  pub longer : length way ≡ length trail + f.3
