-- The results of searches.
use Rattle.std.specs.Prelude.{ℕ, ◌<◌, ◌≤◌, ◌≡◌, length, take, Bool, List, Some, None}
use Rattle.std.specs.FinMap.{get}
use Rattle.trie_core.specs.Nodes.{BitMap}

-- no prefix of q, q itself included, is a key
abbrev pub NoBeginning : {X : Type 0} → BitMap X → List Bool → Type 0
NoBeginning m q = (k : ℕ) → k ≤ length q → get m (take k q) ≡ None

-- the longest prefix of q that is a key, q itself included, has n bits and the value v
pub record IsLongest {X : Type 0} (m : BitMap X) (q : List Bool) (n : ℕ) (v : X) : Type 0 where
  pub within : n ≤ length q
  pub found : get m (take n q) ≡ Some v
  pub longest : (k : ℕ) → n < k → k ≤ length q → get m (take k q) ≡ None

-- the shortest prefix of q that is a key, q itself included, has n bits and the value v
pub record IsShortest {X : Type 0} (m : BitMap X) (q : List Bool) (n : ℕ) (v : X) : Type 0 where
  pub within : n ≤ length q
  pub found : get m (take n q) ≡ Some v
  pub shortest : (k : ℕ) → k < n → get m (take k q) ≡ None
