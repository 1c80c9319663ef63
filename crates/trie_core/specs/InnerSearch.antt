-- The results of the steps of a search.
use Rattle.std.specs.Prelude.{ℕ, ◌+◌, ◌<◌, ◌≤◌, ◌≡◌, length, take, List, Bool, ◌∷◌, ◌++◌, Some, None}
use Rattle.std.specs.FinMap.{get}
use Rattle.trie_core.specs.Nodes.{BitMap, Seen}
use Rattle.trie_core.specs.InnerPlaces.{place_string}
use Rattle.trie_core.specs.Count.{node_visits}
use Rattle.trie_core.specs.Inside.{NothingInside}

-- no prefix of q of fewer than `high` bits is a key
abbrev pub NoneBelow : {X : Type 0} → BitMap X → List Bool → ℕ → Type 0
NoneBelow m q high = (k : ℕ) → k < high → k ≤ length q → get m (take k q) ≡ None

-- the longest prefix of q of fewer than `high` bits that is a key has n bits and the value v
pub record IsLongestBelow {X : Type 0} (m : BitMap X) (q : List Bool) (high n : ℕ) (v : X) : Type 0 where
  pub below : n < high
  pub within : n ≤ length q
  pub found : get m (take n q) ≡ Some v
  pub longest : (k : ℕ) → n < k → k < high → k ≤ length q → get m (take k q) ≡ None

-- the key at the place n, of fewer than five bits, is the longest such prefix of q that is a key
pub record IsLongestAt {X : Type 0} (m : BitMap X) (q : List Bool) (n : ℕ) : Type 0 where
  pub value : X
  pub below : n < 31
  pub found : get m (place_string n) ≡ Some value
  pub longest : IsLongestBelow m q 5 (length (place_string n)) value

-- c is the part of m below the first five bits of q
pub record IsChild {X : Type 0} (q : List Bool) (m c : Seen X) : Type 0 where
  pub gets : (r : List Bool) → get m.entries (take 5 q ++ r) ≡ get c.entries r
  pub smaller : c.levels < m.levels
  pub spares : (b : Bool) (r : List Bool) → get m.spares (take 5 q ++ b ∷ r) ≡ get c.spares (b ∷ r)
  pub visits : (r : List Bool) → node_visits m.entries m.spares (take 5 q ++ r) ≡ node_visits c.entries c.spares r + 1

-- m has nothing below the first five bits of q
pub record HasNoChild {X : Type 0} (q : List Bool) (m : Seen X) : Type 0 where
  pub gets : (r : List Bool) → get m.entries (take 5 q ++ r) ≡ None
  pub spares : (r : List Bool) → get m.spares (take 5 q ++ r) ≡ None
  pub visits : node_visits m.entries m.spares q ≡ 1

-- no key and no spare node of m is strictly inside q
abbrev pub IsLeaf : {X : Type 0} → Seen X → List Bool → Type 0
IsLeaf m q = NothingInside m.entries q × NothingInside m.spares q
