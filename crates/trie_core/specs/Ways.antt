-- The spare nodes after a removal: those on the path of the key, and those off it.
use Rattle.std.specs.Prelude.{◌%◌, ◌≤◌, ◌≡◌, ◌↔◌, ◌⊎◌, length, Bool, true, false, cond, not, List, ◌++◌, None, is_some}
use Rattle.std.specs.FinMap.{get, retain_keys}
use Rattle.ipnet_blocks.specs.BitStrings.{begins}
use Rattle.trie_core.specs.Nodes.{BitMap, BitSet}

-- the strings that are not prefixes of q; q itself is removed too
abbrev pub off_way : BitSet → List Bool → BitSet
off_way b q = retain_keys b (λ s. not (begins s q))

-- s can be the string of a node below the root, and no key of m begins with s
pub record IsIdle {X : Type 0} (m : BitMap X) (s : List Bool) : Type 0 where
  pub below : 5 ≤ length s
  pub fives : length s % 5 ≡ 0
  pub none : (k : List Bool) → get m (s ++ k) ≡ None

-- each string of b is that of a node below the root that leads to no key of m
abbrev pub AreIdle : {X : Type 0} → BitMap X → BitSet → Type 0
AreIdle m b = (s : List Bool) → is_some (get b s) ≡ true → IsIdle m s

-- a string of b that begins with s is off the path of q and not lost
abbrev pub LeadsOff : (List Bool → Bool) → BitSet → List Bool → List Bool → Type 0
LeadsOff lost b q s = (k : List Bool) × (is_some (get b (s ++ k)) ≡ true) × (begins (s ++ k) q ≡ false) × (lost (s ++ k) ≡ false)

module _ {X : Type 0} where
  -- The spare nodes were a, and are b after keys and some nodes, the lost ones, were removed and the map is m. Then the nodes on the path
  -- of q that lead nowhere were removed. Off the path, all nodes stay that aren't lost. On the path, the spare nodes are those that lead
  -- to no key, but to a spare node off the path.
  pub record IsLeft (lost : List Bool → Bool) (q : List Bool) (a : BitSet) (m : BitMap X) (b : BitSet) : Type 0 where
    pub off : (s : List Bool) → begins s q ≡ false → get b s ≡ cond (lost s) None (get a s)
    pub on : (s : List Bool) → begins s q ≡ true → (is_some (get b s) ≡ true) ↔ (IsIdle m s × LeadsOff lost a q s)

  -- only the key q was removed
  abbrev pub IsPruned : List Bool → BitSet → BitMap X → BitSet → Type 0
  IsPruned q = IsLeft (λ s. false) q

  -- all keys that begin with q were removed
  abbrev pub IsCut : List Bool → BitSet → BitMap X → BitSet → Type 0
  IsCut q = IsLeft (begins q) q

  -- The spare nodes were a, and are b after the key q was removed from the map l, which is m then; all nodes were kept. If q was a key,
  -- more nodes on its path may be spare.
  pub record IsKept (q : List Bool) (l : BitMap X) (a : BitSet) (m : BitMap X) (b : BitSet) : Type 0 where
    pub off : (s : List Bool) → begins s q ≡ false → get b s ≡ get a s
    pub on : (s : List Bool) → begins s q ≡ true → (is_some (get b s) ≡ true) ↔ ((is_some (get a s) ≡ true) ⊎ ((is_some (get l q) ≡ true) × IsIdle m s))
