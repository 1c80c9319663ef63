-- A node as two lists: the values at strings of fewer than five bits, and the children at five bits.
use Rattle.std.specs.Prelude.{ℕ, ◌<◌, ◌≤◌, ◌≡◌, ◌^◌, length, max, Bool, true, T, List, [], ◌∷◌, ◌++◌, Option, Some, None, is_some, count_ones}
use Rattle.std.specs.FinMap.{get, is_sorted, entries, from_entries, empty}
use Rattle.ipnet_blocks.specs.BitStrings.{bits_cmp}
use Rattle.trie_core.specs.Nodes.{BitMap, BitSet, Seen}

-- the entries with these bits in front of each key
abbrev pub under : {X : Type 0} → List Bool → List (List Bool × X) → List (List Bool × X)
under bs [] = []
under bs (e ∷ es) = (bs ++ e.0, e.1) ∷ under bs es

-- the entries of the children, each under its five bits
abbrev pub child_entries : {X : Type 0} → List (List Bool × Seen X) → List (List Bool × X)
child_entries [] = []
child_entries (c ∷ cs) = under c.0 (entries c.1.entries) ++ child_entries cs

-- the map of a node: its values, and the entries of its children
unfoldable pub node_map : {X : Type 0} → List (List Bool × X) → List (List Bool × Seen X) → BitMap X
node_map vs cs = from_entries (vs ++ child_entries cs)

-- each string has fewer than five bits
abbrev pub AreShort : {X : Type 0} → List (List Bool × X) → Type 0
AreShort [] = Unit {0}
AreShort (e ∷ es) = (length e.0 < 5) × AreShort es

-- each string has five bits
abbrev pub AreLong : {X : Type 0} → List (List Bool × X) → Type 0
AreLong [] = Unit {0}
AreLong (e ∷ es) = (length e.0 ≡ 5) × AreLong es

-- both lists ascend; the values are at strings of fewer than five bits, and the children at five bits
pub record IsNode {X : Type 0} (vs : List (List Bool × X)) (cs : List (List Bool × Seen X)) : Type 0 where
  pub values_rise : T (is_sorted bits_cmp vs)
  pub values_short : AreShort vs
  pub children_rise : T (is_sorted bits_cmp cs)
  pub children_long : AreLong cs

-- the words of a node mark as many places as it has values and children
pub record HasSlots {X Y : Type 0} (value_bits : ℕ) (values : List X) (child_bits : ℕ) (children : List Y) : Type 0 where
  pub values_counted : count_ones value_bits ≡ length values
  pub values_below : value_bits < 2 ^ 31
  pub children_counted : count_ones child_bits ≡ length children
  pub children_below : child_bits < 2 ^ 32

-- the levels of the deepest of these nodes
abbrev pub node_height : {X : Type 0} → List (Seen X) → ℕ
node_height [] = 0
node_height (c ∷ cs) = max c.levels (node_height cs)

-- the map of the child, or the empty map if there is none
abbrev pub child_map : {X : Type 0} → Option (Seen X) → BitMap X
child_map None = empty
child_map (Some m) = m.entries

-- each string has five bits or more
abbrev pub AreBelow : BitSet → Type 0
AreBelow b = (s : List Bool) → is_some (get b s) ≡ true → 5 ≤ length s
