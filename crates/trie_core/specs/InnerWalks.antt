-- The rest of a walk.
use Rattle.std.specs.Prelude.{ℕ, suc, ◌+◌, ◌<◌, ◌≤◌, ◌≡◌, length, max, Bool, true, false, not, ◌&&◌, T, List, [], ◌∷◌, ◌++◌, refl}
use Rattle.std.specs.Coded.{Coded, code_by, coded×, coded_ℕ, coded_list, coded_bool}
use Rattle.std.specs.Ordering.{nat_cmp, is_lt}
use Rattle.std.specs.FinMap.{is_sorted}
use Rattle.ipnet_blocks.specs.BitStrings.{bits_cmp, begins}
use Rattle.trie_core.specs.InnerPlaces.{place_string, child_string, AllBelow, named}
use Rattle.trie_core.specs.Nodes.{BitMap, Seen}
use Rattle.trie_core.specs.InnerNodes.{node_map}
use Rattle.trie_core.specs.InnerCount.{all_nodes}

-- the string k comes after b and after all strings that begin with b
abbrev pub is_past : List Bool → List Bool → Bool
is_past b k = is_lt (bits_cmp b k) && not (begins b k)

-- whether the first value precedes the first child's entries in a walk
abbrev pub first_value : {X Y : Type 0} → List (List Bool × X) → List (List Bool × Y) → Bool
first_value [] cs = false
first_value (e ∷ vs) [] = true
first_value (e ∷ vs) (c ∷ cs) = is_lt (bits_cmp e.0 c.0)

module _ {X : Type 0} where
  -- no key is longer than n bits
  abbrev pub KeysWithin : ℕ → List (List Bool × X) → Type 0
  KeysWithin n [] = Unit {0}
  KeysWithin n (e ∷ es) = (length e.0 ≤ n) × KeysWithin n es

  -- the number of levels of the deepest of these children, and the number of all their nodes
  abbrev pub levels_of : List (ℕ × Seen X) → ℕ
  levels_of [] = 0
  levels_of (c ∷ cs) = max c.1.levels (levels_of cs)

  abbrev pub nodes_of : List (ℕ × Seen X) → ℕ
  nodes_of [] = 0
  nodes_of (c ∷ cs) = all_nodes c.1 + nodes_of cs

  -- the map of a node with these values and children
  abbrev pub part_map : List (ℕ × X) → List (ℕ × Seen X) → BitMap X
  part_map vs cs = node_map (named place_string vs) (named child_string cs)

  -- values and children at places of a node, in ascending order
  pub record AreInOrder (vs : List (ℕ × X)) (cs : List (ℕ × Seen X)) : Type 0 where
    pub values_rise : T (is_sorted nat_cmp vs)
    pub values_below : AllBelow 31 vs
    pub children_rise : T (is_sorted nat_cmp cs)
    pub children_below : AllBelow 32 cs

  -- the values and children of the node m
  pub record AreParts (m : Seen X) (vs : List (ℕ × X)) (cs : List (ℕ × Seen X)) : Type 0 where
    pub order : AreInOrder vs cs
    pub map : part_map vs cs ≡ m.entries
    pub levels : levels_of cs + 1 ≡ m.levels
    pub nodes : nodes_of cs + 1 ≡ all_nodes m

-- the remaining entries, the number of levels of their nodes, a number that decreases with each node that is opened, and the number of
-- bits by which the path is longer than that of the frame below it on the stack
abbrev pub Left : Type 0 → Type 0
Left X = List (List Bool × X) × ℕ × ℕ × ℕ

abbrev pub left_code : {X : Type 0} → Coded X → Coded (Left X)
left_code {X} x = code_by (List (List Bool × X) × (ℕ × (ℕ × ℕ))) (coded× (coded_list (coded× (coded_list coded_bool) x)) (coded× coded_ℕ (coded× coded_ℕ coded_ℕ))) (λ s. (s.0, (s.1, (s.2, s.3)))) (λ p. (p.0, p.1.0, p.1.1.0, p.1.1.1)) (λ _. refl)

-- the rest of a stack of frames, the last frame first
abbrev pub walk_rest : {X : Type 0} → List (Left X) → List (List Bool × X)
walk_rest [] = []
walk_rest (f ∷ fs) = walk_rest fs ++ f.0

-- a number that decreases with each step
abbrev pub walk_weight : {X : Type 0} → List (Left X) → ℕ
walk_weight [] = 0
walk_weight (f ∷ fs) = f.2 + 1 + walk_weight fs

-- the levels of each frame fit below those of the frames before it
abbrev pub FitFrom : {X : Type 0} → ℕ → List (Left X) → Type 0
FitFrom i [] = Unit {0}
FitFrom i (f ∷ fs) = (0 < f.1) × (i + f.1 ≤ 26) × FitFrom (suc i) fs
