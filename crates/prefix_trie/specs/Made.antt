-- Maps made from entries in any order.
use Rattle.std.specs.Prelude.{List, [], ◌∷◌, Bool}
use Rattle.std.specs.FinMap.{insert}
use Rattle.trie_core.specs.Nodes.{BitMap}

-- the map after these entries were inserted, in this order
abbrev pub inserted : {K X : Type 0} → (K → List Bool) → BitMap X → List (K × X) → BitMap X
inserted bits m [] = m
inserted bits m (e ∷ es) = inserted bits (insert m (bits e.0) e.1) es
