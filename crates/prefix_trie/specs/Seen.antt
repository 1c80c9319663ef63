-- A map as contracts see it.
use Rattle.std.specs.Prelude.{List, Bool, refl}
use Rattle.std.specs.FinMap.{insert, code as map_code}
use base.Stored.{coded_unit}
use Rattle.std.specs.Coded.{Coded, code_by, coded×, coded_list, coded_bool}
use Rattle.trie_core.specs.Nodes.{BitMap, BitSet}

-- the entries, and the strings of the spare nodes, which lead to no entry
pub record SeenMap (X : Type 0) : Type 0 where
  pub entries : BitMap X
  pub spares : BitSet

-- the code of a map, if its values have one
abbrev pub code : {X : Type 0} → Coded X → Coded (SeenMap X)
code {X} x = code_by (BitMap X × BitSet) (coded× (map_code (coded_list coded_bool) x) (map_code (coded_list coded_bool) coded_unit)) (λ s. (s.entries, s.spares)) (λ p. record { entries = p.0; spares = p.1 }) (λ _. refl)

-- s with the value w at the stored key q
abbrev pub with_value : {X : Type 0} → SeenMap X → List Bool → X → SeenMap X
with_value s q w = record s { entries = insert s.entries q w }
