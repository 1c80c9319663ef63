-- A node as contracts see it: a map from bit strings to values, and the shape below the node.
use Rattle.std.specs.Prelude.{ℕ, refl}
use Rattle.std.specs.FinMap.{FinMap, code as map_code}
use base.Stored.{coded_unit}
use Rattle.std.specs.Coded.{Coded, code_by, coded×, coded_ℕ, coded_list, coded_bool}
use Rattle.ipnet_blocks.specs.BitStrings.{bits_cmp}

-- a finite map from bit strings, in the order of a walk
abbrev pub BitMap : Type 0 → Type 0
BitMap X = FinMap bits_cmp X

-- a finite set of bit strings
abbrev pub BitSet : Type 0
BitSet = BitMap (Unit {0})

-- a node as contracts see it: the entries, the strings of the spare nodes, which lead to no entry, and the number of levels
pub record Seen (X : Type 0) : Type 0 where
  pub entries : BitMap X
  pub spares : BitSet
  pub levels : ℕ

-- the code of a node, if its values have one
abbrev pub code : {X : Type 0} → Coded X → Coded (Seen X)
code {X} x = code_by (BitMap X × (BitSet × ℕ)) (coded× (map_code (coded_list coded_bool) x) (coded× (map_code (coded_list coded_bool) coded_unit) coded_ℕ)) (λ s. (s.entries, (s.spares, s.levels))) (λ p. record { entries = p.0; spares = p.1.0; levels = p.1.1 }) (λ _. refl)
