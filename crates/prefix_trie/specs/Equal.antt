-- Equality of maps and of sets.
use Rattle.std.specs.Prelude.{Bool, List, ◌&&◌, true}
use Rattle.std.specs.Ordering.{eq_by_cmp}
use Rattle.std.specs.Cmp.Lexicographic.{pointwise}
use Rattle.std.specs.FinMap.{entries}
use Rattle.ipnet_blocks.specs.BitStrings.{bits_cmp}
use Rattle.prefix_trie.specs.Seen.{SeenMap}

module _ {X : Type 0} (E : X → X → Bool) where
  -- the same bit string, and an equal value
  abbrev pub same_entry : List Bool × X → List Bool × X → Bool
  same_entry d e = eq_by_cmp bits_cmp d.0 e.0 && E d.1 e.1

  -- the same bit strings with equal values, in the order of a walk; spare nodes make no difference
  abbrev pub same_maps : SeenMap X → SeenMap X → Bool
  same_maps m n = pointwise same_entry (entries m.entries) (entries n.entries)

-- the same bit strings; spare nodes make no difference
abbrev pub same_sets : SeenMap (Unit {0}) → SeenMap (Unit {0}) → Bool
same_sets = same_maps (λ _ _. true)
