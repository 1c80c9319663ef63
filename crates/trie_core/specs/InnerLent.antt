-- The children that a frame of a lent node still has, with their places.
use Rattle.std.specs.Prelude.{ℕ, List, [], ◌∷◌}
use Rattle.trie_core.specs.Nodes.{Seen}
use Rattle.trie_core.specs.declared.lent_frame.LentChildren.{LentChildren}
use Rattle.trie_core.specs.declared.lent_frame.LentChildren.TheVariants.{List as Listed, One}

module _ {X : Type 0} where
  abbrev pub lent_children : LentChildren X → List (ℕ × Seen X)
  lent_children (Listed places) = places
  lent_children (One place node) = (place, node) ∷ []
