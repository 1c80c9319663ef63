-- The items that a frame of an owned node still has, with their places: one, or those of a list.
use Rattle.std.specs.Prelude.{ℕ, List, [], ◌∷◌}
use Rattle.trie_core.specs.declared.owned_frame.OwnedPlaces.{OwnedPlaces}
use Rattle.trie_core.specs.declared.owned_frame.OwnedPlaces.TheVariants.{One, List as Listed}

abbrev pub owned_places : {X : Type 0} → OwnedPlaces X → List (ℕ × X)
owned_places (One place x) = (place, x) ∷ []
owned_places (Listed places) = places
