-- The values of a node that was taken apart.
use Rattle.std.specs.Prelude.{List, [], ◌∷◌}
use Rattle.short_vec.specs.Lists.{short_items}
use Rattle.shape.specs.declared.owned_values.OwnedValues.{OwnedValues}
use Rattle.shape.specs.declared.owned_values.OwnedValues.TheVariants.{One, Many}

-- the values, in order
abbrev pub owned_values : {X : Type 0} → OwnedValues X → List X
owned_values (One x) = x ∷ []
owned_values (Many xs) = short_items xs
