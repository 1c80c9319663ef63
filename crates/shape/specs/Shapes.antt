-- The values and the children of a shape.
use Rattle.std.specs.Prelude.{ℕ, List, [], ◌∷◌, ◌+◌, ◌<◌, ◌≤◌}
use Rattle.short_vec.specs.Lists.{short_items, short_len, short_capacity}
use Rattle.shape.specs.declared.lent.Items.{Items}
use Rattle.shape.specs.declared.lent.Items.TheVariants as lent
use Rattle.shape.specs.declared.shape.Shape.{Shape}
use Rattle.shape.specs.declared.shape.Shape.TheVariants.{One, Values, Children, Both}

module _ {X Y : Type 0} where
  -- the values, in order
  abbrev pub shape_values : Shape X Y → List Y
  shape_values (One v alloc) = v ∷ []
  shape_values (Values vs) = short_items vs
  shape_values (Children cs) = []
  shape_values (Both cs vs) = short_items vs.value

  -- the children, in order
  abbrev pub shape_children : Shape X Y → List X
  shape_children (One v alloc) = []
  shape_children (Values vs) = []
  shape_children (Children cs) = short_items cs
  shape_children (Both cs vs) = short_items cs

-- there is room for one more child
abbrev pub HasRoom : {X Y : Type 0} → Shape X Y → Type 0
HasRoom (One v alloc) = ⊥
HasRoom (Values vs) = ⊥
HasRoom (Children cs) = short_len cs < short_capacity cs
HasRoom (Both cs vs) = short_len cs < short_capacity cs

-- there is room for n more children
abbrev pub HasRoomFor : {X Y : Type 0} → ℕ → Shape X Y → Type 0
HasRoomFor n (One v alloc) = ⊥
HasRoomFor n (Values vs) = ⊥
HasRoomFor n (Children cs) = short_len cs + n ≤ short_capacity cs
HasRoomFor n (Both cs vs) = short_len cs + n ≤ short_capacity cs

-- the values that are lent
abbrev pub items_of : {X : Type 0} → Items X → List X
items_of (lent.One x) = x.now ∷ []
items_of (lent.Many xs) = xs.now
