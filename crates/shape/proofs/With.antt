-- The values and the children of a shape after one of them was written.
--     children_with, values_with_child      a child was written
--     values_with, children_with_value      a value was written
use Rattle.std.proofs.Common.{◌≡◌, ℕ, zero, suc, ◌<◌, length, refl, arith}
use Rattle.std.specs.Prelude.{slice_set}
use Rattle.shape.specs.declared.shape.Shape.{Shape}
use Rattle.shape.specs.declared.shape.Shape.TheVariants.{One, Values, Children, Both}
use Rattle.shape.specs.Shapes.{shape_values, shape_children}
use Rattle.shape.specs.Lends.{with_child, with_value}

module _ {X Y : Type 0} where
  pub children_with : (s : Shape X Y) (at : ℕ) (x : X)
      → shape_children (with_child s at x) ≡ slice_set (shape_children s) at x
  children_with (One v alloc) at x = refl
  children_with (Values vs) at x = refl
  children_with (Children cs) at x = refl
  children_with (Both cs vs) at x = refl

  pub values_with_child : (s : Shape X Y) (at : ℕ) (x : X) → shape_values (with_child s at x) ≡ shape_values s
  values_with_child (One v alloc) at x = refl
  values_with_child (Values vs) at x = refl
  values_with_child (Children cs) at x = refl
  values_with_child (Both cs vs) at x = refl

  pub children_with_value : (s : Shape X Y) (at : ℕ) (y : Y) → shape_children (with_value s at y) ≡ shape_children s
  children_with_value (One v alloc) at y = refl
  children_with_value (Values vs) at y = refl
  children_with_value (Children cs) at y = refl
  children_with_value (Both cs vs) at y = refl

  pub values_with : (s : Shape X Y) (at : ℕ) (y : Y) → at < length (shape_values s)
      → shape_values (with_value s at y) ≡ slice_set (shape_values s) at y
  values_with (One v alloc) zero y l = refl
  values_with (One v alloc) (suc at) y l = absurd (omega (arith, l))
  values_with (Values vs) at y l = refl
  values_with (Children cs) at y l = absurd (omega (arith, l))
  values_with (Both cs vs) at y l = refl
