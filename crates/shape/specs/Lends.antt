-- The value of a shape after a `&mut` to one of its values or children was returned.
use Rattle.std.specs.Prelude.{ℕ}
use Rattle.std.specs.Borrow.{Lends, RattleType, MutBor, Fml}
use Rattle.short_vec.specs.Lends.{short_with_item}
use Rattle.shape.specs.declared.shape.Shape.{Shape}
use Rattle.shape.specs.declared.shape.Shape.TheVariants.{One, Values, Children, Both}
use Rattle.shape.specs.contracts.shape.Shape.{the_row}

module _ {X Y : Type 0} where
  -- the shape after its child at this index became x
  abbrev pub with_child : Shape X Y → ℕ → X → Shape X Y
  with_child (One v alloc) at x = One v alloc
  with_child (Values vs) at x = Values vs
  with_child (Children cs) at x = Children (short_with_item cs at x)
  with_child (Both cs vs) at x = Both (short_with_item cs at x) vs

  -- the shape after its value at this index became y
  abbrev pub with_value : Shape X Y → ℕ → Y → Shape X Y
  with_value (One v alloc) at y = One y alloc
  with_value (Values vs) at y = Values (short_with_item vs at y)
  with_value (Children cs) at y = Children cs
  with_value (Both cs vs) at y = Both cs (record vs { value = short_with_item vs.value at y })

-- v is a `&mut` to a shape that was used up to make r: once the borrow r ends, the child at this index is the last one written
-- through r
abbrev pub follows_child : (C T : RattleType) → MutBor (Shape C.Denot T.Denot) → ℕ → MutBor C.Denot → Fml
follows_child C T v at r = Lends (the_row C T) C v r (with_child v.now at)

-- the same of a value
abbrev pub follows_value : (C T : RattleType) → MutBor (Shape C.Denot T.Denot) → ℕ → MutBor T.Denot → Fml
follows_value C T v at r = Lends (the_row C T) T v r (with_value v.now at)
