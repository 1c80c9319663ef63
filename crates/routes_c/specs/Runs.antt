-- The result of a call of a closure with two `&mut`.
use Rattle.std.specs.Prelude.{◌≡◌}
use denote.Param.Members.{Once}
use denote.Ref.{MutBor}

-- called with a `&mut` to x and one to y, the closure may return r and leave x' and y' there
pub record ReturnsAtBoth {F S T R : Type 0} (g : Once F (MutBor S × (MutBor T × Unit {0})) (R × (MutBor S × (MutBor T × Unit {0})))) (f : F) (x : S) (y : T) (r : R) (x' : S) (y' : T) : Type 0 where
  pub first : MutBor S
  pub second : MutBor T
  pub first-shows : first.now ≡ x
  pub second-shows : second.now ≡ y
  pub first-left : MutBor S
  pub second-left : MutBor T
  pub met : g.post f (first, (second, tt)) (r, (first-left, (second-left, tt)))
  pub first-leaves : first-left.now ≡ x'
  pub second-leaves : second-left.now ≡ y'
