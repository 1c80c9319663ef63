-- Whether each address of a block has a route.
use Rattle.std.proofs.Common.{arith, ◌≡◌, ℕ, Bool, true, false, List, ◌∷◌, is_some, Option, Some, None, ap₂, ◌∙◌}
use Rattle.least_table.specs.Wholes.{without_own}
use Rattle.nearest_table.specs.Blocks.{IsCovered}
use Rattle.least_table.specs.Tables.{IsBitTable, half, longest_route, own}
use Rattle.least_table.proofs.Split.{lifted, longest_route-half, own_covers}
use Rattle.nearest_table.proofs.TreeEdits.{no_bare}

-- a block with a route is covered
pub held_covers : (w : ℕ) (t : List (List Bool × Option ℕ)) (o : Option (Option ℕ)) → o ≡ own t → is_some o ≡ true → IsBitTable w t → IsCovered true w t
held_covers w t None e f h = cc
held_covers w t (Some k) e f h = λ x l g. let n = own_covers w t x h g in cc

-- one without is if the routes strictly inside cover it
pub free_covers : (v : Bool) (w : ℕ) (t : List (List Bool × Option ℕ)) (o : Option (Option ℕ)) → o ≡ own t → is_some o ≡ false → IsCovered v w (without_own t) → IsCovered v w t
free_covers v w t o e f c = rw (no_bare t (grind (arith, e, f))) at c

-- an address of a half has a route exactly if it has one in the half or the whole block has one
pub half_free : (t : List (List Bool × Option ℕ)) (b : Bool) (x : List Bool) → own t ≡ None → longest_route (half t b) x ≡ None → longest_route t (b ∷ x) ≡ None
half_free t b x e f = longest_route-half t b x ∙ ap₂ (lifted b) e f

pub half_covered : (t : List (List Bool × Option ℕ)) (b : Bool) (x : List Bool) → longest_route t (b ∷ x) ≡ None → longest_route (half t b) x ≡ None
half_covered t b x e = grind (arith, longest_route-half t b x)
