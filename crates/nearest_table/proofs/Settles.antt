-- The edits of a block and of its halves are those of its plan.
use Rattle.std.proofs.Common.{◌≡◌, ℕ, Bool, true, false, List, [], ◌∷◌, ◌++◌, Option, append_assoc, append-nil, arith}
use Rattle.least_table.specs.BestHops.{Hops, passed_on}
use Rattle.least_table.specs.Tables.{within}
use Rattle.nearest_table.specs.Plans.{Tree, Fork, edits_of}
use Rattle.nearest_table.specs.Settled.{settled}
use Rattle.least_table.proofs.LeastPlans.{within-halves}

pub carried_fork : (b b0 b1 : List Bool) (hops h : Hops) (l r : Tree) (s k : Option ℕ) (t0 t1 t2 t3 : List (List Bool × Option (Option ℕ)))
    → h ≡ hops → k ≡ passed_on h s → b0 ≡ b ++ false ∷ [] → b1 ≡ b ++ true ∷ []
    → t1 ≡ t0 ++ settled b h s → t2 ≡ t1 ++ within b0 (edits_of l k) → t3 ≡ t2 ++ within b1 (edits_of r k)
    → t3 ≡ t0 ++ within b (edits_of (Fork hops l r) s)
carried_fork b b0 b1 hops h l r s k t0 t1 t2 t3 eh ek e0 e1 f1 f2 f3 = grind (arith, within-halves b (edits_of l k) (edits_of r k), append_assoc, append-nil b)
