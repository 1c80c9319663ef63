-- The number of edits.
use Rattle.std.proofs.Common.{◌≡◌, ℕ, ◌+◌, List, [], ◌∷◌, Bool, length, Option, Some, None, refl, sym, arith, ap}
use Rattle.nearest_table.specs.Changed.{MakeNearest}
use Rattle.nearest_table.specs.Edits.{AreEdits, blocks, installed_in, removed_in}
use Rattle.least_table.specs.Nearest.{IsLeastDistance, distance, surplus_routes}
use Rattle.nearest_table.specs.Told.{told_hop}

counted : (es : List (List Bool × Option (Option ℕ))) → length es ≡ length (installed_in es) + length (removed_in es)
counted [] = refl
counted ((b, Some k) ∷ es) = omega (arith, counted es)
counted ((b, None) ∷ es) = omega (arith, counted es)

as_many : (t : List (List Bool × Option ℕ)) → length (blocks t) ≡ length t
as_many [] = refl
as_many (r ∷ t) = omega (arith, as_many t)

-- the number of edits is the distance of the table that they make
edits_are : (t u : List (List Bool × Option ℕ)) (es : List (List Bool × Option (Option ℕ))) → AreEdits t u es → length es ≡ distance t u
edits_are t u es a = omega (arith, counted es, ap length a.installs, ap length a.removes, as_many (surplus_routes t u))

-- and so the fewest
pub fewest : (w : ℕ) (cs t : List (List Bool × Option ℕ)) (es : List (List Bool × Option (Option ℕ))) → MakeNearest w cs t es
    → IsLeastDistance w (told_hop cs t) t None (length es)
fewest w cs t es made =
    let e = edits_are t made.table es made.edits in
    record {
      reached = (made.table, made.nearest.gives, sym e);
      least = λ v g. omega (arith, e, made.nearest.nearest v g);
    }
