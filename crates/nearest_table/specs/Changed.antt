-- The edits that changes of a table need.
use Rattle.std.specs.Prelude.{◌≡◌, ℕ, Bool, false, List, length, Option, None}
use Rattle.ipnet_blocks.specs.BitStrings.{begins}
use Rattle.least_table.specs.Orders.{IsInOrder}
use Rattle.least_table.specs.Tables.{longest_route}
use Rattle.nearest_table.specs.Edits.{AreEdits}
use Rattle.least_table.specs.Nearest.{IsNearestTable}
use Rattle.nearest_table.specs.Told.{told_hop}

-- no change contains an address outside the block
abbrev pub AreInside : ℕ → List Bool → List (List Bool × Option ℕ) → Type 0
AreInside w b cs = (x : List Bool) → length x ≡ w → begins b x ≡ false → longest_route cs x ≡ None

-- the edits are those between the table and a nearest one of all that have the hops after the changes
pub record MakeNearest (w : ℕ) (cs t : List (List Bool × Option ℕ)) (es : List (List Bool × Option (Option ℕ))) : Type 0 where
  pub table : List (List Bool × Option ℕ)
  pub nearest : IsNearestTable w (told_hop cs t) None t table
  pub order : IsInOrder table
  pub edits : AreEdits t table es
