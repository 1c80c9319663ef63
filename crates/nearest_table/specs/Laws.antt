-- The theorems about nearest tables, as statements.
use Rattle.std.specs.Prelude.{◌≡◌, ℕ, ◌+◌, Bool, false, List, length, Option}
use Rattle.ipnet_blocks.specs.BitStrings.{begins}
use Rattle.least_table.specs.Orders.{IsInOrder}
use Rattle.least_table.specs.Nearest.{IsNearestTable}
use Rattle.least_table.specs.Tables.{IsBitTable, hop_inheriting, inner_of}
use Rattle.nearest_table.specs.Blocks.{inherited_hop, inner, put}
use Rattle.nearest_table.specs.Edits.{AreEdits}
use Rattle.nearest_table.specs.Plans.{Tree, IsPlan, edits_of, new_table}

-- If each address outside a block keeps its hop, a nearest table inside the block, in place of the routes there, makes a nearest table
-- of all. No route outside the block needs a change.
abbrev pub LocalLaw : Type 0
LocalLaw = (ds : List Bool) (v : ℕ) (h : List Bool → Option ℕ) (s : Option ℕ) (t u : List (List Bool × Option ℕ)) → IsBitTable (length ds + v) t →
    ((x : List Bool) → length x ≡ length ds + v → begins ds x ≡ false → h x ≡ hop_inheriting s t x) →
    IsNearestTable v (inner_of ds h) (inherited_hop ds s t) (inner ds t) u → IsNearestTable (length ds + v) h s t (put ds t u)

-- the table of a plan is a nearest one
abbrev pub PlansLaw : Type 0
PlansLaw = (w : ℕ) (h : List Bool → Option ℕ) (s : Option ℕ) (t : List (List Bool × Option ℕ)) (p : Tree) → IsBitTable w t → IsPlan w h t p → IsNearestTable w h s t (new_table p t s)

-- the edits of a plan are those between the installed routes and its table
abbrev pub EditsLaw : Type 0
EditsLaw = (w : ℕ) (h : List Bool → Option ℕ) (s : Option ℕ) (t : List (List Bool × Option ℕ)) (p : Tree) → IsBitTable w t → IsInOrder t → IsPlan w h t p → AreEdits t (new_table p t s) (edits_of p s)
