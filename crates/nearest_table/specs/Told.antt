-- The hops after changes. The changes are a table too: the hop of an address is that of the longest change that contains it. If there is
-- no such change, the hop stays.
use Rattle.std.specs.Prelude.{ℕ, Bool, List, Option, None}
use Rattle.least_table.specs.Tables.{hop_inheriting, passed}

-- the hop of x after the changes cs of the table t
abbrev pub told_hop : List (List Bool × Option ℕ) → List (List Bool × Option ℕ) → List Bool → Option ℕ
told_hop cs t x = hop_inheriting (hop_inheriting None t x) cs x

-- the same inside a block that inherits `old`, if the longest change around it tells `told`, or there is none
abbrev pub new_hop : Option (Option ℕ) → Option ℕ → List (List Bool × Option ℕ) → List (List Bool × Option ℕ) → List Bool → Option ℕ
new_hop told old cs t x = hop_inheriting (passed (hop_inheriting old t x) told) cs x
