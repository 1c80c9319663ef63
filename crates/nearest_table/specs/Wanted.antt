-- The best inherited hops of a block, as the code stores them.
use Rattle.std.specs.Prelude.{ℕ, List, Option, Some, None, ⊤}
use Rattle.std.specs.Borrow.{Bor}
use Rattle.least_table.specs.InnerHops.{members}
use Rattle.least_table.specs.InnerRising.{IsRising}
use Rattle.least_table.specs.BestHops.{Hops, Any, Of}
use Rattle.nearest_table.specs.declared.hops.Wanted.{Wanted}
use Rattle.nearest_table.specs.declared.hops.Wanted.TheVariants as wanted

-- the hops of a set
abbrev pub wanted_hops : Wanted → Hops
wanted_hops wanted.Any = Any
wanted_hops (wanted.These ks) = Of (members ks)

-- the hops of a borrowed list, or any hop if there is no list
abbrev pub hops_from : Option (Bor (List (Option ℕ))) → Hops
hops_from None = Any
hops_from (Some ks) = Of ks.now

-- the list ascends, if there is one
abbrev pub Rises : Hops → Type 0
Rises Any = ⊤
Rises (Of ks) = IsRising ks
