-- The members of a set of hops.
use Rattle.std.specs.Prelude.{ℕ, List, [], ◌∷◌, Option}
use Rattle.least_table.specs.declared.hops.Hops.{Hops}
use Rattle.least_table.specs.declared.hops.Hops.TheVariants.{One, Two, Many}

abbrev pub members : Hops → List (Option ℕ)
members (One k) = k ∷ []
members (Two ks) = ks
members (Many ks) = ks.items
