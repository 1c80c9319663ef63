-- The items that an owned list still has.
use Rattle.std.specs.Prelude.{List, [], Option, Some, None}
use Rattle.std.specs.declared.vec.IntoIter.{IntoIter}
use Rattle.std.specs.Vec.Iter.{into_iter_items}

abbrev pub held : {X Z : Type 0} → Option (IntoIter X Z) → List X
held None = []
held (Some it) = into_iter_items it
