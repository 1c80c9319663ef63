use Rattle.std.proofs.Common.{◌≡◌, ◌+◌, ◌++◌}
use Rattle.std.specs.Vec.Iter.{into_iter_items, into_iter_len}
use Rattle.std_alloc.specs.Vec.{vec_len, vec_capacity}
use Rattle.short_vec.proofs.methods.moved.Given as goal

-- the items that were moved come first in the list of all
abbrev pub invariant-item : goal.invariant-item
invariant-item g l =
    (l.fn.list.items ≡ l.larger.items ++ into_iter_items l.rest) × (vec_len l.fn.list ≡ vec_len l.larger + into_iter_len l.rest)
    × (vec_capacity l.larger ≡ vec_capacity l.fn.larger)

abbrev pub decreases-item : goal.decreases-item
decreases-item g l = into_iter_len l.rest
