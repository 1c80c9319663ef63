use Rattle.std.proofs.Common.{◌≡◌, drop}
use Rattle.std.specs.Vec.Iter.{into_iter_items}
use Rattle.trie_core.proofs.owned_frame.without_first.Given as goal

abbrev pub invariant-item : goal.invariant-item
invariant-item g l = into_iter_items l.items ≡ drop l.counter (into_iter_items l.initial.items)
