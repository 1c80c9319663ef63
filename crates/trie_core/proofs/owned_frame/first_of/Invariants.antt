use Rattle.std.proofs.Common.{◌≡◌, ◌≤◌, take, length}
use Rattle.std.specs.Vec.Iter.{into_iter_items, into_iter_len}
use Rattle.trie_core.proofs.owned_frame.first_of.Given as goal

abbrev pub invariant-item : goal.invariant-item
invariant-item g l = record {
  front : take l.count (into_iter_items l.items) ≡ take l.count (into_iter_items l.initial.items);
  enough : l.count ≤ length (into_iter_items l.items);
}

abbrev pub decreases-item : goal.decreases-item
decreases-item g l = into_iter_len l.items
