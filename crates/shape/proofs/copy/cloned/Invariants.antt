use Rattle.std.proofs.Common.{◌≡◌, take}
use Rattle.short_vec.specs.Lists.{short_items}
use Rattle.shape.proofs.copy.cloned.Given as goal

abbrev pub invariant-loop-item : goal.invariant-loop-item
invariant-loop-item g l = short_items l.clones ≡ take l.item-index l.items
