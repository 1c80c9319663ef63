use Rattle.std.proofs.Common.{◌≡◌, take}
use Rattle.short_vec.specs.Lists.{short_items}
use Rattle.trie_core.proofs.node.+copy.Given as goal

abbrev pub invariant-Branch::try_clone-loop-child : goal.invariant-Branch::try_clone-loop-child
invariant-Branch::try_clone-loop-child g l = short_items l.children ≡ take l.child-index l.child-items
