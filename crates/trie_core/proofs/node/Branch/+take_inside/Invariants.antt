use Rattle.std.proofs.Common.{◌-◌, length}
use Rattle.trie_core.proofs.node.Branch.+take_inside.Given as goal

abbrev pub decreases-take_inside : goal.decreases-take_inside
decreases-take_inside g l = 5 - length l.path.now
