use Rattle.std.proofs.Common.{◌+◌, ◌*◌, length}
use Rattle.trie_core.proofs.node.+remove_keep_tree.Given as goal

abbrev pub decreases-Node::remove_keep_tree : goal.decreases-Node::remove_keep_tree
decreases-Node::remove_keep_tree g l = 2 * length l.path + 1

abbrev pub decreases-Branch::remove_keep_tree : goal.decreases-Branch::remove_keep_tree
decreases-Branch::remove_keep_tree g l = 2 * length l.path
