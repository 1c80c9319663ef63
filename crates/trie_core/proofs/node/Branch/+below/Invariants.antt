use Rattle.std.proofs.Common.{◌+◌, ◌*◌, length}
use Rattle.trie_core.proofs.node.Branch.+below.Given as goal

abbrev pub decreases-store_below : goal.decreases-store_below
decreases-store_below g l = 2 * l.len

abbrev pub decreases-filled : goal.decreases-filled
decreases-filled g l = 2 * length l.path + 1
