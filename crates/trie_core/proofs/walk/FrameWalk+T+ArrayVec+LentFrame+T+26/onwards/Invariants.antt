use Rattle.std.proofs.Common.{length}
use Rattle.trie_core.proofs.Trails.{IsGoingOn}
use Rattle.trie_core.proofs.walk.FrameWalk+T+ArrayVec+LentFrame+T+26.onwards.Given as goal

abbrev pub invariant-way : goal.invariant-way
invariant-way g l = IsGoingOn l.fn.node l.node l.fn.path l.path l.trail l.fn.inclusive l.stack.items

abbrev pub decreases-way : goal.decreases-way
decreases-way g l = length l.path
