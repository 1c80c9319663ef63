use Rattle.std.proofs.Common.{length}
use Rattle.trie_core.proofs.Walks.{IsOnWay}
use Rattle.trie_core.proofs.walk.FrameWalk.within.Given as goal

abbrev pub invariant-way : goal.invariant-way
invariant-way g l = IsOnWay (g.S.Frame.Frame.seen l.fn.node) (g.S.Frame.Frame.seen l.node) l.fn.path l.path l.trail

abbrev pub decreases-way : goal.decreases-way
decreases-way g l = length l.path
