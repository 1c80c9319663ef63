use Rattle.trie_core.proofs.walk.FrameWalk.over.Goals as goal

pub invariant_of-result : goal.invariant_of-result
invariant_of-result g c = c.requires
