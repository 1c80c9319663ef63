use Rattle.hop_index.specs.InnerNodes.{AllLead}
use Rattle.hop_index.proofs.batches.follow.Given as goal

abbrev pub invariant-loop-at : goal.invariant-loop-at
invariant-loop-at g l = AllLead l.sides.v4 l.sides.v6 g.A.Addressed.address l.addrs l.entries
