use Rattle.hop_index.specs.Indexes.{hop_of}
use Rattle.hop_index.specs.InnerNodes.{AreFound, index_of}
use Rattle.hop_index.proofs.batches.find.Given as goal

abbrev pub invariant-loop-at : goal.invariant-loop-at
invariant-loop-at g l = AreFound (λ addr. g.H.FromHop.of_hop (hop_of (index_of l.sides.v4 l.sides.v6) (g.A.Addressed.address addr))) l.addrs l.places l.at l.hops
