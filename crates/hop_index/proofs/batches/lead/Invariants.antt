use Rattle.std.proofs.Common.{length}
use Rattle.hop_index.specs.InnerNodes.{AllLead, ArePlaces}
use Rattle.hop_index.proofs.batches.lead.Given as goal

abbrev pub invariant-loop : goal.invariant-loop
invariant-loop g l = record { nodes : ArePlaces (length l.addrs) l.count l.nodes; leads : AllLead l.sides.v4 l.sides.v6 g.A.Addressed.address l.addrs l.entries }
