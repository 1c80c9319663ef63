use Rattle.hop_index.specs.InnerNodes.{Leads}
use Rattle.hop_index.proofs.lookups.Lookups.find.Given as goal

abbrev pub invariant-loop : goal.invariant-loop
invariant-loop g l = Leads l.self.nodes l.self.ranges (g.N.Key.number l.number) l.entry
