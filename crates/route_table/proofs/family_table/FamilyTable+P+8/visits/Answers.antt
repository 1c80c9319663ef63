use Rattle.std.proofs.Common.{◌∙◌, arith}
use Rattle.trie_core.specs.Count.{visit_count}
use Rattle.route_table.proofs.Searches.{map_is}
use Rattle.route_table.proofs.Gaps.{length_of_bits}
use Rattle.route_table.proofs.family_table.FamilyTable+P+8.visits.Goals as goal

pub get_lpm_visits-requires : goal.get_lpm_visits-requires
get_lpm_visits-requires g c = g.met.P.FamilyNet.always_fits c.args.net

pub returns : goal.returns
returns g c = record {
  visits = c.get_lpm_visits.ensures.tidy c.self.invariant.1 ∙ (λ i. visit_count (map_is _ _ c.self.invariant.0 _ c.self.view_is i) (g.met.P.FamilyNet.bits_are c.args.net i));
  bound = omega (arith, c.get_lpm_visits.ensures.visits, length_of_bits _ (g.P.FamilyNet.parts c.args.net) _ (g.met.P.FamilyNet.bits_are c.args.net));
}
