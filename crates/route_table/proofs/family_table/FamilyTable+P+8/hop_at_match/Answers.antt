use Rattle.std.proofs.Common.{◌∙◌, nat_eq, ap}
use Rattle.route_choices.specs.Hops.{number_of}
use Rattle.route_table.proofs.FamilyMap.{seen_side}
use Rattle.route_table.proofs.Searches.{nothing_found, found_number, found_itself}
use Rattle.route_table.proofs.family_table.FamilyTable+P+8.hop_at_match.Goals as goal

pub longest_match-requires : goal.longest_match-requires
longest_match-requires g c = g.met.P.FamilyNet.always_fits c.args.net

pub returns-in-None : goal.returns-in-None
returns-in-None g c =
    let found = nothing_found _ c.requires _ c.self.invariant.0 _ c.self.view_is _ (g.met.P.FamilyNet.bits_are c.args.net) c.in-None.ensures in
    record { number = found.0; stored = found.1; side = seen_side _ _ c.self.invariant.0 _ c.self.view_is }

pub returns-in-Some : goal.returns-in-Some
returns-in-Some g c = record {
  number = c.number.ensures.number ∙ (λ i. number_of ((c.best-hop.ensures i).0))
      ∙ found_number _ c.requires _ c.self.invariant.0 _ c.self.view_is _ (g.met.P.FamilyNet.bits_are c.args.net) _ _ c.in-Some.ensures;
  stored = ap (nat_eq c.in-Some.len) c.prefix_len.ensures.value
      ∙ found_itself _ c.requires _ c.self.invariant.0 _ c.self.view_is _ (g.met.P.FamilyNet.bits_are c.args.net) _ _ c.in-Some.ensures;
  side = seen_side _ _ c.self.invariant.0 _ c.self.view_is;
}
