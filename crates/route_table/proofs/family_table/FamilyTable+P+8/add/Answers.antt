use Rattle.std.proofs.Common.{◌∙◌, ◌∷◌, [], true≢false, sym, ap}
use Rattle.ipnet_blocks.specs.Networks.{block_of}
use Rattle.route_choices.specs.Choices.{Choice, choices_with, is_one_too_many}
use Rattle.route_choices.proofs.ChoiceLists.{one_is}
use Rattle.route_laws.specs.Networks.{routes_of, with_choices}
use Rattle.route_laws.specs.Tables.{match_of, match_number}
use Rattle.route_laws.proofs.Networks.{number_of_choices}
use Rattle.route_table.proofs.Searches.{none_there, some_there}
use Rattle.route_table.proofs.family_table.FamilyTable+P+8.add.Goals as goal

pub add_stored-requires-clause-stored : goal.add_stored-requires-clause-stored
add_stored-requires-clause-stored g c = some_there _ _ c.hop_at_match-before.ensures.stored c.if-is_stored.true

pub returns-then-is_stored : goal.returns-then-is_stored
returns-then-is_stored g c = record {
  adds = record {
    hops = (c.hop_at_match-before.ensures.number, c.in_ok-after.ensures.number);
    leaf = (λ t. absurd (true≢false (sym t)), λ new. absurd (some_there _ _ c.hop_at_match-before.ensures.stored c.if-is_stored.true new.0));
    networks = c.in_ok-after.ensures.networks;
    room = c.in_ok-after.ensures.room;
    refused = tt;
    unchanged = tt;
  };
  side = c.in_ok-after.ensures.side;
}

pub returns-in-Ok : goal.returns-in-Ok
returns-in-Ok g c =
    let b = block_of g.P.FamilyNet.family (g.P.FamilyNet.parts c.args.net) in
    let one : Choice = record { hop = c.args.hop; pref = c.args.pref } in
    let none = none_there _ _ c.hop_at_match-before.ensures.stored c.if-is_stored.false in
    let after = number_of_choices c.args.self.now c.hop_at_match-before.ensures.side.table b c.requires (one ∷ []) (one_is one c.number.ensures.in_range c.ranges.pref.fits) (λ e. cc) in
    record {
      adds = record {
        hops = (c.hop_at_match-before.ensures.number, c.number.ensures.number ∙ after ∙ ap (λ T. match_number (match_of (routes_of T) b)) (sym c.in-Ok.ensures.networks));
        leaf = (λ t. (none, c.in-Ok.ensures.leaf.0 t), λ new. c.in-Ok.ensures.leaf.1 new.1);
        networks = c.in-Ok.ensures.networks ∙ ap (λ cs. with_choices c.args.self.now b (choices_with cs one)) (sym none);
        room = ap (λ cs. is_one_too_many cs c.args.hop) none;
        refused = tt;
        unchanged = tt;
      };
      side = c.in-Ok.ensures.side;
    }
