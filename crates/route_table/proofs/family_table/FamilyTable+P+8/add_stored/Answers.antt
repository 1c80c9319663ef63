use Rattle.std.proofs.Common.{◌≡◌, ◌∙◌, [], sym, ap}
use Rattle.ipnet_blocks.specs.Networks.{block_of}
use Rattle.route_choices.specs.Choices.{choices_with, is_one_too_many}
use Rattle.route_choices.specs.Hops.{number_of}
use Rattle.route_laws.specs.Networks.{with_choices}
use Rattle.route_laws.proofs.Networks.{with_some}
use Rattle.route_table.proofs.Stores.{old_at, same_is_stored, same_side, stored_at_key, written_is_stored, written_number, written_side}
use Rattle.route_table.proofs.FamilyMap.{is_side}
use Rattle.route_table.proofs.family_table.FamilyTable+P+8.add_stored.Goals as goal

pub match_mut-choices-requires-clause-fits : goal.match_mut-choices-requires-clause-fits
match_mut-choices-requires-clause-fits g c = g.met.P.FamilyNet.always_fits c.args.net

pub match_mut-choices-requires-clause-stored : goal.match_mut-choices-requires-clause-stored
match_mut-choices-requires-clause-stored g c = stored_at_key (block_of g.P.FamilyNet.family (g.P.FamilyNet.parts c.args.net)) c.requires.block _ c.self.invariant.0 _ c.self.view_is _ _ c.prefix_len.ensures.value (g.met.P.FamilyNet.bits_are c.args.net) c.requires.stored

-- where the choice is refused
pub invariant_of-self : goal.invariant_of-self
invariant_of-self g c = (same_is_stored (block_of g.P.FamilyNet.family (g.P.FamilyNet.parts c.args.net)) c.requires.block _ c.self.invariant.0 _ c.self.view_is _ _ c.prefix_len.ensures.value (g.met.P.FamilyNet.bits_are c.args.net) _ _ c.match_mut-choices.ensures.value c.in-Err.ensures.unchanged, c.self.invariant.1, c.self.invariant.2, c.self.invariant.3)

pub returns-in-Err-clause-side : goal.returns-in-Err-clause-side
returns-in-Err-clause-side g c = is_side _ _ (invariant_of-self g c).0

pub returns-in-Err-clause-refused : goal.returns-in-Err-clause-refused
returns-in-Err-clause-refused g c = ap (λ cs. is_one_too_many cs c.args.hop) (old_at (block_of g.P.FamilyNet.family (g.P.FamilyNet.parts c.args.net)) c.requires.block _ c.self.invariant.0 _ c.self.view_is _ _ c.prefix_len.ensures.value (g.met.P.FamilyNet.bits_are c.args.net) _ c.add.new.self c.match_mut-choices.ensures.value) ∙ c.in-Err.ensures.full

pub returns-in-Err-clause-unchanged : goal.returns-in-Err-clause-unchanged
returns-in-Err-clause-unchanged g c = same_side (block_of g.P.FamilyNet.family (g.P.FamilyNet.parts c.args.net)) c.requires.block _ c.self.invariant.0 _ c.self.view_is _ _ c.prefix_len.ensures.value (g.met.P.FamilyNet.bits_are c.args.net) _ _ c.match_mut-choices.ensures.value c.in-Err.ensures.unchanged

-- where it is taken
pub invariant_of-self-2 : goal.invariant_of-self-2
invariant_of-self-2 g c =
    let some : c.add.new.self ≡ [] → ⊥ = λ z. with_some c.match_mut-choices.result.1.now (record { hop = c.args.hop; pref = c.args.pref }) (sym c.in_default.ensures.choices ∙ z) in
    (written_is_stored (block_of g.P.FamilyNet.family (g.P.FamilyNet.parts c.args.net)) c.requires.block _ c.self.invariant.0 _ c.self.view_is _ _ c.prefix_len.ensures.value (g.met.P.FamilyNet.bits_are c.args.net) _ _ c.match_mut-choices.ensures.value c.in_default.ensures.are some, c.self.invariant.1, c.self.invariant.2, c.self.invariant.3)

pub returns : goal.returns
returns g c =
    let b = block_of g.P.FamilyNet.family (g.P.FamilyNet.parts c.args.net) in
    let at = old_at (block_of g.P.FamilyNet.family (g.P.FamilyNet.parts c.args.net)) c.requires.block _ c.self.invariant.0 _ c.self.view_is _ _ c.prefix_len.ensures.value (g.met.P.FamilyNet.bits_are c.args.net) _ c.add.new.self c.match_mut-choices.ensures.value in
    let some : c.add.new.self ≡ [] → ⊥ = λ z. with_some c.match_mut-choices.result.1.now (record { hop = c.args.hop; pref = c.args.pref }) (sym c.in_default.ensures.choices ∙ z) in
    record {
      number = c.number.ensures.number ∙ (λ i. number_of ((c.best-best.ensures i).0)) ∙ written_number (block_of g.P.FamilyNet.family (g.P.FamilyNet.parts c.args.net)) c.requires.block _ c.self.invariant.0 _ c.self.view_is _ _ c.prefix_len.ensures.value (g.met.P.FamilyNet.bits_are c.args.net) _ _ c.match_mut-choices.ensures.value c.in_default.ensures.are some;
      networks = written_side (block_of g.P.FamilyNet.family (g.P.FamilyNet.parts c.args.net)) c.requires.block _ c.self.invariant.0 _ c.self.view_is _ _ c.prefix_len.ensures.value (g.met.P.FamilyNet.bits_are c.args.net) _ _ c.match_mut-choices.ensures.value c.in_default.ensures.are some
          ∙ ap (with_choices c.args.self.now b) (c.in_default.ensures.choices ∙ ap (λ cs. choices_with cs (record { hop = c.args.hop; pref = c.args.pref })) (sym at));
      room = ap (λ cs. is_one_too_many cs c.args.hop) at ∙ c.in_default.ensures.room;
      side = is_side _ _ (invariant_of-self-2 g c).0;
      refused = tt;
      unchanged = tt;
    }
