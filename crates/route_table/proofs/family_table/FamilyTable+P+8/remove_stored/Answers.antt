use Rattle.std.proofs.Common.{◌≡◌, [], sym, ap, ◌∙◌}
use Rattle.ipnet_blocks.specs.Networks.{block_of}
use Rattle.route_choices.specs.Choices.{choices_without, holds_hop}
use Rattle.route_choices.specs.Hops.{number_of}
use Rattle.route_laws.specs.Networks.{with_choices}
use Rattle.route_table.proofs.FamilyMap.{is_side}
use Rattle.route_table.proofs.Stores.{old_at, stored_at_key, written_is_stored, written_number, written_side}
use Rattle.route_table.proofs.Outcomes.{if_then_some, some_if}
use Rattle.route_table.proofs.family_table.FamilyTable+P+8.remove_stored.Goals as goal

pub match_mut-choices-requires-clause-stored : goal.match_mut-choices-requires-clause-stored
match_mut-choices-requires-clause-stored g c = stored_at_key (block_of g.P.FamilyNet.family (g.P.FamilyNet.parts c.args.net)) c.requires.block _ c.self.invariant.0 _ c.self.view_is _ _ c.prefix_len.ensures.value (g.met.P.FamilyNet.bits_are c.args.net) (λ none. c.requires.others (ap (λ cs. choices_without cs c.args.hop) none))

pub invariant_of-self : goal.invariant_of-self
invariant_of-self g c =
    let was = old_at (block_of g.P.FamilyNet.family (g.P.FamilyNet.parts c.args.net)) c.requires.block _ c.self.invariant.0 _ c.self.view_is _ _ c.prefix_len.ensures.value (g.met.P.FamilyNet.bits_are c.args.net) _ c.remove-held.new.self c.match_mut-choices.ensures.value in
    let some : c.remove-held.new.self ≡ [] → ⊥ = λ none. c.requires.others (ap (λ cs. choices_without cs c.args.hop) was ∙ sym c.remove-held.ensures.choices ∙ none) in
    (written_is_stored (block_of g.P.FamilyNet.family (g.P.FamilyNet.parts c.args.net)) c.requires.block _ c.self.invariant.0 _ c.self.view_is _ _ c.prefix_len.ensures.value (g.met.P.FamilyNet.bits_are c.args.net) _ _ c.match_mut-choices.ensures.value c.remove-held.ensures.are some, c.self.invariant.1, c.self.invariant.2, c.self.invariant.3)

pub returns : goal.returns
returns g c =
    let b = block_of g.P.FamilyNet.family (g.P.FamilyNet.parts c.args.net) in
    let was = old_at (block_of g.P.FamilyNet.family (g.P.FamilyNet.parts c.args.net)) c.requires.block _ c.self.invariant.0 _ c.self.view_is _ _ c.prefix_len.ensures.value (g.met.P.FamilyNet.bits_are c.args.net) _ c.remove-held.new.self c.match_mut-choices.ensures.value in
    let left = c.remove-held.ensures.choices ∙ ap (λ cs. choices_without cs c.args.hop) (sym was) in
    let some : c.remove-held.new.self ≡ [] → ⊥ = λ none. c.requires.others (sym left ∙ none) in
    record {
      held = some_if c.remove-held.result c.number.result c.then_some.result c.then_some.ensures ∙ c.remove-held.ensures.held ∙ ap (λ cs. holds_hop cs c.args.hop) (sym was);
      number = if_then_some _ c.remove-held.result c.number.result c.then_some.result c.then_some.ensures
          (c.number.ensures.number ∙ (λ i. number_of ((c.best-best.ensures i).0)) ∙ written_number (block_of g.P.FamilyNet.family (g.P.FamilyNet.parts c.args.net)) c.requires.block _ c.self.invariant.0 _ c.self.view_is _ _ c.prefix_len.ensures.value (g.met.P.FamilyNet.bits_are c.args.net) _ _ c.match_mut-choices.ensures.value c.remove-held.ensures.are some);
      networks = written_side (block_of g.P.FamilyNet.family (g.P.FamilyNet.parts c.args.net)) c.requires.block _ c.self.invariant.0 _ c.self.view_is _ _ c.prefix_len.ensures.value (g.met.P.FamilyNet.bits_are c.args.net) _ _ c.match_mut-choices.ensures.value c.remove-held.ensures.are some ∙ ap (with_choices c.args.self.now b) left;
      side = is_side _ _ (invariant_of-self g c).0;
    }
