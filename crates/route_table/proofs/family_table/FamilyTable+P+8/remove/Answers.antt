use Rattle.std.proofs.Common.{◌≡◌, true, List, [], ◌∷◌, refl, sym, ap, ◌∙◌, subst}
use Rattle.ipnet_addr.proofs.Members.{In}
use Rattle.ipnet_blocks.specs.Networks.{block_of}
use Rattle.route_choices.specs.Choices.{Choice, choices_without, has_none, holds_hop}
use Rattle.route_choices.specs.Hops.{number_of}
use Rattle.route_choices.proofs.ChoiceLists.{only_held}
use Rattle.route_laws.specs.Networks.{with_choices}
use Rattle.route_laws.proofs.Networks.{del_none}
use Rattle.route_table.specs.InnerFamilyTables.{RemovesFrom}
use Rattle.route_table.proofs.FamilyMap.{seen_side}
use Rattle.route_table.proofs.Searches.{number_of_own, at_key}
use Rattle.route_table.proofs.Stores.{taken_is_stored, taken_side}
use Rattle.route_table.proofs.family_table.FamilyTable+P+8.remove.Goals as goal

-- where the network is not stored
pub returns-in_err-choices : goal.returns-in_err-choices
returns-in_err-choices g c =
    let T = c.args.self.now in
    let b = block_of g.P.FamilyNet.family (g.P.FamilyNet.parts c.args.net) in
    let side = seen_side _ _ c.self.invariant.0 _ c.self.view_is in
    let none = at_key _ c.requires _ c.self.invariant.0 _ c.self.view_is _ (g.met.P.FamilyNet.bits_are c.args.net) _ c.in_err-choices.ensures in
    let networks = sym (del_none T b c.args.hop side.table c.requires (λ d i. absurd (subst (λ (cs : List Choice). In d cs) none i))) in
    record {
      removes = subst (λ r. RemovesFrom T b c.args.hop r T) (sym c.from_residual.ensures) (record { held = sym (ap (λ cs. holds_hop cs c.args.hop) none); hops = tt; networks = networks });
      side = side;
    }

-- where it has no other hop: the network goes
empty : (cs : List Choice) → has_none cs ≡ true → cs ≡ []
empty [] e = refl
empty (c ∷ cs) e = absurd (cc)

pub invariant_of-self : goal.invariant_of-self
invariant_of-self g c = (taken_is_stored _ c.requires _ c.self.invariant.0 _ c.self.view_is _ _ (g.met.P.FamilyNet.bits_are c.args.net) c.remove.ensures.map, c.remove.ensures.tidy c.self.invariant.1, c.self.invariant.2, c.self.invariant.3)

pub returns-then-has_no_other : goal.returns-then-has_no_other
returns-then-has_no_other g c =
    let b = block_of g.P.FamilyNet.family (g.P.FamilyNet.parts c.args.net) in
    let was = at_key _ c.requires _ c.self.invariant.0 _ c.self.view_is _ (g.met.P.FamilyNet.bits_are c.args.net) _ c.in_ok-choices.ensures in
    let left = empty _ (sym c.has_no_other.ensures ∙ c.if-has_no_other.true) in
    record {
      removes = record {
        held = sym {b = true} (ap (λ cs. holds_hop cs c.args.hop) was ∙ only_held c.in_ok-choices.choices.now c.args.hop (c.self.invariant.0.some _ _ (sym c.in_ok-choices.ensures)) left);
        hops = (c.number-before.ensures.number ∙ (λ i. number_of ((c.best-best.ensures i).0)) ∙ number_of_own _ c.requires _ c.self.invariant.0 _ c.self.view_is _ (g.met.P.FamilyNet.bits_are c.args.net) _ c.in_ok-choices.ensures, c.hop_at_match-after.ensures.number);
        networks = taken_side b c.requires _ c.self.invariant.0 _ c.self.view_is _ _ (g.met.P.FamilyNet.bits_are c.args.net) c.remove.ensures.map
            ∙ ap (with_choices c.args.self.now b) (sym (ap (λ cs. choices_without cs c.args.hop) was ∙ left));
      };
      side = c.hop_at_match-after.ensures.side;
    }

-- where it has another hop
pub remove_stored-requires-clause-others : goal.remove_stored-requires-clause-others
remove_stored-requires-clause-others g c none =
    let was = at_key _ c.requires _ c.self.invariant.0 _ c.self.view_is _ (g.met.P.FamilyNet.bits_are c.args.net) _ c.in_ok-choices.ensures in
    let other = sym c.if-has_no_other.false ∙ c.has_no_other.ensures ∙ ap (λ cs. has_none (choices_without cs c.args.hop)) (sym was) ∙ ap has_none none in
    cc

pub returns : goal.returns
returns g c = record {
  removes = record {
    held = c.in_ok-after.ensures.held;
    hops = (c.number-before.ensures.number ∙ (λ i. number_of ((c.best-best.ensures i).0)) ∙ number_of_own _ c.requires _ c.self.invariant.0 _ c.self.view_is _ (g.met.P.FamilyNet.bits_are c.args.net) _ c.in_ok-choices.ensures, c.in_ok-after.ensures.number);
    networks = c.in_ok-after.ensures.networks;
  };
  side = c.in_ok-after.ensures.side;
}
