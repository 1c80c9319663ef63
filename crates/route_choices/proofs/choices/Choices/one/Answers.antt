use Rattle.std.proofs.Common.{◌≡◌, [], ◌∷◌, slice_set, rules, ap, sym, ◌∙◌, subst, arith}
use Rattle.route_choices.specs.Choices.{Choice, AreChoices}
use Rattle.route_choices.specs.InnerSlots.{filled, padded}
use Rattle.route_choices.proofs.Slots.{filled_padded, one_put}
use Rattle.route_choices.proofs.choices.Choices.one.Goals as goal

pub invariant_of-result : goal.invariant_of-result
invariant_of-result g c =
    let new : Choice = record { hop = c.args.hop; pref = c.args.pref } in
    let put : slice_set c.default-slots.result 0 c.new.result ≡ padded g.row.CAPACITY (new ∷ []) =
    ap (slice_set c.default-slots.result 0) c.new.ensures.value ∙ one_put g.row.CAPACITY c.default-slots.result new c.requires c.default-slots.ensures.long c.default-slots.ensures.at in
    let choices : filled (slice_set c.default-slots.result 0 c.new.result) ≡ new ∷ [] = ap filled put ∙ filled_padded g.row.CAPACITY (new ∷ []) (omega arith) in
    let are : AreChoices (new ∷ []) = search rules in
    (put ∙ ap (padded g.row.CAPACITY) (sym choices), subst AreChoices (sym choices) are)

pub returns-clause-choices : goal.returns-clause-choices
returns-clause-choices g c =
    let new : Choice = record { hop = c.args.hop; pref = c.args.pref } in
    ap (λ xs. filled (slice_set c.default-slots.result 0 xs)) c.new.ensures.value
    ∙ ap filled (one_put g.row.CAPACITY c.default-slots.result new c.requires c.default-slots.ensures.long c.default-slots.ensures.at)
    ∙ filled_padded g.row.CAPACITY (new ∷ []) (omega arith)

pub returns-clause-are : goal.returns-clause-are
returns-clause-are g c = (invariant_of-result g c).1
