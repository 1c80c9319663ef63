use Rattle.std.proofs.Common.{Option, None, ap, sym, ◌∙◌, length, arith}
use Rattle.std.proofs.lemmas.List.Sums.{position_or_len_is}
use Rattle.route_choices.specs.Choices.{Choice}
use Rattle.route_choices.specs.InnerSlots.{ends_at}
use Rattle.route_choices.proofs.choices.place.Goals as goal

pub returns-then-ends_at : goal.returns-then-ends_at
returns-then-ends_at c =
    let l = c.loop-i-test.true in
    sym (position_or_len_is (ends_at c.args.hop) c.args.slots.now c.loop-i.i c.index-slots-i.result (omega arith) (λ k m. c.loop-i.invariant k c.index-slots-i.result m)
    (λ m. ap (ends_at c.args.hop) (sym c.index-slots-i.is) ∙ sym c.ends_at.ensures ∙ c.if-ends_at.true))

pub returns : goal.returns
returns c =
    let none : Option Choice = None in
    let end = c.loop-i-test.false in
    sym (position_or_len_is (ends_at c.args.hop) c.args.slots.now (length c.args.slots.now) none (omega arith) (λ k m. c.loop-i.invariant k none (omega arith)) (λ m. absurd (omega arith)))
