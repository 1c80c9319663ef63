use Rattle.std.proofs.Common.{◌≡◌, ◌∷◌, ◌++◌, ◌-◌, ◌+◌, Option, take, drop, length, sym, ap, ◌∙◌, subst}
use Rattle.route_choices.specs.Choices.{Choice, AreChoices, choices_with}
use Rattle.route_choices.specs.InnerSlots.{filled, padded}
use Rattle.route_choices.proofs.ChoiceLists.{full_without}
use Rattle.route_choices.proofs.Places.{below, no_given, no_room, one_given, put_are, put_filled, with_put}
use Rattle.route_choices.proofs.choices.Choices+8.add.Goals as goal

pub returns-then-is_some-clause-unchanged : goal.returns-then-is_some-clause-unchanged
returns-then-is_some-clause-unchanged c =
    let xs = c.self.inside.slots in
    let now = c.args.self.now in
    let new : Choice = record { hop = c.args.hop; pref = c.args.pref } in
    let v : filled xs ≡ c.remove.new.self = c.self.view_is in
    let some = one_given c.get.result (sym c.if-is_some.ensures) in
    c.remove.ensures.choices
    ∙ full_without now c.are_choices.ensures c.args.hop (no_room xs c.self.invariant.0 now c.are_choices.ensures new (v ∙ c.remove.ensures.choices) c.index-self-7.result some.0 (c.get.ensures ∙ some.1))

pub put-requires : goal.put-requires
put-requires c =
    let xs = c.self.inside.slots in
    let new : Choice = record { hop = c.args.hop; pref = c.args.pref } in
    let v : filled xs ≡ c.remove.new.self = c.self.view_is in
    let free = c.get.ensures ∙ no_given c.get.result (sym c.if-is_some.ensures) in
    below xs c.self.invariant.0 c.args.self.now c.are_choices.ensures new (v ∙ c.remove.ensures.choices) c.first_beaten-to.result c.first_beaten-to.ensures c.index-self-7.result free

pub returns-clause-choices : goal.returns-clause-choices
returns-clause-choices c =
    let xs = c.self.inside.slots in
    let k = c.first_beaten-to.result in
    let new : Choice = record { hop = c.args.hop; pref = c.args.pref } in
    let v : filled xs ≡ c.remove.new.self = c.self.view_is in
    let free = c.get.ensures ∙ no_given c.get.result (sym c.if-is_some.ensures) in
    ap filled (c.put.ensures ∙ ap (λ (s : Option Choice). take k xs ++ s ∷ take (length xs - (k + 1)) (drop k xs)) c.new.ensures.value)
    ∙ put_filled xs c.self.invariant.0 c.args.self.now c.are_choices.ensures new (v ∙ c.remove.ensures.choices) k c.first_beaten-to.ensures c.index-self-7.result free c.new.ensures.in_range c.ranges.pref.fits

pub invariant_of-self : goal.invariant_of-self
invariant_of-self c =
    let xs = c.self.inside.slots in
    let k = c.first_beaten-to.result in
    let new : Choice = record { hop = c.args.hop; pref = c.args.pref } in
    let v : filled xs ≡ c.remove.new.self = c.self.view_is in
    let free = c.get.ensures ∙ no_given c.get.result (sym c.if-is_some.ensures) in
    let is : filled c.put.new.slots ≡ choices_with c.args.self.now new = returns-clause-choices c in (
      c.put.ensures ∙ ap (λ (s : Option Choice). take k xs ++ s ∷ take (length xs - (k + 1)) (drop k xs)) c.new.ensures.value
          ∙ with_put xs c.self.invariant.0 c.args.self.now c.are_choices.ensures new (v ∙ c.remove.ensures.choices) k c.first_beaten-to.ensures c.index-self-7.result free ∙ ap (padded 8) (sym is),
      subst AreChoices (sym is) (put_are xs c.self.invariant.0 c.args.self.now c.are_choices.ensures new (v ∙ c.remove.ensures.choices) k c.first_beaten-to.ensures c.index-self-7.result free c.new.ensures.in_range c.ranges.pref.fits),
    )

pub returns-clause-are : goal.returns-clause-are
returns-clause-are c = (invariant_of-self c).1
