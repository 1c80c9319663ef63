use Rattle.std.proofs.Common.{◌≡◌, ℕ, Bool, true, false, not, is_some, List, ◌∷◌, Option, Some, None, sym, ap, ◌∙◌, subst}
use Rattle.route_choices.specs.Choices.{AreChoices, Choice, choices_without, has_none}
use Rattle.route_choices.specs.Items.{GivesChoice}
use Rattle.route_choices.specs.declared.hop.Hop.{Hop}
use Rattle.route_choices.proofs.ChoiceLists.{without_first}
use Rattle.route_choices.proofs.Preferences.{hop_from_test}
use Rattle.route_choices.proofs.choices.Choices.has_no_other.Goals as goal

-- whether the iterator ended
ended : (left later : List Choice) (item : Option (Hop × ℕ)) (none : Bool) → GivesChoice left item later → is_some item ≡ not none → none ≡ has_none left
ended left later None true gives e = sym (ap has_none gives.0)
ended left later None false gives e = absurd (cc)
ended left later (Some choice) true gives e = absurd (cc)
ended left later (Some choice) false gives e = sym (ap has_none gives)

pub returns-then-is_same : goal.returns-then-is_same
returns-then-is_same g c =
    let first : Choice = record { hop = c.in-Some.first; pref = c.in-Some.field-0-1 } in
    let is : c.args.self.now ≡ first ∷ c.next.new.self = sym c.all-all.ensures ∙ c.in-Some.ensures.steps in
    let same = hop_from_test c.in-Some.first c.args.hop (sym c.is_same.ensures ∙ c.if-is_same.true) in
    let left = ap (λ cs. choices_without cs c.args.hop) is ∙ without_first first c.next.new.self c.args.hop (subst AreChoices is c.are_choices.ensures) same in
    ended c.next.new.self c.next-then-is_same.new.self c.next-then-is_same.result c.is_none.result c.next-then-is_same.ensures.steps c.is_none.ensures ∙ ap has_none (sym left)
