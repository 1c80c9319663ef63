use Rattle.std.proofs.Common.{◌≡◌, ◌<◌, false, sym, ap, ◌∙◌, subst, List, length, arith}
use Rattle.std.proofs.lemmas.Bool.Decides.{nat_tests}
use Rattle.route_choices.specs.Choices.{AreChoices, Choice, choices_without, holds_hop}
use Rattle.route_choices.specs.InnerSlots.{filled, padded}
use Rattle.route_choices.specs.declared.hop.Hop.{Hop}
use Rattle.route_choices.proofs.ChoiceLists.{without_are}
use Rattle.route_choices.proofs.Places.{at_free, at_taken, beyond, held_here, left_here, no_given, not_held_here, one_given, same_here, without_here}
use Rattle.route_choices.proofs.choices.Choices.remove.Goals as goal

-- what is seen of choices among which the hop is not
unchanged : (cs seen : List Choice) (hop : Hop) → cs ≡ seen → AreChoices cs → holds_hop cs hop ≡ false → choices_without cs hop ≡ cs → (false ≡ holds_hop seen hop) × (seen ≡ choices_without seen hop) × AreChoices seen
unchanged cs seen hop v are none same = (sym none ∙ ap (λ ds. holds_hop ds hop) v, sym v ∙ sym same ∙ ap (λ ds. choices_without ds hop) v, subst AreChoices v are)

pub returns-in_default : goal.returns-in_default
returns-in_default g c =
    let xs = c.self.inside.slots in let full = c.self.invariant.0 in let are = c.self.invariant.1 in
    let test = c.in_default.ensures.lookup.0 in
    let past = beyond g.row.CAPACITY xs full c.place-at.result (grind (arith, nat_tests, test)) in
    let same = unchanged (filled xs) c.args.self.now c.args.hop c.self.view_is are (not_held_here g.row.CAPACITY xs full are c.args.hop c.place-at.result c.place-at.ensures past) (same_here g.row.CAPACITY xs full are c.args.hop c.place-at.result c.place-at.ensures past) in
    record { held = same.0; choices = same.1; are = same.2 }

pub returns-then-is_none : goal.returns-then-is_none
returns-then-is_none g c =
    let xs = c.self.inside.slots in let full = c.self.invariant.0 in let are = c.self.invariant.1 in
    let look = c.in-Some.ensures.lookup in let test = look.0 in
    let l : c.place-at.result < length xs = grind (arith, nat_tests, test) in
    let past = at_free g.row.CAPACITY xs full c.place-at.result c.in-Some.slot.now l (sym look.1 ∙ c.get-2.ensures ∙ no_given c.get-2.result c.if-is_none.ensures) in
    let same = unchanged (filled xs) c.args.self.now c.args.hop c.self.view_is are (not_held_here g.row.CAPACITY xs full are c.args.hop c.place-at.result c.place-at.ensures past) (same_here g.row.CAPACITY xs full are c.args.hop c.place-at.result c.place-at.ensures past) in
    record { held = same.0; choices = same.1; are = same.2 }

pub invariant_of-self : goal.invariant_of-self
invariant_of-self g c =
    let xs = c.self.inside.slots in let full = c.self.invariant.0 in let are = c.self.invariant.1 in
    let look = c.in-Some.ensures.lookup in let test = look.0 in
    let l : c.place-at.result < length xs = grind (arith, nat_tests, test) in
    let some = one_given c.get-2.result c.if-is_none.ensures in
    let m = at_taken g.row.CAPACITY xs full c.place-at.result c.in-Some.slot.now some.0 l (sym look.1 ∙ c.get-2.ensures ∙ some.1) in
    let left : filled c.take_out.new.slots ≡ choices_without (filled xs) c.args.hop = ap filled c.take_out.ensures ∙ left_here g.row.CAPACITY xs full are c.args.hop c.place-at.result c.place-at.ensures m in (
      c.take_out.ensures ∙ without_here g.row.CAPACITY xs full are c.args.hop c.place-at.result c.place-at.ensures m ∙ ap (padded g.row.CAPACITY) (sym left),
      subst AreChoices (sym left) (without_are (filled xs) are c.args.hop),
    )

pub returns : goal.returns
returns g c =
    let xs = c.self.inside.slots in let v : filled xs ≡ c.args.self.now = c.self.view_is in
    let look = c.in-Some.ensures.lookup in let test = look.0 in
    let some = one_given c.get-2.result c.if-is_none.ensures in
    let m = at_taken g.row.CAPACITY xs c.self.invariant.0 c.place-at.result c.in-Some.slot.now some.0 (grind (arith, nat_tests, test)) (sym look.1 ∙ c.get-2.ensures ∙ some.1) in
    record {
      held = sym (held_here g.row.CAPACITY xs c.self.invariant.0 c.self.invariant.1 c.args.hop c.place-at.result c.place-at.ensures m) ∙ ap (λ cs. holds_hop cs c.args.hop) v;
      choices = ap filled c.take_out.ensures ∙ left_here g.row.CAPACITY xs c.self.invariant.0 c.self.invariant.1 c.args.hop c.place-at.result c.place-at.ensures m ∙ ap (λ cs. choices_without cs c.args.hop) v;
      are = (invariant_of-self g c).1;
    }
