use Rattle.std.proofs.Common.{rules, ◌≡◌, ◌-◌, ◌<◌, sym, refl, ap, ◌∙◌, arith, subst}
use Rattle.route_table.specs.declared.runs.Runs.{Runs}
use Rattle.route_table.specs.InnerRouteSpans.{RouteSpan}
use Rattle.route_laws.proofs.Alterations.{same_from_test}
use Rattle.route_table.specs.InnerRunning.{StepsRun, joined, step_of}
use Rattle.route_table.proofs.Paints.{tests_same}
use Rattle.route_table.proofs.Shortcuts.{passed_over}
use Rattle.route_table.proofs.RunSteps.{approaches, begins_from}
use Rattle.route_table.proofs.runs.Runs.begin.Goals as goal

pub returns-then-number : goal.returns-then-number
returns-then-number g c =
    let w = c.args.self.now in
    let v : Runs g.row.P.Denot g.row.P-R.Denot = record w { at = c.reach.inside.first; run = c.join.new.run } in
    let first = ap (λ (r : RouteSpan). r.first) c.reach.view_is in
    let later : w.at < c.args.reach.first = omega (arith, c.number.ensures.value, c.number-2.ensures.value, first, c.if-number.true) in
    let last : c.of-last.result ≡ c.args.reach.first - 1 = c.of-last.ensures ∙ ap (λ n. n - 1) (c.number-then-number.ensures.value ∙ first) in
    let run = c.join.ensures.run ∙ ap (λ n. (joined w.run (record { first = w.at; last = n }) c.args.number).1) last in
    let both = approaches w c.requires.runs c.args.reach c.requires.next v c.requires.going c.args.number c.requires.number c.requires.inside refl first refl refl refl refl later run in
    record { runs = both.0; end = refl; step = subst (λ s. StepsRun w s v) (sym (c.join.ensures.step ∙ ap (λ n. step_of (joined w.run (record { first = w.at; last = n }) c.args.number).0) last)) both.1 }

pub open-requires : goal.open-requires
open-requires g c =
    let from = (begins_from c.args.self.now c.requires.runs c.args.reach c.requires.next).0 in
    let first = ap (λ (r : RouteSpan). r.first) c.reach.view_is in
    let here : c.args.self.now.at ≡ c.args.reach.first = omega (arith, from, first, c.number.ensures.value, c.number-2.ensures.value, c.if-number.false) in
    (search rules, (c.requires.runs, (c.requires.going, (c.requires.next, (here, c.requires.inside)))))

pub returns-then-eq : goal.returns-then-eq
returns-then-eq g c =
    let same = same_from_test c.reach.inside.number c.args.number (sym (tests_same c.reach.inside.number c.args.number) ∙ sym c.eq.ensures ∙ c.if-eq.true) in
    let around = sym (ap (λ (r : RouteSpan). r.number) c.reach.view_is) ∙ same ∙ c.requires.number in
    let both = passed_over c.args.self.now c.advance.new.self c.requires.runs c.requires.going c.args.reach c.requires.next c.requires.inside around c.advance.ensures.at c.advance.ensures.end c.advance.ensures.done c.advance.ensures.run (ap (λ s. s.items) c.advance.ensures.stack) c.advance.ensures.next in
    record { runs = both.0; end = c.advance.ensures.end; step = both.1 }
