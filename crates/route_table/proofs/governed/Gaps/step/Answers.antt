use Rattle.std.proofs.Common.{◌≡◌, ◌-◌, ◌∷◌, sym, subst, arith}
use Rattle.route_table.specs.InnerGoverning.{IsPassed, gaps_left}
use Rattle.route_table.proofs.Gaps.{head_within, rest_within, passed_are, gap_given}
use Rattle.route_table.proofs.governed.Gaps.step.Goals as goal

pub returns-then-prefix_len-clause-gaps : goal.returns-then-prefix_len-clause-gaps
returns-then-prefix_len-clause-gaps c = record { order = c.requires.order; fits = c.requires.fits; within = rest_within _ _ _ _ c.in-Some.ensures.steps.0 c.requires.within }

pub returns-then-start-first-clause-gaps : goal.returns-then-start-first-clause-gaps
returns-then-start-first-clause-gaps c = passed_are c.args.self.now _ _ _ c.pass.ensures.net c.pass.ensures.end c.pass.ensures.inside c.pass.ensures.passed c.requires (rest_within _ _ _ _ c.in-Some.ensures.steps.0 c.requires.within)

pub returns-else-start-first-clause-gaps : goal.returns-else-start-first-clause-gaps
returns-else-start-first-clause-gaps c = passed_are c.args.self.now _ _ _ c.pass.ensures.net c.pass.ensures.end c.pass.ensures.inside c.pass.ensures.passed c.requires (rest_within _ _ _ _ c.in-Some.ensures.steps.0 c.requires.within)

pub returns-then-start-first-clause-step : goal.returns-then-start-first-clause-step
returns-then-start-first-clause-step c =
    let f = c.span-first.ensures.first in
    let w = head_within _ _ _ _ c.in-Some.ensures.steps.0 c.requires.within in (
      subst (λ x. gaps_left c.args.self.now ≡ record { first = c.args.self.now.at; last = x - 1 } ∷ gaps_left c.pass.new.self) (sym f)
          (gap_given c.args.self.now c.pass.new.self _ _ c.pass.ensures.net c.pass.ensures.end c.pass.ensures.inside (subst (λ x. IsPassed c.args.self.now x c.pass.new.self) c.span-first.ensures.last c.pass.ensures.passed) c.if-self.false c.in-Some.ensures.steps.0 (omega arith) (omega arith)),
      omega arith,
      omega arith,
    )
