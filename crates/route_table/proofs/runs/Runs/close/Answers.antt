use Rattle.std.proofs.Common.{◌<◌, ◌≤◌, ap, ◌∙◌, arith, sym, subst}
use Rattle.route_table.specs.declared.runs.Runs.{Runs}
use Rattle.route_table.specs.InnerRunning.{StepsRun, joined, step_of}
use Rattle.route_table.proofs.Closings.{close_here, close_later}
use Rattle.route_table.proofs.runs.Runs.close.Goals as goal

pub returns-then-number : goal.returns-then-number
returns-then-number g c =
    let past : c.args.last < c.args.self.now.at = omega (arith, c.number.ensures.value, c.number-2.ensures.value, c.if-number.true) in
    let both = close_here c.args.self.now c.pass.new.self c.requires.runs c.requires.going c.args.last c.args.number c.requires.innermost c.requires.apart c.pass.ensures.end c.pass.ensures.next c.pass.ensures.rest c.pass.ensures.passed past c.pass.ensures.run in
    record { runs = both.0; end = c.pass.ensures.end; step = both.1 }

pub returns : goal.returns
returns g c =
    let p = c.pass.new.self in
    let v : Runs g.row.P.Denot g.row.P-R.Denot = record p { run = c.join.new.run } in
    let from : c.args.self.now.at ≤ c.args.last = omega (arith, c.number.ensures.value, c.number-2.ensures.value, c.if-number.false) in
    let run = c.join.ensures.run ∙ ap (λ o. (joined o (record { first = c.args.self.now.at; last = c.args.last }) c.args.number).1) c.pass.ensures.run in
    let both = close_later c.args.self.now v c.requires.runs c.requires.going c.args.last c.args.number c.requires.innermost c.requires.apart c.pass.ensures.end c.pass.ensures.next c.pass.ensures.rest c.pass.ensures.passed from run in
    record { runs = both.0; end = c.pass.ensures.end; step = subst (λ s. StepsRun c.args.self.now s v) (sym (c.join.ensures.step ∙ ap (λ o. step_of (joined o (record { first = c.args.self.now.at; last = c.args.last }) c.args.number).0) c.pass.ensures.run)) both.1 }
