use Rattle.std.proofs.Common.{◌≡◌, ◌+◌, ◌<◌, ◌++◌, ◌∷◌, [], length, sym, refl, ap, ◌∙◌, subst, None, MatchOption, arith}
use Rattle.route_table.specs.declared.runs.Runs.{Runs}
use Rattle.route_table.specs.InnerRouteSpans.{RouteSpan}
use Rattle.route_table.specs.InnerRunning.{StepsRun, innermost, joined, step_of}
use Rattle.route_table.proofs.RunSteps.{begin_room, begun_here}
use Rattle.route_table.proofs.Shortcuts.{opened_and_closed}
use Rattle.route_table.proofs.runs.Runs.open.Goals as goal

pub push-requires : goal.push-requires
push-requires g c =
    let w = c.args.self.now in
    (omega arith, subst (λ rs. length rs < 129) (sym (ap (λ s. s.items) c.advance.ensures.stack)) (begin_room w c.requires.runs c.args.reach c.requires.next c.requires.inside))

pub returns-in-Some : goal.returns-in-Some
returns-in-Some g c =
    let w = c.args.self.now in
    let p = c.advance.new.self in
    let v : Runs g.row.P.Denot g.row.P-R.Denot = record p { at = c.in-Some.after; run = c.join.new.run } in
    let last : c.reach.inside.last ≡ c.args.reach.last = ap (λ (r : RouteSpan). r.last) c.reach.view_is in
    let ends : c.args.reach.last < w.end = omega (arith, last, c.advance.ensures.end, c.in-Some.ensures.1) in
    let apart = subst (λ n. MatchOption p.next (Unit {0}) (λ s. n < s.first)) last c.in-Some.ensures.2 in
    let run = c.join.ensures.run ∙ ap (λ o. (joined o (record { first = c.reach.inside.first; last = c.reach.inside.last }) c.reach.inside.number).1) c.advance.ensures.run ∙ ap (λ (r : RouteSpan). (joined w.run (record { first = r.first; last = r.last }) r.number).1) c.reach.view_is in
    let both = opened_and_closed w v c.requires.runs c.requires.going c.args.reach c.requires.next c.requires.inside c.requires.here c.advance.ensures.end (c.in-Some.ensures.0 ∙ ap (λ n. n + 1) last) c.advance.ensures.done (ap (λ s. s.items) c.advance.ensures.stack) c.advance.ensures.next ends apart run in
    record { runs = both.0; end = c.advance.ensures.end; step = subst (λ s. StepsRun w s v) (sym (c.join.ensures.step ∙ ap (λ o. step_of (joined o (record { first = c.reach.inside.first; last = c.reach.inside.last }) c.reach.inside.number).0) c.advance.ensures.run ∙ ap (λ (r : RouteSpan). step_of (joined w.run (record { first = r.first; last = r.last }) r.number).0) c.reach.view_is)) both.1 }

pub returns : goal.returns
returns g c =
    let w = c.args.self.now in
    let v : Runs g.row.P.Denot g.row.P-R.Denot = record c.advance.new.self { stack = c.push.new.self } in
    let number = (innermost (w.end, None) w.stack.items).1 in
    let pushed = c.push.ensures.items ∙ ap (λ (r : RouteSpan). c.advance.new.self.stack.items ++ r ∷ []) c.reach.view_is ∙ ap (λ s. s.items ++ c.args.reach ∷ []) c.advance.ensures.stack in
    let both = begun_here w c.requires.runs c.args.reach c.requires.next v c.requires.going number refl c.requires.inside c.advance.ensures.end (c.advance.ensures.at ∙ c.requires.here) c.advance.ensures.done pushed c.advance.ensures.next c.requires.here c.advance.ensures.run in
    record { runs = both.0; end = c.advance.ensures.end; step = both.1 }
