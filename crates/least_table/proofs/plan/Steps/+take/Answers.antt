use Rattle.std.proofs.Common.{rules, arith, ◌∙◌, ◌++◌, ap, false, length, length-append, refl, slice_index_or, sym, true}
use Rattle.std.proofs.lemmas.Result.{on_ok_weaker}
use Rattle.least_table.specs.InnerPacked.{stored_step}
use Rattle.least_table.specs.InnerSteps.{steps_of}
use Rattle.least_table.proofs.Steps.{left_of, left_whole}
use Rattle.least_table.proofs.Takes.{half_length, never_empty, best_taken, leaf_of, fork_of, skip_of, leaf_stores, fork_stores, skip_stores}
use Rattle.least_table.proofs.plan.Steps.+take.Goals as goal

pub returns-in_default-clause-stores : goal.returns-in_default-clause-stores
returns-in_default-clause-stores g t c = λ xs p ends. absurd (never_empty xs p c.args.self.now ends.steps c.in_default.ensures.0)

pub choice-hop-requires : goal.choice-hop-requires
choice-hop-requires g t c = (left_whole c.args.self.now c.pop.new.self c.in-Some.step c.in-Some.ensures c.requires.plan.2.whole).1

pub cut-requires : goal.cut-requires
cut-requires g t c = (left_whole c.args.self.now c.pop.new.self c.in-Some.step c.in-Some.ensures c.requires.plan.2.whole).1

pub returns-in-Whole-clause-stores : goal.returns-in-Whole-clause-stores
returns-in-Whole-clause-stores g t c = on_ok_weaker c.add_own.result
    (λ e xs p ends.
    let leaf = leaf_of g.P.R.Key.width c.args.path.now c.args.self.now c.pop.new.self c.in-Some.step c.in-Some.ensures xs p ends (sym c.cut.ensures ∙ c.in-Whole.is) in
    let best = best_taken g.P.R.Key.width c.args.path.now c.args.self.now c.pop.new.self c.in-Some.step c.in-Some.ensures xs p ends in
    let left = left_of c.args.self.now c.pop.new.self in
    leaf_stores g.P.Prefix.bits c.args.path.now c.args.inherited c.choice-hop.result.0 c.choice-hop.result.1 g.P.R.Key.width xs p (stored_step c.args.self.now.sets c.in-Some.step) left left left c.args.self.now c.args.routes.now c.args.routes.now c.args.routes.now c.args.routes.now _ best c.choice-hop.ensures.hop c.choice-hop.ensures.route e
    leaf (left_whole c.args.self.now c.pop.new.self c.in-Some.step c.in-Some.ensures ends.whole).0 refl)
    c.add_own.ensures.routes

pub extended-requires : goal.extended-requires
extended-requires g t c =
    let f = fork_of g.P.R.Key.width c.args.path.now c.args.self.now c.pop.new.self c.in-Some.step c.in-Some.ensures _ _ c.requires.plan.2 (sym c.cut.ensures ∙ c.in-Halves.is) in
    omega (arith, f.deep, c.requires.short)

pub take-requires : goal.take-requires
take-requires g t c κs within =
    let f = fork_of g.P.R.Key.width c.args.path.now c.args.self.now c.pop.new.self c.in-Some.step c.in-Some.ensures _ _ c.requires.plan.2 (sym c.cut.ensures ∙ c.in-Halves.is) in
    let long = half_length c.args.path.now c.extended.result true c.extended.ensures in
    (omega (arith, long, f.deep), (search rules, (search rules, (c.requires.short, (omega (arith, long, f.deep), (_, f.high, f.above c.extended.result c.extended.ensures))))))

pub extended-requires-in-Halves : goal.extended-requires-in-Halves
extended-requires-in-Halves g t c =
    let f = fork_of g.P.R.Key.width c.args.path.now c.args.self.now c.pop.new.self c.in-Some.step c.in-Some.ensures _ _ c.requires.plan.2 (sym c.cut.ensures ∙ c.in-Halves.is) in
    omega (arith, f.deep, c.requires.short)

pub take-requires-in-Halves : goal.take-requires-in-Halves
take-requires-in-Halves g t c κs within =
    let f = fork_of g.P.R.Key.width c.args.path.now c.args.self.now c.pop.new.self c.in-Some.step c.in-Some.ensures _ _ c.requires.plan.2 (sym c.cut.ensures ∙ c.in-Halves.is) in
    let long = half_length c.args.path.now c.extended-in-Halves.result false c.extended-in-Halves.ensures in
    let s = c.in_ok-take-in-Halves.ensures.stores _ f.high (f.above c.extended.result c.extended.ensures) in
    (omega (arith, long, f.deep), (search rules, (search rules, (c.requires.short, (omega (arith, long, f.deep), (_, f.low, f.below c.extended-in-Halves.result _ c.extended-in-Halves.ensures s.steps s.whole))))))

pub returns-in_ok-take-in-Halves-2-clause-stores : goal.returns-in_ok-take-in-Halves-2-clause-stores
returns-in_ok-take-in-Halves-2-clause-stores g t c = on_ok_weaker c.add_own-in-Halves.result
    (λ e xs p ends.
    let f = fork_of g.P.R.Key.width c.args.path.now c.args.self.now c.pop.new.self c.in-Some.step c.in-Some.ensures xs p ends (sym c.cut.ensures ∙ c.in-Halves.is) in
    let best = best_taken g.P.R.Key.width c.args.path.now c.args.self.now c.pop.new.self c.in-Some.step c.in-Some.ensures xs p ends in
    let s = c.in_ok-take-in-Halves.ensures.stores (xs ++ steps_of f.low) f.high (f.above c.extended.result c.extended.ensures) in
    let u = (c.in_ok-take-in-Halves-2).ensures.stores xs f.low (f.below c.extended-in-Halves.result _ c.extended-in-Halves.ensures s.steps s.whole) in
    fork_stores g.P.Prefix.bits c.args.path.now c.args.inherited c.choice-hop.result.0 c.choice-hop.result.1 g.P.R.Key.width xs p (stored_step c.args.self.now.sets c.in-Some.step) (left_of c.args.self.now c.pop.new.self) _ _ c.args.self.now c.args.routes.now _ c.args.routes.now _ _ best c.choice-hop.ensures.hop c.choice-hop.ensures.route e f c.extended.result c.extended-in-Halves.result c.extended.ensures c.extended-in-Halves.ensures s u)
    c.add_own-in-Halves.ensures.routes

pub returns-in_ok-take-in-Halves-2-clause-networks : goal.returns-in_ok-take-in-Halves-2-clause-networks
returns-in_ok-take-in-Halves-2-clause-networks g t c =
    on_ok_weaker c.add_own-in-Halves.result (λ kept n. kept ((c.in_ok-take-in-Halves-2).ensures.networks (c.in_ok-take-in-Halves.ensures.networks n))) c.add_own-in-Halves.ensures.networks

pub extended-requires-in-Around : goal.extended-requires-in-Around
extended-requires-in-Around g t c =
    let f = skip_of g.P.R.Key.width c.args.path.now c.args.self.now c.pop.new.self c.in-Some.step c.in-Some.ensures _ c.in-Around.turns c.in-Around.other _ c.requires.plan.2 (sym c.cut.ensures ∙ c.in-Around.is) in
    omega (arith, f.deep, c.requires.short)

pub add_own-requires-in-Around : goal.add_own-requires-in-Around
add_own-requires-in-Around g t c =
    let f = skip_of g.P.R.Key.width c.args.path.now c.args.self.now c.pop.new.self c.in-Some.step c.in-Some.ensures _ c.in-Around.turns c.in-Around.other _ c.requires.plan.2 (sym c.cut.ensures ∙ c.in-Around.is) in
    omega (arith, f.deep, half_length c.args.path.now c.extended-in-Around.result true c.extended-in-Around.ensures)

pub onward-requires : goal.onward-requires
onward-requires g t c =
    let f = skip_of g.P.R.Key.width c.args.path.now c.args.self.now c.pop.new.self c.in-Some.step c.in-Some.ensures _ c.in-Around.turns c.in-Around.other _ c.requires.plan.2 (sym c.cut.ensures ∙ c.in-Around.is) in
    record { some = f.deep.0; room = omega (arith, f.deep, c.requires.short) }

pub take-requires-in-Around : goal.take-requires-in-Around
take-requires-in-Around g t c κs within =
    let f = skip_of g.P.R.Key.width c.args.path.now c.args.self.now c.pop.new.self c.in-Some.step c.in-Some.ensures _ c.in-Around.turns c.in-Around.other _ c.requires.plan.2 (sym c.cut.ensures ∙ c.in-Around.is) in
    let long = ap length c.onward.ensures ∙ length-append c.args.path.now c.in-Around.turns in
    (omega (arith, long, f.deep), (search rules, (search rules, (c.requires.short, (omega (arith, long, f.deep), (_, f.inner, f.ends c.onward.result c.onward.ensures))))))

pub extended-requires-in-Around-2 : goal.extended-requires-in-Around-2
extended-requires-in-Around-2 g t c =
    let f = skip_of g.P.R.Key.width c.args.path.now c.args.self.now c.pop.new.self c.in-Some.step c.in-Some.ensures _ c.in-Around.turns c.in-Around.other _ c.requires.plan.2 (sym c.cut.ensures ∙ c.in-Around.is) in
    omega (arith, f.deep, c.requires.short)

pub add_own-requires-in-Around-2 : goal.add_own-requires-in-Around-2
add_own-requires-in-Around-2 g t c =
    let f = skip_of g.P.R.Key.width c.args.path.now c.args.self.now c.pop.new.self c.in-Some.step c.in-Some.ensures _ c.in-Around.turns c.in-Around.other _ c.requires.plan.2 (sym c.cut.ensures ∙ c.in-Around.is) in
    omega (arith, f.deep, half_length c.args.path.now c.extended-in-Around-2.result false c.extended-in-Around-2.ensures)

pub returns-in_ok-add_own-in-Around-2-clause-stores : goal.returns-in_ok-add_own-in-Around-2-clause-stores
returns-in_ok-add_own-in-Around-2-clause-stores g t c = on_ok_weaker c.add_own-in-Around-3.result
    (λ e xs p ends.
    let f = skip_of g.P.R.Key.width c.args.path.now c.args.self.now c.pop.new.self c.in-Some.step c.in-Some.ensures xs c.in-Around.turns c.in-Around.other p ends (sym c.cut.ensures ∙ c.in-Around.is) in
    let best = best_taken g.P.R.Key.width c.args.path.now c.args.self.now c.pop.new.self c.in-Some.step c.in-Some.ensures xs p ends in
    let s = c.in_ok-take-in-Around.ensures.stores xs f.inner (f.ends c.onward.result c.onward.ensures) in
    skip_stores g.P.Prefix.bits c.args.path.now c.args.inherited c.choice-hop.result.0 c.choice-hop.result.1 g.P.R.Key.width xs p (stored_step c.args.self.now.sets c.in-Some.step) (left_of c.args.self.now c.pop.new.self) c.args.self.now _ c.args.self.now c.args.routes.now _ _ _ _ best c.choice-hop.ensures.hop c.choice-hop.ensures.route e c.in-Around.turns c.in-Around.other f c.turn-is_upper.result c.needs_route-above.result c.needs_route-below.result
    c.extended-in-Around.result c.extended-in-Around-2.result c.onward.result (c.turn-is_upper.ensures ∙ ap (λ ds. slice_index_or ds 0 false) f.turns) c.needs_route-above.ensures c.needs_route-below.ensures
    c.extended-in-Around.ensures c.extended-in-Around-2.ensures c.onward.ensures c.in_ok-add_own-in-Around.ensures.routes s (c.in_ok-add_own-in-Around-2).ensures.routes)
    c.add_own-in-Around-3.ensures.routes

pub returns-in_ok-add_own-in-Around-2-clause-networks : goal.returns-in_ok-add_own-in-Around-2-clause-networks
returns-in_ok-add_own-in-Around-2-clause-networks g t c =
    on_ok_weaker c.add_own-in-Around-3.result (λ kept n. kept ((c.in_ok-add_own-in-Around-2).ensures.networks (c.in_ok-take-in-Around.ensures.networks (c.in_ok-add_own-in-Around.ensures.networks n)))) c.add_own-in-Around-3.ensures.networks
