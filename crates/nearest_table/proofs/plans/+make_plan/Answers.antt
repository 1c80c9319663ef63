use Rattle.std.proofs.Common.{rules, arith, ◌-◌, ◌<◌, ◌∙◌, ap, length, true, false}
use Rattle.std.proofs.lemmas.Result.{IfOk-weaker}
use Rattle.nearest_table.specs.InnerPlans.{Plans}
use Rattle.nearest_table.specs.Blocks.{inner, innermost_route}
use Rattle.nearest_table.proofs.Builds.{cut_short, fork_plan, less, table_half, told_same}
use Rattle.nearest_table.proofs.plans.+make_plan.Goals as goal

pub returns-in-Some : goal.returns-in-Some
returns-in-Some g t c =
    let b = c.args.block.now in
    let W = g.I.Table.width in
    told_same (W - length b) c.args.told c.innermost-here.result c.args.old (inner b (g.C.Table.routes c.args.changes.now)) (inner b (g.I.Table.routes c.args.installed.now)) c.in-Some.plan c.requires.changes
    (c.innermost-here.ensures ∙ ap (innermost_route c.args.told) c.own.ensures) (rw c.in-Some.is at c.in_ok-plan.ensures)

pub extended-requires : goal.extended-requires
extended-requires g t c = let b = c.args.block.now in omega (arith, c.requires.short, cut_short g.I.Table.width b (inner b (g.C.Table.routes c.args.changes.now)) (inner b (g.I.Table.routes c.args.installed.now)) c.requires.changes c.requires.installed (rw c.in_default.is at c.in_ok-plan.ensures))

pub make_plan-requires : goal.make_plan-requires
make_plan-requires g t c κs within =
    let b = c.args.block.now in
    let b' = c.extended.result in
    let W = g.I.Table.width in
    let cs = g.C.Table.routes c.args.changes.now in
    let ts = g.I.Table.routes c.args.installed.now in
    let short : length b < W = cut_short W b (inner b cs) (inner b ts) c.requires.changes c.requires.installed (rw c.in_default.is at c.in_ok-plan.ensures) in
    let falls = less W b short false b' c.extended.ensures in
    (omega (arith, falls), (search rules, (search rules, (search rules, (c.requires.short, (falls.1, (table_half W b short false b' ts c.extended.ensures c.requires.installed, table_half W b short false b' cs c.extended.ensures c.requires.changes)))))))

pub extended-requires-2 : goal.extended-requires-2
extended-requires-2 g t c = let b = c.args.block.now in omega (arith, c.requires.short, cut_short g.I.Table.width b (inner b (g.C.Table.routes c.args.changes.now)) (inner b (g.I.Table.routes c.args.installed.now)) c.requires.changes c.requires.installed (rw c.in_default.is at c.in_ok-plan.ensures))

pub make_plan-requires-2 : goal.make_plan-requires-2
make_plan-requires-2 g t c κs within =
    let b = c.args.block.now in
    let b' = c.extended-2.result in
    let W = g.I.Table.width in
    let cs = g.C.Table.routes c.args.changes.now in
    let ts = g.I.Table.routes c.args.installed.now in
    let short : length b < W = cut_short W b (inner b cs) (inner b ts) c.requires.changes c.requires.installed (rw c.in_default.is at c.in_ok-plan.ensures) in
    let falls = less W b short true b' c.extended-2.ensures in
    (omega (arith, falls), (search rules, (search rules, (search rules, (c.requires.short, (falls.1, (table_half W b short true b' ts c.extended-2.ensures c.requires.installed, table_half W b short true b' cs c.extended-2.ensures c.requires.changes)))))))

pub returns : goal.returns
returns g t c =
    let b = c.args.block.now in
    let W = g.I.Table.width in
    let cs = g.C.Table.routes c.args.changes.now in
    let ts = g.I.Table.routes c.args.installed.now in
    let short : length b < W = cut_short W b (inner b cs) (inner b ts) c.requires.changes c.requires.installed (rw c.in_default.is at c.in_ok-plan.ensures) in
    IfOk-weaker c.owned.result _ (Plans (W - length b) c.args.told c.args.old (inner b cs) (inner b ts))
    (λ p is. fork_plan W b short c.extended.result c.extended-2.result c.args.told c.innermost-here.result c.own-held.result c.args.old c.hop_or-passed.result cs ts c.in_ok-low.low c.in_ok-high.high c.in_ok-plan-2.plan p c.requires.installed c.extended.ensures c.extended-2.ensures
    (c.innermost-here.ensures ∙ ap (innermost_route c.args.told) c.own.ensures) c.own-held.ensures c.hop_or-passed.ensures c.in_ok-low.ensures c.in_ok-high.ensures c.in_ok-plan-2.ensures is)
    c.owned.ensures
