use Rattle.std.proofs.Common.{arith, ◌-◌, ◌∙◌, ◌++◌, ap, length, None}
use Rattle.nearest_table.specs.InnerPlans.{tree_of}
use Rattle.nearest_table.specs.Plans.{edits_of}
use Rattle.nearest_table.specs.Blocks.{inner}
use Rattle.nearest_table.specs.Told.{new_hop}
use Rattle.least_table.specs.Tables.{passed, within}
use Rattle.nearest_table.proofs.Puts.{fits_plan, made, table_at}
use Rattle.nearest_table.proofs.plans.nearest.Goals as goal

pub make_plan-requires-clause-installed : goal.make_plan-requires-clause-installed
make_plan-requires-clause-installed g c = table_at g.I.Table.width c.args.block.now c.requires.fits (g.I.Table.routes c.args.installed.now) c.requires.installed

pub make_plan-requires-clause-changes : goal.make_plan-requires-clause-changes
make_plan-requires-clause-changes g c = table_at g.I.Table.width c.args.block.now c.requires.fits (g.C.Table.routes c.args.changes.now) c.requires.changes

pub carry-requires : goal.carry-requires
carry-requires g c =
    let b = c.args.block.now in
    let cs = inner b (g.C.Table.routes c.args.changes.now) in
    let ts = inner b (g.I.Table.routes c.args.installed.now) in
    (g.I.Table.width - length b, omega (arith, c.requires.short, c.requires.fits), fits_plan (g.I.Table.width - length b) (new_hop c.around-told.result c.hop_or-old.result cs ts) ts (tree_of c.in_ok-plan.plan) c.in_ok-plan.ensures.0)

pub returns : goal.returns
returns g c =
    let b = c.args.block.now in
    made g.I.Table.width b c.requires.fits (g.C.Table.routes c.args.changes.now) (g.I.Table.routes c.args.installed.now) c.hop_or-old.result c.around-told.result c.in_ok-plan.plan c.carry.new.edits.items c.requires.installed c.requires.order c.requires.inside
    (c.hop_or-old.ensures ∙ ap (λ o. passed None o) c.around.ensures) c.around-told.ensures c.in_ok-plan.ensures
    (c.in_ok-carry.ensures ∙ ap (λ es. es ++ within b (edits_of (tree_of c.in_ok-plan.plan) c.hop_or-old.result)) c.new-edits.ensures.items)
