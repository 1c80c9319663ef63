use Rattle.std.proofs.Common.{◌-◌, ◌∙◌, length, true, refl, sym, subst}
use Rattle.nearest_table.specs.Blocks.{IsCovered, inner}
use Rattle.nearest_table.proofs.Builds.{idle_plan, one_plan, told_plan}
use Rattle.nearest_table.proofs.Coverings.{free_covers, held_covers}
use Rattle.nearest_table.proofs.plans.end.Goals as goal
use Rattle.nearest_table.proofs.plans.end.Goals.{then-is_some-via-then-is_some, then-is_some-via-else-is_some+then-is_covered}

pub returns-then-is_some : goal.returns-then-is_some
returns-then-is_some g c =
    let cs = inner c.args.block.now (g.C.Table.routes c.args.changes.now) in
    let t = inner c.args.block.now (g.I.Table.routes c.args.installed.now) in
    let w = g.I.Table.width - length c.args.block.now in
    let idle = idle_plan w c.args.old c.args.told cs t c.requires.told (c.is_leaf.ensures.0 c.if-not-is_leaf.false) c.in_default.is true refl in
    elim c.then-is_some.branch [
      | then-is_some-via-then-is_some p ↦ idle (held_covers w t c.args.held c.requires.held (sym c.is_some.ensures ∙ p.if-is_some.true) c.requires.installed)
      | then-is_some-via-else-is_some+then-is_covered p ↦
          idle (subst (λ v. IsCovered v w t) p.if-is_covered.true (free_covers p.is_covered.result w t c.args.held c.requires.held (sym c.is_some.ensures ∙ p.if-is_some.false) p.is_covered.ensures))
    ]

pub returns-in_default : goal.returns-in_default
returns-in_default g c =
    let cs = inner c.args.block.now (g.C.Table.routes c.args.changes.now) in
    let t = inner c.args.block.now (g.I.Table.routes c.args.installed.now) in
    let w = g.I.Table.width - length c.args.block.now in
    one_plan w c.args.old c.args.told cs t c.requires.told (c.is_leaf.ensures.0 c.if-not-is_leaf.false) c.in_default.is c.is_covered.result c.if-is_covered.false
    (free_covers c.is_covered.result w t c.args.held c.requires.held (sym c.is_some.ensures ∙ c.if-is_some.false) c.is_covered.ensures)

pub returns : goal.returns
returns g c =
    let cs = inner c.args.block.now (g.C.Table.routes c.args.changes.now) in
    let t = inner c.args.block.now (g.I.Table.routes c.args.installed.now) in
    told_plan (g.I.Table.width - length c.args.block.now) c.args.old c.in-Some.hop c.args.told c.args.held cs t c.in_ok-plan.plan c.requires.changes c.requires.told
    (c.is_leaf.ensures.0 c.if-not-is_leaf.false) c.in-Some.is (c.is_leaf-2.ensures.0 c.if-not-is_leaf-2.false) c.requires.held c.in_ok-plan.ensures
