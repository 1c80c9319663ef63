use Rattle.std.proofs.Common.{None, sym, ◌∙◌, subst}
use Rattle.least_table.specs.Nearest.{IsLeastDistance}
use Rattle.nearest_table.specs.Told.{told_hop}
use Rattle.embedder.proofs.Edits.{fewest}
use Rattle.embedder.proofs.nearest.needed.Goals as goal

pub returns : goal.returns
returns g c =
    let t = g.I.Table.routes c.args.installed.now in
    let cs = g.C.Table.routes c.args.changes.now in
    let f = fewest g.I.Table.width cs t c.in_ok-edits.edits.items c.in_ok-edits.ensures in
    subst (IsLeastDistance g.I.Table.width (told_hop cs t) t None) (sym (c.len.ensures ∙ c.in_ok-edits.edits.ok.0)) f
