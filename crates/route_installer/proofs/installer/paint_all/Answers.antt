use Rattle.std.proofs.Common.{◌<◌, length, arith}
use Rattle.route_laws.specs.Networks.{routes_of}
use Rattle.route_installer.proofs.TakesNote.{next_painted}
use Rattle.route_installer.proofs.installer.paint_all.Goals as goal

pub loop-change-preserved : goal.loop-change-preserved
loop-change-preserved c =
    let i = c.loop-change.change-index in
    let within : i < length c.args.changes.now = omega arith in
    next_painted (routes_of c.args.table.now) c.args.changes.now i c.change-item.result within c.change-item.is (routes_of c.loop-change.table) (routes_of c.paint.new.self) c.loop-change.invariant c.in_ok-paint.ensures.routes
