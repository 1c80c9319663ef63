use Rattle.std.proofs.Common.{◌∙◌, Ok, Err, true}
use Rattle.std.proofs.lemmas.Result.{err_from_is_err_and}
use Rattle.route_laws.specs.LeastTables.{routes_for}
use Rattle.route_laws.specs.Networks.{routes_of}
use Rattle.route_installer.proofs.TakesNote.{replaced}
use Rattle.route_installer.proofs.installer.Installer.replace.Goals as goal

pub returns-in_err-give_batch : goal.returns-in_err-give_batch
returns-in_err-give_batch g c =
    let p = err_from_is_err_and c.from_residual-in_err-give_batch.result c.from_residual-in_err-give_batch.ensures.1 in
    rw (p.1, p.2)
    (replaced g.W.Write.contents c.args.self.now c.args.self.now
    (routes_for c.args.list.now) c.args.writer.now c.give_batch.new.writer (Err c.in_err-give_batch.field-0.0)
    (routes_of c.installed.result.now) c.between.result c.installed.ensures c.between.ensures.operations c.between.ensures.table
    c.in_err-give_batch.ensures (λ e. absurd (cc)))

pub returns : goal.returns
returns g c =
    let e = c.in_ok-table.ensures.routes in
    let kept = c.keep_table.ensures.tables in
    let waits = c.keep_table.ensures.pending in
    replaced g.W.Write.contents c.args.self.now c.keep_table.new.self
    (routes_for c.args.list.now) c.args.writer.now c.give_batch.new.writer (Ok tt)
    (routes_of c.installed.result.now) c.between.result c.installed.ensures c.between.ensures.operations c.between.ensures.table
    c.in_ok-give_batch.ensures
    (λ d i. record { tables = (kept ∙ (λ j. record { table = e j; installed = e j; kept = true })) i; pending = waits i })
