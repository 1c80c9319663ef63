use Rattle.std.proofs.Common.{[], Ok, Err, inr, refl, ap, ◌∙◌}
use Rattle.std.proofs.lemmas.Result.{err_from_is_err_and}
use Rattle.route_laws.specs.Networks.{routes_of}
use Rattle.route_installer.proofs.TakesNote.{kept_is, update_of}
use Rattle.route_installer.proofs.installer.Installer.commit_seen.Goals as goal

pub returns-in_err-operations : goal.returns-in_err-operations
returns-in_err-operations g c =
    let p = err_from_is_err_and c.from_residual.result c.from_residual.ensures.1 in
    rw (p.1, p.2, c.in_err-operations.ensures.memory) (inr (refl, c.requires.some), refl)

pub give_batch-requires : goal.give_batch-requires
give_batch-requires g c =
    record { counts = c.requires.counts; operations = rw c.as_slice-2.ensures.value c.in_ok-operations.ensures.truncated }

pub returns-in_err-give_batch : goal.returns-in_err-give_batch
returns-in_err-give_batch g c =
    let p = err_from_is_err_and c.from_residual-in_err-give_batch.result c.from_residual-in_err-give_batch.ensures.1 in
    let nearest = rw c.as_slice.ensures.value at c.in_ok-operations.ensures.nearest in
    let closes = rw (c.as_slice-2.ensures.value, c.in_ok-operations.ensures.operations) at c.in_err-give_batch.ensures in
    rw (p.1, p.2)
    (update_of g.W.Write.contents c.args.self.now c.self.inside.table c.self.inside.before c.self.inside.waiting.items
    c.self.view_is c.requires.kept c.args.writer.now c.give_batch.new.writer (Err c.in_err-give_batch.field-0.0)
    (routes_of c.update.new.table) _ c.requires.some nearest closes (λ e. absurd (cc)))

pub returns : goal.returns
returns g c =
    let nearest = rw c.as_slice.ensures.value at c.in_ok-operations.ensures.nearest in
    let closes = rw (c.as_slice-2.ensures.value, c.in_ok-operations.ensures.operations) at c.in_ok-give_batch.ensures in
    let kept = ap (λ s. s.tables.kept) c.self.view_is ∙ c.requires.kept in
    update_of g.W.Write.contents c.args.self.now c.self.inside.table c.self.inside.before c.self.inside.waiting.items c.self.view_is
    c.requires.kept c.args.writer.now c.give_batch.new.writer (Ok tt) (routes_of c.update.new.table) _ c.requires.some nearest
    closes
    (λ e. rw c.clear.ensures.items (kept_is c.update.new.table c.self.inside.before [] kept))
