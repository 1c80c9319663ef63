use Rattle.std.proofs.Common.{◌≡◌, ◌≢◌, true, false, not, length, refl, ap, ◌∙◌, sym, subst, is_some}
use Rattle.std.proofs.lemmas.Result.{err_from_is_err_and}
use Rattle.route_laws.specs.LeastTables.{IsLeast, routes_for}
use Rattle.route_laws.specs.Networks.{routes_of}
use Rattle.route_laws.specs.Tables.{hop_at}
use Rattle.route_installer.proofs.TakesNote.{never_stays, stays_of, taken_sync}
use Rattle.route_installer.proofs.installer.Installer.sync.Goals as goal
use Rattle.route_installer.proofs.installer.Installer.sync.Goals.{else-is_none-via-then-is_none+else-has_as_many, else-is_none-via-else-is_none}

pub returns-in_err-list : goal.returns-in_err-list
returns-in_err-list g c =
    let p = err_from_is_err_and c.from_residual.result c.from_residual.ensures.1 in
    rw (p.1, p.2, c.in_err-list.ensures.memory) (tt, refl)

pub returns-then-has_as_many : goal.returns-then-has_as_many
returns-then-has_as_many g c =
    let kept : c.args.self.now.tables.kept ≡ true = sym (ap (λ s. s.tables.kept) c.self.view_is) ∙ ap not (c.is_none.ensures ∙ ap not c.if-is_none.true) in
    stays_of g.W.Write.contents c.args.self.now c.self.inside.table c.self.inside.before c.self.inside.waiting.items c.self.view_is kept c.args.writer.now c.close.new.writer c.close.result c.in_ok-list.list.items c.has_as_many.ensures.table c.in_ok-list.ensures.least
    (c.has_as_many.ensures.same c.if-has_as_many.true ∙ ap length c.as_slice.ensures.value) c.close.ensures

pub returns : goal.returns
returns g c =
    let items = c.in_ok-list.list.items in
    let least = subst (λ M. IsLeast (hop_at M) (routes_for items)) (ap (λ s. s.tables.table) c.self.view_is) c.in_ok-list.ensures.least in
    let other : is_some c.self.inside.before ≡ false → length (routes_of c.self.inside.table) ≢ length items =
    elim c.else-is_none.branch [
      | else-is_none-via-then-is_none+else-has_as_many w ↦ (λ none same. w.has_as_many.ensures.other w.if-has_as_many.false (same ∙ sym (ap length w.as_slice.ensures.value)))
      | else-is_none-via-else-is_none w ↦ (λ none same. let both = sym (c.is_none.ensures ∙ ap not w.if-is_none.false) ∙ none in cc)
    ] in
    taken_sync g.W.Write.contents c.args.self.now c.replace.new.self (routes_for items) c.args.writer.now c.replace.new.writer c.replace.result least
    (never_stays c.self.inside.table c.self.inside.before _ c.args.self.now items c.self.view_is c.in_ok-list.ensures.least other)
    (rw c.as_slice-2.ensures.value at c.replace.ensures)
