use Rattle.std.proofs.Common.{◌≡◌, ap, refl, ◌∙◌, Some, None}
use Rattle.route_lines.specs.Lines.{as_line}
use Rattle.route_installer.specs.InnerInstalling.{note_in}
use Rattle.route_installer.proofs.TakesNote.{line_counts, line_none, line_some}
use Rattle.route_feed.proofs.ReadLines.{of_notes, read_is, read_none}
use Rattle.route_installer.proofs.runs.InstallerSink.take.Goals as goal

pub returns-in_default-read-clause-takes : goal.returns-in_default-read-clause-takes
returns-in_default-read-clause-takes g c =
    let e : note_in (as_line c.args.text) ≡ None = ap (λ o. note_in (as_line o)) c.in-Some.is ∙ read_none of_notes c.in-Some.text.now c.in_default-read.ensures in
    line_none g.W.Write.contents c.args.self.now c.args.self.now (as_line c.args.text) c.args.writer.now c.args.writer.now _ e (refl, refl)

pub returns-clause-takes : goal.returns-clause-takes
returns-clause-takes g c =
    let e : note_in (as_line c.args.text) ≡ Some c.in-Ok.note = ap (λ o. note_in (as_line o)) c.in-Some.is ∙ read_is of_notes c.in-Some.text.now c.in-Ok.note c.in-Ok.ensures in
    line_some g.W.Write.contents c.args.self.now c.take_note.new.self (as_line c.args.text) c.args.writer.now c.take_note.new.writer c.take_note.result c.in-Ok.note e c.take_note.ensures

pub returns-clause-others : goal.returns-clause-others
returns-clause-others g c =
    line_counts g.W.Write.contents c.args.self.now c.take_note.new.self (as_line c.args.text) c.args.writer.now c.take_note.new.writer c.take_note.result (returns-clause-takes g c) c.requires
