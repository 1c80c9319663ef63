use Rattle.route_installer.proofs.TakesNote.{taken_have}
use Rattle.route_installer.proofs.installer.Installer.take_note.Goals as goal

pub returns-in-Have : goal.returns-in-Have
returns-in-Have g c =
    rw c.in-Have.is
    (taken_have g.W.Write.contents c.args.self.now c.have.new.self c.in-Have.net c.in-Have.hop c.args.writer.now c.have.result c.have.ensures)
