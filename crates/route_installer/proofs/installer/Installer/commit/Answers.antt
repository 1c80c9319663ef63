use Rattle.std.proofs.Common.{rules, ◌≡◌, false}
use Rattle.route_installer.proofs.TakesNote.{unseen_of}
use Rattle.route_installer.proofs.installer.Installer.commit.Goals as goal

pub returns-then-is_some : goal.returns-then-is_some
returns-then-is_some g c =
    let kept : c.args.self.now.tables.kept ≡ false = search rules in
    let e = c.commit_unseen.ensures in
    unseen_of g.W.Write.contents c.args.self.now c.commit_unseen.new.self c.args.writer.now c.commit_unseen.result kept e.table e.pending e.memory e.some
