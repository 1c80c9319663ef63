use Rattle.route_installer.proofs.TakesNote.{unseen_tables}
use Rattle.route_installer.proofs.installer.Installer.commit_unseen.Goals as goal

pub returns-clause-table : goal.returns-clause-table
returns-clause-table c =
    unseen_tables c.args.self.now c.self.inside.table c.paint_all.new.table c.self.inside.before c.self.inside.waiting.items c.as_slice.result.now c.self.view_is c.requires c.as_slice.ensures.value c.in_ok-paint_all.ensures.routes
