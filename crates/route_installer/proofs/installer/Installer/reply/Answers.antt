use Rattle.std.proofs.Common.{refl}
use Rattle.route_installer.proofs.TakesNote.{keep_of}
use Rattle.route_installer.proofs.installer.Installer.reply.Goals as goal

pub returns-in-Set : goal.returns-in-Set
returns-in-Set g c =
    let e = c.keep.ensures in rw c.in-Set.is (keep_of g.W.Write.contents _ _ _ _ _ _ refl refl e.tables e.pending e.memory)

pub returns-in-Unset : goal.returns-in-Unset
returns-in-Unset g c =
    let e = c.keep-in-Unset.ensures in
    rw c.in-Unset.is (keep_of g.W.Write.contents _ _ _ _ _ _ refl refl e.tables e.pending e.memory)
