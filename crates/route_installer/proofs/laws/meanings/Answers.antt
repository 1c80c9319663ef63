use Rattle.route_installer.proofs.KeptTable.{hitless_is_turns_once}
use Rattle.route_installer.proofs.NotesInTurn.{tables_after}
use Rattle.route_installer.proofs.laws.meanings.Goals as goal

pub returns : goal.returns
returns c = record { moments = hitless_is_turns_once; refines = tables_after }
