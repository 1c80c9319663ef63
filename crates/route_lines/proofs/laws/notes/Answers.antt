use Rattle.route_lines.proofs.Spells.{note_found}
use Rattle.route_lines.proofs.Notes as own
use Rattle.route_lines.specs.declared.fib_input.FibInput.TheVariants as N
use Rattle.route_lines.proofs.laws.notes.Goals as goal

pub returns : goal.returns
returns c = record { grammar = own.notes; cut = own.cut_note; found = note_found; replies = own.replies; apart = λ text a r h k. own.notes.one text a (N.Reply r) h k }
