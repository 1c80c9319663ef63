use Rattle.route_lines.proofs.Cutting.{new_answers, new_rest, new_rest_in}
use Rattle.route_lines.proofs.laws.cutting.Goals as goal

pub returns : goal.returns
returns c = record { answers = new_answers; kept = new_rest; rest = new_rest_in }
