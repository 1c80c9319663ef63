use Rattle.least_table.proofs.Makes.{empty_law}
use Rattle.least_table.proofs.laws.empty.Goals as goal

pub returns : goal.returns
returns c = empty_law
