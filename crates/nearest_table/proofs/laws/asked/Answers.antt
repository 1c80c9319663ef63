use Rattle.nearest_table.proofs.Asked.{asked_law}
use Rattle.nearest_table.proofs.laws.asked.Goals as goal

pub returns : goal.returns
returns c = asked_law
