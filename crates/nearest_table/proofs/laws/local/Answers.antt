use Rattle.nearest_table.proofs.Locals.{local_law}
use Rattle.nearest_table.proofs.laws.local.Goals as goal

pub returns : goal.returns
returns c = local_law
