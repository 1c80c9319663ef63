use Rattle.nearest_table.proofs.Trees.{plans_law}
use Rattle.nearest_table.proofs.TreeEdits.{edits_law}
use Rattle.nearest_table.proofs.laws.plans.Goals as goal

pub returns : goal.returns
returns c = record { nearest = plans_law; edits = edits_law }
