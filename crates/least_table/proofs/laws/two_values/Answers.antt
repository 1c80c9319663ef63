use Rattle.least_table.proofs.Distances.{own_law, two_values_law}
use Rattle.least_table.proofs.laws.two_values.Goals as goal

pub returns : goal.returns
returns c = record { two = two_values_law; own = own_law }
