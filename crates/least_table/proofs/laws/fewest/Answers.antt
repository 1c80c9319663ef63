use Rattle.least_table.proofs.Distances.{host_law, halves_law}
use Rattle.least_table.proofs.laws.fewest.Goals as goal

pub returns : goal.returns
returns c = record { host = host_law; halves = halves_law }
