use Rattle.ipnet.proofs.AggregatedAgain.{stays_aggregated}
use Rattle.ipnet.proofs.laws.aggregated_again.Goals as goal

pub returns : goal.returns
returns c = stays_aggregated
