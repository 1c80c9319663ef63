use Rattle.ipnet_blocks.proofs.Aggregates.{aggregated_is_stable}
use Rattle.ipnet_blocks.proofs.Again.{stay_aggregated}
use Rattle.ipnet_blocks.proofs.laws.aggregated.Goals as goal

pub returns : goal.returns
returns c = record { blocks = aggregated_is_stable; networks = stay_aggregated }
