use Rattle.route_laws.proofs.Between.{between_hitless, between_reaches, fewest}
use Rattle.route_laws.proofs.operations.between.Goals as goal

pub returns : goal.returns
returns c = record { reaches = between_reaches; hitless = between_hitless; fewest = fewest }
