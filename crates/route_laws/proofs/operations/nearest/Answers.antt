use Rattle.route_laws.proofs.Between.{fewest_is_nearest, least_is_nearest, nearest_is_bounded, nearest_is_fewest, between_hitless}
use Rattle.route_laws.proofs.operations.nearest.Goals as goal

pub returns : goal.returns
returns c = record { fewest = nearest_is_fewest; nearest = fewest_is_nearest; hitless = λ M h N m n. between_hitless M N m n.hops.table; bound = nearest_is_bounded; least = least_is_nearest }
