use Rattle.route_laws.proofs.Between.{nearest_is_bounded, nearest_is_fewest, between_hitless}
use Rattle.route_laws.proofs.operations.updates.Goals as goal

pub returns : goal.returns
returns c = record {
  fewest = λ M rs os m u. rw u.operations (nearest_is_fewest M _ u.table m u.nearest);
  hitless = λ M rs os m u. rw u.operations (between_hitless M u.table m u.nearest.hops.table);
  bound = λ M rs os m c u. rw u.operations (nearest_is_bounded M rs u.table m c u.nearest);
}
