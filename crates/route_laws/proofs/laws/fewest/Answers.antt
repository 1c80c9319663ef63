use Rattle.route_laws.proofs.Insides.{least_is_fewest, fewest_of_host, from_lesser, to_lesser}
use Rattle.route_laws.proofs.FlatTables.{hops_of_table}
use Rattle.route_laws.proofs.laws.fewest.Goals as goal

pub returns : goal.returns
returns c = record {
  host = fewest_of_host;
  halves = λ h k b ok room f g l r s n. (to_lesser h k b ok room f g l r s n, from_lesser h k b ok room f g l r s n);
  least = least_is_fewest;
  hops = hops_of_table;
  given = λ h N n x a. rw (← n.same x a) (hops_of_table N n.table x a);
}
