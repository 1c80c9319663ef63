use Rattle.route_laws.proofs.Networks.{routes_are_table, routes_left, routes_with_choices, with_some, del_other, match_of_choices}
use Rattle.route_laws.proofs.Overwritten.{routes_overwritten}
use Rattle.route_laws.proofs.laws.best_routes.Goals as goal

pub returns : goal.returns
returns c = record {
  table = routes_are_table;
  add = λ T b c. routes_with_choices T b _ (with_some _ c);
  del = λ T b h. routes_left T b _;
  overwrite = routes_overwritten;
  others = del_other;
  matches = λ T b c ok okb e. match_of_choices T b c ok e;
}
