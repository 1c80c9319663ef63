use Rattle.route_laws.proofs.Overwritten.{over_is_table, over_hops}
use Rattle.route_laws.proofs.laws.overwrites.Goals as goal

pub returns : goal.returns
returns c = record {
  table = λ M r m ok hop. over_is_table M m r ok hop;
  hops = λ M r m ok hop. over_hops M m r ok hop;
}
