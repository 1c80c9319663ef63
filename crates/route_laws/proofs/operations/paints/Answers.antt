use Rattle.route_laws.proofs.Overwritten.{changes_from, painted_all_hops, painted_hops, painted_is_table, told_are_changes}
use Rattle.route_laws.proofs.operations.paints.Goals as goal

pub returns : goal.returns
returns c = record {
  table = λ M r m ok hop. painted_is_table M m r ok hop;
  hops = λ M r m ok hop. painted_hops M m r ok hop;
  hops_after = λ M rs m c. painted_all_hops M rs m (changes_from rs c);
  told = λ M N. told_are_changes _;
}
