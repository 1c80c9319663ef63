use Rattle.std.proofs.Common.{refl}
use Rattle.ipnet_blocks.proofs.Maximals.{maximal_is_shortest, shortest_is_maximal, maximal_is_unique}
use Rattle.route_laws.proofs.laws.changes.Goals as goal
use Rattle.route_laws.proofs.Alterations.{added_is_table, left_is_table, changed_is_maximal, added_change, added_number, left_change, lines_by}

pub returns : goal.returns
returns c = record {
  table = λ M t. (λ r ok hop. added_is_table M t r ok hop, λ n. left_is_table M t n);
  maximal = changed_is_maximal;
  shortest = λ M N. maximal_is_shortest _ _ (changed_is_maximal M N);
  only = λ M N bs u up few. shortest_is_maximal _ _ bs (changed_is_maximal M N) u up few;
  found = λ M N bs m. maximal_is_unique _ _ bs (changed_is_maximal M N) m;
  added = λ M r m ok hop. lines_by M _ r.block m ok (added_change M m r ok hop) _ (added_number M m r ok hop);
  left = λ M n m ok. lines_by M _ n m ok (left_change M m n ok) _ refl;
}
