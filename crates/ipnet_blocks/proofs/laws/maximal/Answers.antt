use Rattle.ipnet_blocks.proofs.laws.maximal.Goals as goal
use Rattle.std.proofs.Common.{IsTrue}
use Rattle.ipnet_blocks.proofs.Maximals.{maximal_is_unique, maximal_is_union, maximal_is_shortest, shortest_is_maximal, decide_test}
use Rattle.ipnet_blocks.proofs.Parents.{parent_is_enough}

pub returns : goal.returns
returns c = record {
  unique = λ s. maximal_is_unique (λ x. IsTrue (s x));
  union = λ s. maximal_is_union (λ x. IsTrue (s x)) (decide_test s);
  shortest = λ s. maximal_is_shortest (λ x. IsTrue (s x));
  only = λ s. shortest_is_maximal (λ x. IsTrue (s x));
  parent = λ s. parent_is_enough (λ x. IsTrue (s x));
}
