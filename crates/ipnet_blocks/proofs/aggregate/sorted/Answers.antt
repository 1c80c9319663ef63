use Rattle.std.proofs.Common.{rules}
use Rattle.std.proofs.lemmas.List.Sorted.{IsNonDecreasingBy-from_sort_by_key}
use Rattle.ipnet_blocks.specs.declared.aggregate.Span.{Span}
use Rattle.ipnet_blocks.proofs.aggregate.sorted.Goals as goal

pub returns-clause-order : goal.returns-clause-order
returns-clause-order c = IsNonDecreasingBy-from_sort_by_key (λ (s : Span). s.first) _ c.sort_unstable_by_key.ensures.sorted (λ a r q k. search rules)
