use Rattle.std.proofs.Common.{◌∙◌, arith}
use Rattle.trie_core.specs.Inside.{outside}
use Rattle.trie_core.proofs.Inside.{outside_split}
use Rattle.trie_core.proofs.Longer.{as_number}
use Rattle.trie_core.proofs.Removals.{removed_parts}
use Rattle.trie_core.proofs.node.Branch.+take_inside.Goals as goal

pub overflow_add-result : goal.overflow_add-result
overflow_add-result g t c = omega (arith, as_number c.take_value.result)

pub overflow_add-result-2 : goal.overflow_add-result-2
overflow_add-result-2 g t c = omega (arith, as_number c.take_value.result)

pub returns-clause-removed : goal.returns-clause-removed
returns-clause-removed g t c =
    removed_parts c.from-here.result c.args.path.now c.take_value.ensures.map
    (omega (arith, as_number c.take_value.result)) c.take_value.ensures.count c.take_value.ensures.levels
    c.extended.ensures c.take_inside-left.ensures.removed c.extended-2.ensures c.take_inside-right.ensures.removed

pub returns-clause-spares : goal.returns-clause-spares
returns-clause-spares g t c =
    c.take_inside-right.ensures.spares
    ∙ (λ i. outside ((c.take_inside-left.ensures.spares ∙ (λ j. outside (c.take_value.ensures.spares j) (c.extended.ensures j))) i)
    (c.extended-2.ensures i))
    ∙ outside_split c.args.self.now.spares c.args.path.now
