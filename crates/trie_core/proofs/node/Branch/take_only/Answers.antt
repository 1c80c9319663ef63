use Rattle.std.proofs.Common.{ap, sym, ◌∙◌}
use Rattle.trie_core.specs.InnerChains.{over}
use Rattle.trie_core.proofs.Shapes.{only_view}
use Rattle.trie_core.proofs.node.Branch.take_only.Goals as goal

pub returns-then-levels-most-clause-only : goal.returns-then-levels-most-clause-only
returns-then-levels-most-clause-only g c =
    ap (over c.first_place.result) c.skip.view_is
    ∙ only_view c.first_place.result c.in-Children.list c.remove.result c.self.invariant c.self.view_is c.in-Children.is (sym c.len.ensures.items ∙ c.if-len-ne1.false) c.first_place.ensures c.remove.ensures.value
