use Rattle.std.proofs.Common.{◌∙◌, sym}
use Rattle.trie_core.proofs.Searches.{no_child_get}
use Rattle.trie_core.proofs.Skipped.{skipped_get, skipped_none, child_rest, not_true}
use Rattle.trie_core.proofs.node.Node.get.Goals as goal

pub returns-then-is_short : goal.returns-then-is_short
returns-then-is_short g c =
    c.value.ensures ∙ sym (skipped_get c.node.inside.levels c.node.inside.skip c.way.path c.past-path.result c.node.inside.branch c.way.node.now c.node.view_is (c.starts.ensures.0 c.way-test.true) c.past-path.ensures) ∙ c.way.invariant

pub returns-in-None : goal.returns-in-None
returns-in-None g c =
    sym (no_child_get c.in-None.ensures) ∙ sym (skipped_get c.node.inside.levels c.node.inside.skip c.way.path c.past-path.result c.node.inside.branch c.way.node.now c.node.view_is (c.starts.ensures.0 c.way-test.true) c.past-path.ensures) ∙ c.way.invariant

pub way-preserved : goal.way-preserved
way-preserved g c =
    child_rest c.past-path.result c.rest-path.result c.in-Some.ensures c.rest-path.ensures
    ∙ sym (skipped_get c.node.inside.levels c.node.inside.skip c.way.path c.past-path.result c.node.inside.branch c.way.node.now c.node.view_is (c.starts.ensures.0 c.way-test.true) c.past-path.ensures)
    ∙ c.way.invariant

pub returns : goal.returns
returns g c = sym (skipped_none c.node.inside.levels c.node.inside.skip c.way.path c.node.inside.branch c.way.node.now c.node.view_is (not_true c.starts.result c.starts.ensures.1 c.way-test.false)) ∙ c.way.invariant
