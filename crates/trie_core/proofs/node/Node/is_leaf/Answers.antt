use Rattle.std.proofs.Common.{refl}
use Rattle.trie_core.proofs.Leaves.{leaf_below, leaf_ends}
use Rattle.trie_core.proofs.Skipped.{not_true}
use Rattle.trie_core.proofs.SkippedLeaves.{skipped_leaf, skipped_leaf_off}
use Rattle.trie_core.proofs.node.Node.is_leaf.Goals as goal

pub returns-then-is_short : goal.returns-then-is_short
returns-then-is_short g c =
    let s = c.starts.ensures.0 c.way-test.true in
    let t = skipped_leaf c.node.inside.levels c.node.inside.skip c.way.path c.past-path.result c.node.inside.branch
    c.node.view_is s c.past-path.ensures c.is_leaf_here.ensures in
    (λ b. c.way.invariant.0 (t.0 b), λ l. t.1 (c.way.invariant.1 l))

pub returns-in-None : goal.returns-in-None
returns-in-None g c =
    let s = c.starts.ensures.0 c.way-test.true in
    let t = skipped_leaf c.node.inside.levels c.node.inside.skip c.way.path c.past-path.result c.node.inside.branch
    c.node.view_is s c.past-path.ensures (λ l. l, λ l. l) in
    (λ _. c.way.invariant.0 (t.0 (leaf_ends c.in-None.ensures)), λ _. refl)

pub way-preserved : goal.way-preserved
way-preserved g c =
    let s = c.starts.ensures.0 c.way-test.true in
    let t = skipped_leaf c.node.inside.levels c.node.inside.skip c.way.path c.past-path.result c.node.inside.branch
    c.node.view_is s c.past-path.ensures (leaf_below c.in-Some.ensures c.rest-path.ensures) in
    (λ l. c.way.invariant.0 (t.0 l), λ l. t.1 (c.way.invariant.1 l))

pub returns : goal.returns
returns g c =
    let off = not_true c.starts.result c.starts.ensures.1 c.way-test.false in
    let t = skipped_leaf_off c.ends_in.result c.node.inside.levels c.node.inside.skip c.way.path c.node.inside.branch c.node.view_is
    off c.ends_in.ensures in
    (λ b. c.way.invariant.0 (t.0 b), λ l. t.1 (c.way.invariant.1 l))
