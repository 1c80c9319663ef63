use Rattle.std.proofs.Common.{◌<◌, ◌≤◌, ◌∙◌, length, arith}
use Rattle.std.proofs.lemmas.Bool.Decides.{nat_tests}
use Rattle.trie_core.proofs.Matches.{in_branch, to_child, told_short, told_end, told_off}
use Rattle.trie_core.proofs.Skipped.{not_true}
use Rattle.trie_core.proofs.node.Node.longest.Goals as goal

pub returns-then-is_short : goal.returns-then-is_short
returns-then-is_short g c =
    let i = in_branch c.node.inside.levels c.node.inside.skip c.keys_on.result c.or_better-best.result c.way.invariant c.node.view_is (c.starts.ensures.0 c.way-test.true) c.past-path.ensures c.keys_on.ensures.none c.keys_on.ensures.last c.or_better-best.ensures.same
    (λ h. let t = c.or_better-best.ensures.better h in (t.0, (t.1, t.2 ∙ c.from.ensures ∙ c.len.ensures))) in
    let h : length c.past-path.result < 5 = grind (arith, nat_tests) in
    told_short (λ s. s.now) c.into_match.result i h c.len-len.ensures c.into_match.ensures

pub returns-in-None : goal.returns-in-None
returns-in-None g c =
    let i = in_branch c.node.inside.levels c.node.inside.skip c.keys_on.result c.or_better-best.result c.way.invariant c.node.view_is (c.starts.ensures.0 c.way-test.true) c.past-path.ensures c.keys_on.ensures.none c.keys_on.ensures.last c.or_better-best.ensures.same
    (λ h. let t = c.or_better-best.ensures.better h in (t.0, (t.1, t.2 ∙ c.from.ensures ∙ c.len.ensures))) in
    let h : 5 ≤ length c.past-path.result = grind (arith, nat_tests) in
    told_end (λ s. s.now) c.into_match-in-None.result i h c.in-None.ensures c.len-len.ensures c.into_match-in-None.ensures

pub way-preserved : goal.way-preserved
way-preserved g c =
    let i = in_branch c.node.inside.levels c.node.inside.skip c.keys_on.result c.or_better-best.result c.way.invariant c.node.view_is (c.starts.ensures.0 c.way-test.true) c.past-path.ensures c.keys_on.ensures.none c.keys_on.ensures.last c.or_better-best.ensures.same
    (λ h. let t = c.or_better-best.ensures.better h in (t.0, (t.1, t.2 ∙ c.from.ensures ∙ c.len.ensures))) in
    let h : 5 ≤ length c.past-path.result = grind (arith, nat_tests) in
    to_child i h c.in-Some.ensures c.rest-path.ensures

pub returns : goal.returns
returns g c =
    told_off (λ s. s.now) c.node.inside.levels c.node.inside.skip c.node.inside.branch c.into_match-2.result c.way.invariant c.node.view_is (not_true c.starts.result c.starts.ensures.1 c.way-test.false) c.len-len.ensures c.into_match-2.ensures
