use Rattle.std.proofs.Common.{◌<◌, ◌≤◌, ◌*◌, length, ap, ◌∙◌, length-drop, arith}
use Rattle.std.proofs.lemmas.Bool.Decides.{nat_tests}
use Rattle.trie_core.proofs.Searches.{child_visits}
use Rattle.trie_core.proofs.Visits.{visits_short, visits_tidy}
use Rattle.trie_core.proofs.Skipped.{not_true}
use Rattle.trie_core.proofs.SkippedVisits.{skipped_visits, skipped_visits_off}
use Rattle.trie_core.proofs.node.Node.visits.Goals as goal

pub way-preserved : goal.way-preserved
way-preserved g c =
    let s = c.starts.ensures.0 c.way-test.true in
    let v = skipped_visits c.node.inside.levels c.node.inside.skip c.way.path c.past-path.result c.node.inside.branch
    c.node.view_is s c.past-path.ensures in
    let h : 5 ≤ length c.past-path.result = grind (arith, nat_tests) in
    let past = ap length c.past-path.ensures ∙ length-drop (5 * c.node.inside.levels) c.way.path in
    let rest = ap length c.rest-path.ensures ∙ length-drop 5 c.past-path.result in
    record {
      bound = omega (arith, c.way.invariant.bound, past, s.0, rest, h);
      all = omega (arith, c.way.invariant.all, v, child_visits c.in-Some.ensures c.rest-path.ensures);
    }

pub returns-then-is_short-clause-all : goal.returns-then-is_short-clause-all
returns-then-is_short-clause-all g c =
    let s = c.starts.ensures.0 c.way-test.true in
    let v = skipped_visits c.node.inside.levels c.node.inside.skip c.way.path c.past-path.result c.node.inside.branch
    c.node.view_is s c.past-path.ensures in
    let h : length c.past-path.result < 5 = grind (arith, nat_tests) in
    let b = c.node.inside.branch in
    omega (arith, c.way.invariant.all, v, visits_short b.entries b.spares c.past-path.result h)

pub returns-then-is_short-clause-tidy : goal.returns-then-is_short-clause-tidy
returns-then-is_short-clause-tidy g c e = returns-then-is_short-clause-all g c ∙ visits_tidy c.args.self.now.entries c.args.path e

pub returns-in-None-clause-all : goal.returns-in-None-clause-all
returns-in-None-clause-all g c =
    let s = c.starts.ensures.0 c.way-test.true in
    let v = skipped_visits c.node.inside.levels c.node.inside.skip c.way.path c.past-path.result c.node.inside.branch
    c.node.view_is s c.past-path.ensures in
    omega (arith, c.in-None.ensures.visits, c.way.invariant.all, v)

pub returns-in-None-clause-tidy : goal.returns-in-None-clause-tidy
returns-in-None-clause-tidy g c e = returns-in-None-clause-all g c ∙ visits_tidy c.args.self.now.entries c.args.path e

pub returns-clause-all : goal.returns-clause-all
returns-clause-all g c =
    let off = not_true c.starts.result c.starts.ensures.1 c.way-test.false in
    let t = c.shared.ensures in
    let v = skipped_visits_off c.shared.result c.node.inside.levels c.node.inside.skip c.way.path c.node.inside.branch c.node.view_is
    t.fewer t.starts t.most off in
    omega (arith, c.way.invariant.all, v)

pub returns-clause-tidy : goal.returns-clause-tidy
returns-clause-tidy g c e = returns-clause-all g c ∙ visits_tidy c.args.self.now.entries c.args.path e
