use Rattle.std.proofs.Common.{◌<◌, ◌≤◌, ◌+◌, ◌*◌, length, arith}
use Rattle.std.proofs.lemmas.Bool.Decides.{nat_tests}
use Rattle.trie_core.proofs.Searches.{at_child, none_deeper, shortest_deeper, none_stop, way_left}
use Rattle.trie_core.proofs.Skipped.{at_branch, none_on, none_off, not_true}
use Rattle.trie_core.proofs.node.Node.shortest.Goals as goal

pub returns-then-is_short : goal.returns-then-is_short
returns-then-is_short g c =
    let s = c.starts.ensures.0 c.way-test.true in
    let k = c.node.inside.levels in
    let d = c.way.depth + 5 * k in
    let h : length c.past-path.result < 5 = grind (arith, nat_tests) in
    let a = at_branch c.way.depth k c.node.inside.skip c.way.invariant.place c.node.view_is s c.past-path.ensures in
    let n = none_deeper c.way.depth (5 * k) c.way.invariant.place c.way.invariant.none (none_on k c.node.inside.skip c.way.path c.node.inside.branch c.way.node.now c.node.view_is) in
    λ j l. none_deeper d 5 a n c.in_default.ensures j (omega (arith, way_left d a, h, l)) l

pub returns-in-Some : goal.returns-in-Some
returns-in-Some g c =
    let s = c.starts.ensures.0 c.way-test.true in
    let k = c.node.inside.levels in
    let d = c.way.depth + 5 * k in
    let a = at_branch c.way.depth k c.node.inside.skip c.way.invariant.place c.node.view_is s c.past-path.ensures in
    let n = none_deeper c.way.depth (5 * k) c.way.invariant.place c.way.invariant.none (none_on k c.node.inside.skip c.way.path c.node.inside.branch c.way.node.now c.node.view_is) in
    shortest_deeper d c.in-Some.len a n c.in-Some.ensures.1

pub returns-in-None : goal.returns-in-None
returns-in-None g c =
    let s = c.starts.ensures.0 c.way-test.true in
    let k = c.node.inside.levels in
    let d = c.way.depth + 5 * k in
    let h : 5 ≤ length c.past-path.result = grind (arith, nat_tests) in
    let a = at_branch c.way.depth k c.node.inside.skip c.way.invariant.place c.node.view_is s c.past-path.ensures in
    let n = none_deeper c.way.depth (5 * k) c.way.invariant.place c.way.invariant.none (none_on k c.node.inside.skip c.way.path c.node.inside.branch c.way.node.now c.node.view_is) in
    none_stop d a h c.in-None.ensures (none_deeper d 5 a n c.in_default.ensures)

pub way-preserved : goal.way-preserved
way-preserved g c =
    let s = c.starts.ensures.0 c.way-test.true in
    let k = c.node.inside.levels in
    let d = c.way.depth + 5 * k in
    let h : 5 ≤ length c.past-path.result = grind (arith, nat_tests) in
    let a = at_branch c.way.depth k c.node.inside.skip c.way.invariant.place c.node.view_is s c.past-path.ensures in
    let n = none_deeper c.way.depth (5 * k) c.way.invariant.place c.way.invariant.none (none_on k c.node.inside.skip c.way.path c.node.inside.branch c.way.node.now c.node.view_is) in
    record {
      place = at_child d a h c.in-Some-child.ensures c.rest-path.ensures;
      none = none_deeper d 5 a n c.in_default.ensures;
    }

pub returns : goal.returns
returns g c =
    let k = c.node.inside.levels in
    let off = not_true c.starts.result c.starts.ensures.1 c.way-test.false in
    let n = none_deeper c.way.depth (length c.args.path + 1) c.way.invariant.place c.way.invariant.none (none_off k c.node.inside.skip c.way.path c.node.inside.branch c.way.node.now (length c.args.path + 1) c.node.view_is off) in
    λ j l. n j (omega (arith, l)) l
