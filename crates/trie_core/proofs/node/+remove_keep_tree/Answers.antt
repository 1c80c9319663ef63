use Rattle.std.proofs.Common.{◌≤◌, ◌∙◌, refl, ap, subst, length, arith}
use Rattle.std.specs.FinMap.{get, remove}
use Rattle.std.proofs.lemmas.Bool.Decides.{nat_tests}
use Rattle.trie_core.specs.Ways.{IsKept}
use Rattle.trie_core.proofs.Seen.{seen}
use Rattle.trie_core.proofs.Shapes.{written}
use Rattle.trie_core.proofs.Skipped.{skipped_none, not_true}
use Rattle.trie_core.proofs.Changes.{way, was, set_taken, set_count, set_height, was_lower, absent}
use Rattle.trie_core.proofs.Staying.{kept_set}
use Rattle.trie_core.proofs.SkippedRemovals.{IsTakenAlone, skipped_alone, none_alone}
use Rattle.trie_core.proofs.node.+remove_keep_tree.Goals as goal

-- ---- a branch

pub Branch::remove_keep_tree-returns-in_err-at : goal.Branch::remove_keep_tree-returns-in_err-at
Branch::remove_keep_tree-returns-in_err-at g t c =
    let h : 5 ≤ length c.args.path = grind (arith, nat_tests) in
    let z = none_alone c.args.path c.args.self.now
    (absent c.args.path (seen c.self.invariant c.self.view_is) h c.five.ensures.value c.in_err-at.ensures)
    c.from_residual.ensures in
    record { value = z.value; map = z.map; spares = z.spares; count = z.count; levels = z.levels }

pub Branch::remove_keep_tree-child_mut-child-requires : goal.Branch::remove_keep_tree-child_mut-child-requires
Branch::remove_keep_tree-child_mut-child-requires g t c =
    (way c.args.path (seen c.self.invariant c.self.view_is) c.five.ensures.value c.in_ok-at.ensures).within

pub Branch::remove_keep_tree-returns : goal.Branch::remove_keep_tree-returns
Branch::remove_keep_tree-returns g t c =
    let h : 5 ≤ length c.args.path = grind (arith, nat_tests) in
    let s = seen c.self.invariant c.self.view_is in
    let e = c.child_mut-child.result.now in
    let d = c.remove_keep_tree.new.self in
    let r = c.child_mut-child.ensures.value in
    let w = way c.args.path s c.five.ensures.value c.in_ok-at.ensures in
    let m = c.remove_keep_tree.ensures.map ∙ ap (remove e.entries) c.rest.ensures in
    let z = subst (IsTakenAlone c.args.path c.args.self.now c.remove_keep_tree.result)
    (written c.self.inside.value_bits c.self.inside.child_bits c.in_ok-at.at d c.self.inside.body) (record {
      value = c.remove_keep_tree.ensures.value ∙ ap (get e.entries) c.rest.ensures ∙ was c.args.path e s h w r;
      map = set_taken c.args.path e d s h w r m;
      spares = kept_set c.args.path e d s h w r m
          (subst (λ q. IsKept q e.entries e.spares d.entries d.spares) c.rest.ensures c.remove_keep_tree.ensures.spares);
      count = omega (arith, set_count c.args.path e d s w r, c.remove_keep_tree.ensures.count);
      levels = omega (arith, set_height c.in_ok-at.at d s, was_lower c.args.path e s w r, c.remove_keep_tree.ensures.levels);
    }) in
    record { value = z.value; map = z.map; spares = z.spares; count = z.count; levels = z.levels }

-- ---- a node

pub Node::remove_keep_tree-returns-then-not-starts : goal.Node::remove_keep_tree-returns-then-not-starts
Node::remove_keep_tree-returns-then-not-starts g t c =
    let z = none_alone {out = _} c.args.path c.args.self.now
    (skipped_none c.self.inside.levels c.self.inside.skip c.args.path c.self.inside.branch c.args.self.now c.self.view_is
    (not_true c.starts.result c.starts.ensures.1 c.if-not-starts.true)) refl in
    record { value = z.value; map = z.map; spares = z.spares; count = z.count; levels = z.levels }

pub Node::remove_keep_tree-returns : goal.Node::remove_keep_tree-returns
Node::remove_keep_tree-returns g t c =
    let x = c.remove_keep_tree.ensures in
    let z = skipped_alone c.self.inside.levels c.self.inside.skip c.self.inside.branch c.remove_keep_tree.new.self c.self.view_is
    (c.starts.ensures.0 c.if-not-starts.false) c.past.ensures
    (record { value = x.value; map = x.map; spares = x.spares; count = x.count; levels = x.levels }) in
    record { value = z.value; map = z.map; spares = z.spares; count = z.count; levels = z.levels }
