use Rattle.std.proofs.Common.{◌≡◌, ◌+◌, ◌-◌, ◌^◌, ◌∙◌, refl, sym, ap, subst, false, length, length-drop, length-set, arith}
use Rattle.std.specs.FinMap.{get, remove}
use Rattle.shape.specs.Shapes.{shape_children}
use Rattle.trie_core.specs.Ways.{IsPruned}
use Rattle.trie_core.specs.InnerRemovedBelow.{IsRemovedBelow}
use Rattle.trie_core.proofs.Maps.{remove_absent}
use Rattle.trie_core.proofs.Seen.{seen, viewed}
use Rattle.trie_core.proofs.Changes.{way, was, set_slots, set_taken, set_count, set_height, was_lower, absent, pruned, childless, set_removed, not_bare}
use Rattle.trie_core.proofs.Left.{left_none, left_set, left_removed}
use Rattle.trie_core.proofs.InsertedBelow.{not_short}
use Rattle.std.specs.List.{remove as remove_at}
use Rattle.shape.proofs.With.{children_with, values_with_child}
use Rattle.trie_core.proofs.Shapes.{written, written_slots, values_as}
use Rattle.trie_core.proofs.Skipped.{not_true}
use Rattle.trie_core.proofs.RemovedBelow.{skipped_off, skipped_withdrawn, skipped_gone}
use Rattle.trie_core.proofs.node.+remove_below.Goals as goal

pub Branch::take-child_mut-child-requires : goal.Branch::take-child_mut-child-requires
Branch::take-child_mut-child-requires g t c = (way c.args.path (seen c.self.invariant c.self.view_is) c.five-number.ensures.value c.in-Some.ensures).within

pub Branch::take-remove_child-requires : goal.Branch::take-remove_child-requires
Branch::take-remove_child-requires g t c =
    let w = (way c.args.path (seen c.self.invariant c.self.view_is) c.five-number.ensures.value c.in-Some.ensures).within in
    omega (arith, w, ap length (children_with c.self.inside.body c.in-Some.at c.remove_below-gone.new.self), length-set (shape_children c.self.inside.body) c.in-Some.at c.remove_below-gone.new.self)

pub Branch::take-returns-in-None : goal.Branch::take-returns-in-None
Branch::take-returns-in-None g t c =
    let h = not_short c.args.path c.is_short.ensures c.if-is_short.false in
    let s = seen c.self.invariant c.self.view_is in
    let a = absent c.args.path s h c.five-number.ensures.value c.in-None.ensures in
    record {
      value = c.requires.held ∙ sym a;
      map = sym (remove_absent c.args.self.now.entries c.args.path a);
      spares = left_none (λ x. false) c.args.path s h (λ x l e. refl) c.five-number.ensures.value c.in-None.ensures;
      count = omega arith;
      levels = omega arith;
      within = omega arith;
    }

pub Branch::take-invariant_of-self : goal.Branch::take-invariant_of-self
Branch::take-invariant_of-self g t c =
    let h = not_short c.args.path c.is_short.ensures c.if-is_short.false in
    let s = seen c.self.invariant c.self.view_is in
    let d = c.remove_below-gone.new.self in
    let x = c.remove_child.ensures.children ∙ ap (λ l. remove_at l c.in-Some.at) (children_with c.self.inside.body c.in-Some.at d) in
    values_as
    (childless c.args.path c.child_mut-child.result.now s h (way c.args.path s c.five-number.ensures.value c.in-Some.ensures) c.child_mut-child.ensures.value (c.bit.ensures ∙ ap (λ i. 2 ^ i) c.five-number.ensures.value) (x ∙ set_removed (shape_children c.self.inside.body) c.in-Some.at d)).slots
    (c.remove_child.ensures.values ∙ values_with_child c.self.inside.body c.in-Some.at d)

pub Branch::take-returns-then-is_bare : goal.Branch::take-returns-then-is_bare
Branch::take-returns-then-is_bare g t c =
    let h = not_short c.args.path c.is_short.ensures c.if-is_short.false in
    let s = seen c.self.invariant c.self.view_is in
    let e = c.child_mut-child.result.now in
    let d = c.remove_below-gone.new.self in
    let r = c.child_mut-child.ensures.value in
    let w = way c.args.path s c.five-number.ensures.value c.in-Some.ensures in
    let bare = c.is_bare.ensures.bare.0 c.if-is_bare.true in
    let b = c.bit.ensures ∙ ap (λ i. 2 ^ i) c.five-number.ensures.value in
    let x = c.remove_child.ensures.children ∙ ap (λ l. remove_at l c.in-Some.at) (children_with c.self.inside.body c.in-Some.at d) in
    let p = childless c.args.path e s h w r b (x ∙ set_removed (shape_children c.self.inside.body) c.in-Some.at d) in
    let l : length c.rest.result ≡ length c.args.path - 5 = ap length c.rest.ensures ∙ length-drop 5 c.args.path in
    subst (λ l. IsRemovedBelow c.args.path c.args.self.now (c.remove_below-gone.result + 1) c.remove_below-gone.new.held (viewed c.self.inside.value_bits l (c.self.inside.child_bits - c.bit.result) (shape_children c.remove_child.new.self))) (sym (c.remove_child.ensures.values ∙ values_with_child c.self.inside.body c.in-Some.at d)) (record {
      value = c.remove_below-gone.ensures.value ∙ ap (get e.entries) c.rest.ensures ∙ was c.args.path e s h w r;
      map = pruned c.args.path e d s h w r p (c.remove_below-gone.ensures.map ∙ ap (remove e.entries) c.rest.ensures) bare.0;
      spares = left_removed (λ x. false) c.args.path s h (λ x l e. refl) (λ x. false) e d w r (λ x. refl) (subst (λ q. IsPruned q e.spares d.entries d.spares) c.rest.ensures c.remove_below-gone.ensures.spares) bare.1 b x;
      count = omega (arith, p.count, c.remove_below-gone.ensures.count, c.is_bare.ensures.count c.if-is_bare.true);
      levels = p.height;
      within = omega (arith, h, l, c.remove_below-gone.ensures.within);
    })

pub Branch::take-returns-else-is_bare : goal.Branch::take-returns-else-is_bare
Branch::take-returns-else-is_bare g t c =
    let h = not_short c.args.path c.is_short.ensures c.if-is_short.false in
    let s = seen c.self.invariant c.self.view_is in
    let e = c.child_mut-child.result.now in
    let d = c.remove_below-gone.new.self in
    let r = c.child_mut-child.ensures.value in
    let w = way c.args.path s c.five-number.ensures.value c.in-Some.ensures in
    let full = not_bare d c.is_bare.result c.is_bare.ensures.bare.1 c.if-is_bare.false in
    let l : length c.rest.result ≡ length c.args.path - 5 = ap length c.rest.ensures ∙ length-drop 5 c.args.path in
    subst (IsRemovedBelow c.args.path c.args.self.now c.remove_below-gone.result c.remove_below-gone.new.held) (written c.self.inside.value_bits c.self.inside.child_bits c.in-Some.at d c.self.inside.body) (record {
      value = c.remove_below-gone.ensures.value ∙ ap (get e.entries) c.rest.ensures ∙ was c.args.path e s h w r;
      map = set_taken c.args.path e d s h w r (c.remove_below-gone.ensures.map ∙ ap (remove e.entries) c.rest.ensures);
      spares = left_set (λ x. false) c.args.path s h (λ x l e. refl) (λ x. false) e d w r (λ x. refl) (subst (λ q. IsPruned q e.spares d.entries d.spares) c.rest.ensures c.remove_below-gone.ensures.spares) full;
      count = omega (arith, set_count c.args.path e d s w r, c.remove_below-gone.ensures.count);
      levels = omega (arith, set_height c.in-Some.at d s, was_lower c.args.path e s w r, c.remove_below-gone.ensures.levels);
      within = omega (arith, h, l, c.remove_below-gone.ensures.within);
    })

pub Branch::take-invariant_of-self-else-is_bare : goal.Branch::take-invariant_of-self-else-is_bare
Branch::take-invariant_of-self-else-is_bare g t c =
    let s = seen c.self.invariant c.self.view_is in
    written_slots c.in-Some.at c.remove_below-gone.new.self c.self.inside.body (set_slots c.args.path c.remove_below-gone.new.self s (way c.args.path s c.five-number.ensures.value c.in-Some.ensures))

pub Node::remove_below-returns-then-not-starts : goal.Node::remove_below-returns-then-not-starts
Node::remove_below-returns-then-not-starts g t c =
    subst (λ o. IsRemovedBelow c.args.path c.args.self.now 0 o c.args.self.now) (sym c.requires.held)
    (skipped_off c.self.inside.levels c.self.inside.skip c.args.path c.self.inside.branch c.args.self.now c.self.view_is (not_true c.starts.result c.starts.ensures.1 c.if-not-starts.true))

pub Node::remove_below-returns-then-is_bare : goal.Node::remove_below-returns-then-is_bare
Node::remove_below-returns-then-is_bare g t c =
    skipped_gone c.self.inside.levels c.self.inside.skip c.self.inside.branch c.take-gone.new.self c.self.view_is (c.starts.ensures.0 c.if-not-starts.false) c.past.ensures (c.is_bare.ensures.bare c.if-is_bare.true) c.take-gone.ensures

pub Node::remove_below-returns : goal.Node::remove_below-returns
Node::remove_below-returns g t c =
    subst (IsRemovedBelow c.args.path c.args.self.now c.take-gone.result c.take-gone.new.held) (sym c.join.ensures)
    (skipped_withdrawn c.self.inside.levels c.self.inside.skip c.self.inside.branch c.take-gone.new.self c.self.view_is (c.starts.ensures.0 c.if-not-starts.false) c.past.ensures (c.is_bare.ensures.full c.if-is_bare.false) c.take-gone.ensures)
