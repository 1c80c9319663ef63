use Rattle.std.proofs.Common.{◌+◌, ◌-◌, ◌*◌, ◌^◌, ◌<◌, ◌∙◌, length, sym, ap, subst, length-set, length-drop, arith}
use Rattle.std.specs.List.{remove as remove_at}
use Rattle.std.proofs.lemmas.Bool.Decides.{nat_tests}
use Rattle.shape.specs.Shapes.{shape_children}
use Rattle.shape.proofs.With.{children_with, values_with_child}
use Rattle.ipnet_blocks.specs.BitStrings.{begins}
use Rattle.trie_core.proofs.Seen.{seen, viewed}
use Rattle.trie_core.proofs.Shapes.{values_as, written}
use Rattle.trie_core.proofs.Skipped.{not_true}
use Rattle.trie_core.proofs.Changes.{way, not_bare}
use Rattle.trie_core.proofs.Left.{left_none, cut_short}
use Rattle.trie_core.proofs.Inside.{child_entries, child_nodes, begins_elsewhere}
use Rattle.trie_core.proofs.Removals.{longer, removed_none, removed_child}
use Rattle.trie_core.proofs.SkippedRemovals.{IsCutOut, cut_stays, cut_goes, skipped_counts, skipped_cut, skipped_cut_bare, skipped_cut_none, skipped_cut_past, skipped_cut_whole}
use Rattle.trie_core.proofs.node.+remove_inside.Goals.{Node::remove_inside-else-self-gt0-via-then-self-gt0+else-len-self, Node::remove_inside-else-self-gt0-via-else-self-gt0}
use Rattle.trie_core.proofs.node.+remove_inside.Goals as goal

-- ---- a branch

pub Branch::remove_inside-child_mut-child-requires : goal.Branch::remove_inside-child_mut-child-requires
Branch::remove_inside-child_mut-child-requires g t c =
    (way c.args.path.now (seen c.self.invariant c.self.view_is) c.five-number.ensures.value c.in-Some.ensures).within

pub Branch::remove_inside-remove_inside-entries-requires : goal.Branch::remove_inside-remove_inside-entries-requires
Branch::remove_inside-remove_inside-entries-requires g t c κs within =
    let h = longer c.args.path.now c.len.ensures c.if-len-le5.false in
    let s = seen c.self.invariant c.self.view_is in
    let w = way c.args.path.now s c.five-number.ensures.value c.in-Some.ensures in
    let e = c.child_mut-child.result.now in
    let r = c.child_mut-child.ensures.value in (
      omega (arith, ap length c.rest.ensures, length-drop 5 c.args.path.now, h),
      (
        within,
        (
          omega (arith, child_entries c.args.path.now e s w r, c.requires.entries),
          omega (arith, child_nodes c.args.path.now e s w r, c.requires.nodes),
        ),
      ),
    )

pub Branch::remove_inside-remove_child-requires : goal.Branch::remove_inside-remove_child-requires
Branch::remove_inside-remove_child-requires g t c =
    let w = (way c.args.path.now (seen c.self.invariant c.self.view_is) c.five-number.ensures.value c.in-Some.ensures).within in
    let d = c.remove_inside-entries.new.self in
    let b = c.self.inside.body in
    omega (arith, w, ap length (children_with b c.in-Some.at d), length-set (shape_children b) c.in-Some.at d)

pub Branch::remove_inside-overflow_add-result : goal.Branch::remove_inside-overflow_add-result
Branch::remove_inside-overflow_add-result g t c =
    let s = seen c.self.invariant c.self.view_is in
    let w = way c.args.path.now s c.five-number.ensures.value c.in-Some.ensures in
    let n = child_nodes c.args.path.now c.child_mut-child.result.now s w c.child_mut-child.ensures.value in
    omega (arith, n, c.remove_inside-entries.ensures.removed.count, c.is_bare.ensures.count c.if-is_bare.true, c.requires.nodes)

pub Branch::remove_inside-returns-then-len-le5-clause-spares : goal.Branch::remove_inside-returns-then-len-le5-clause-spares
Branch::remove_inside-returns-then-len-le5-clause-spares g t c =
    cut_short c.args.path.now c.args.self.now.spares c.take_inside.new.self.entries c.take_inside.new.self.spares
    (grind (arith, nat_tests)) c.take_inside.ensures.spares c.take_inside.ensures.below

pub Branch::remove_inside-returns-in-None-clause-removed : goal.Branch::remove_inside-returns-in-None-clause-removed
Branch::remove_inside-returns-in-None-clause-removed g t c =
    removed_none c.args.path.now (seen c.self.invariant c.self.view_is)
    (longer c.args.path.now c.len.ensures c.if-len-le5.false) c.five-number.ensures.value c.in-None.ensures

pub Branch::remove_inside-returns-in-None-clause-spares : goal.Branch::remove_inside-returns-in-None-clause-spares
Branch::remove_inside-returns-in-None-clause-spares g t c =
    let h = longer c.args.path.now c.len.ensures c.if-len-le5.false in
    left_none (begins c.args.path.now) c.args.path.now (seen c.self.invariant c.self.view_is) h
    (λ x l e. begins_elsewhere c.args.path.now x h e) c.five-number.ensures.value c.in-None.ensures

-- ---- the child of a branch goes

pub Branch::remove_inside-invariant_of-self : goal.Branch::remove_inside-invariant_of-self
Branch::remove_inside-invariant_of-self g t c =
    let s = seen c.self.invariant c.self.view_is in
    let d = c.remove_inside-entries.new.self in
    let t = c.is_bare.ensures in
    let x = c.remove_child.ensures.children
    ∙ ap (λ l. remove_at l c.in-Some.at) (children_with c.self.inside.body c.in-Some.at d) in
    values_as
    (removed_child c.args.path.now c.child_mut-child.result.now d s (longer c.args.path.now c.len.ensures c.if-len-le5.false)
    (way c.args.path.now s c.five-number.ensures.value c.in-Some.ensures) c.child_mut-child.ensures.value
    c.rest.ensures c.remove_inside-entries.ensures.removed (t.bare.0 c.if-is_bare.true).0 (t.count c.if-is_bare.true)
    (c.bit.ensures ∙ ap (λ i. 2 ^ i) c.five-number.ensures.value) x).0
    (c.remove_child.ensures.values ∙ values_with_child c.self.inside.body c.in-Some.at d)

pub Branch::remove_inside-returns-then-is_bare : goal.Branch::remove_inside-returns-then-is_bare
Branch::remove_inside-returns-then-is_bare g t c =
    let s = seen c.self.invariant c.self.view_is in
    let d = c.remove_inside-entries.new.self in
    let y = c.remove_inside-entries.ensures in
    let x = c.remove_child.ensures.children
    ∙ ap (λ l. remove_at l c.in-Some.at) (children_with c.self.inside.body c.in-Some.at d) in
    let z =
    subst (λ l. IsCutOut c.args.path.now c.args.self.now (c.remove_inside-entries.result.0, c.remove_inside-entries.result.1 + 1)
    (viewed c.self.inside.value_bits l (c.self.inside.child_bits - c.bit.result) (shape_children c.remove_child.new.self)))
    (sym (c.remove_child.ensures.values ∙ values_with_child c.self.inside.body c.in-Some.at d))
    (cut_goes c.args.path.now c.child_mut-child.result.now d s (longer c.args.path.now c.len.ensures c.if-len-le5.false)
    (way c.args.path.now s c.five-number.ensures.value c.in-Some.ensures) c.child_mut-child.ensures.value
    c.rest.ensures (c.is_bare.ensures.bare.0 c.if-is_bare.true) (c.is_bare.ensures.count c.if-is_bare.true) (c.bit.ensures ∙ ap (λ i. 2 ^ i) c.five-number.ensures.value) x
    (record { removed = y.removed; spares = y.spares }))
    in
    record { removed = z.removed; spares = z.spares }

-- ---- the child of a branch stays

pub Branch::remove_inside-returns-else-is_bare : goal.Branch::remove_inside-returns-else-is_bare
Branch::remove_inside-returns-else-is_bare g t c =
    let s = seen c.self.invariant c.self.view_is in
    let d = c.remove_inside-entries.new.self in
    let y = c.remove_inside-entries.ensures in
    let z =
    subst (IsCutOut c.args.path.now c.args.self.now c.remove_inside-entries.result)
    (written c.self.inside.value_bits c.self.inside.child_bits c.in-Some.at d c.self.inside.body)
    (cut_stays c.args.path.now c.child_mut-child.result.now d s (longer c.args.path.now c.len.ensures c.if-len-le5.false)
    (way c.args.path.now s c.five-number.ensures.value c.in-Some.ensures) c.child_mut-child.ensures.value
    c.rest.ensures (not_bare d c.is_bare.result c.is_bare.ensures.bare.1 c.if-is_bare.false) (record { removed = y.removed; spares = y.spares }))
    in
    record { removed = z.removed; spares = z.spares }

-- ---- a node

pub Node::remove_inside-remove_inside-entries-requires : goal.Node::remove_inside-remove_inside-entries-requires
Node::remove_inside-remove_inside-entries-requires g t c κs within =
    let s = skipped_counts c.self.inside.levels c.self.inside.skip c.self.inside.branch c.self.view_is in (
      omega (arith, ap length c.past.ensures, length-drop (5 * c.self.inside.levels) c.args.path.now),
      (within, (omega (arith, s.entries, c.requires.entries), omega (arith, s.nodes, c.requires.nodes))),
    )

pub Node::remove_inside-overflow_add-nodes : goal.Node::remove_inside-overflow_add-nodes
Node::remove_inside-overflow_add-nodes g t c =
    omega (
      arith,
      (skipped_counts c.self.inside.levels c.self.inside.skip c.self.inside.branch c.self.view_is).nodes,
      c.remove_inside-entries.ensures.removed.count,
      c.from.ensures,
      c.requires.nodes,
    )

pub Node::remove_inside-returns-then-not-leads_to : goal.Node::remove_inside-returns-then-not-leads_to
Node::remove_inside-returns-then-not-leads_to g t c =
    let z = skipped_cut_past c.self.inside.levels c.self.inside.skip c.self.inside.branch c.self.view_is
    (omega (arith, c.if-len-self.true, c.len.ensures)) (sym c.leads_to.ensures ∙ c.if-not-leads_to.true) in
    record { removed = z.removed; spares = z.spares }

pub Node::remove_inside-returns-then-len-self : goal.Node::remove_inside-returns-then-len-self
Node::remove_inside-returns-then-len-self g t c =
    let k = c.counts-entries.ensures in
    let x = skipped_cut_whole c.self.inside.levels c.self.inside.skip c.self.inside.branch c.clear.new.self c.self.view_is
    (omega (arith, c.if-self-gt0.true))
    (sym c.leads_to.ensures ∙ c.if-not-leads_to.false) c.clear.ensures.map c.clear.ensures.spares c.clear.ensures.levels in
    let z = subst (λ p. IsCutOut c.args.path.now c.args.self.now p c.clear.new.self)
    (λ i. (sym k.entries i, sym k.nodes i - 1)) x in
    record { removed = z.removed; spares = z.spares }

pub Node::remove_inside-returns-then-not-starts : goal.Node::remove_inside-returns-then-not-starts
Node::remove_inside-returns-then-not-starts g t c =
    let h : 0 < c.self.inside.levels → 5 * c.self.inside.levels < length c.args.path.now = elim c.else-self-gt0.branch [
      | Node::remove_inside-else-self-gt0-via-then-self-gt0+else-len-self w ↦ λ p. omega (arith, w.if-len-self.false, w.len.ensures)
      | Node::remove_inside-else-self-gt0-via-else-self-gt0 w ↦ λ p. absurd (omega (arith, w.if-self-gt0.false, p))
    ] in
    let z = skipped_cut_none c.self.inside.levels c.self.inside.skip c.self.inside.branch c.self.view_is h
    (not_true c.starts.result c.starts.ensures.1 c.if-not-starts.true) in
    record { removed = z.removed; spares = z.spares }

pub Node::remove_inside-returns-then-is_bare : goal.Node::remove_inside-returns-then-is_bare
Node::remove_inside-returns-then-is_bare g t c =
    let x = c.remove_inside-entries.ensures in
    let went = c.remove_inside-entries.result in
    let b = skipped_cut_bare c.self.inside.levels c.self.inside.skip c.self.inside.branch c.remove_inside-entries.new.self
    c.self.view_is (c.starts.ensures.0 c.if-not-starts.false) c.past.ensures (c.is_bare.ensures.bare c.if-is_bare.true)
    (record { removed = x.removed; spares = x.spares }) in
    let z = subst (λ k. IsCutOut c.args.path.now c.args.self.now (went.0, went.1 + k) c.remove_inside-entries.new.self)
    (sym c.from.ensures) b in
    record { removed = z.removed; spares = z.spares }

pub Node::remove_inside-returns : goal.Node::remove_inside-returns
Node::remove_inside-returns g t c =
    let x = c.remove_inside-entries.ensures in
    let z = skipped_cut c.self.inside.levels c.self.inside.skip c.self.inside.branch c.remove_inside-entries.new.self c.self.view_is
    c.join.ensures (c.starts.ensures.0 c.if-not-starts.false) c.past.ensures (c.is_bare.ensures.full c.if-is_bare.false)
    (record { removed = x.removed; spares = x.spares }) in
    record { removed = z.removed; spares = z.spares }
