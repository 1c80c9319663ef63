use Rattle.std.proofs.Common.{◌+◌, length, ap, ◌∙◌, length-set, arith}
use Rattle.std.specs.List.{remove as remove_at}
use Rattle.shape.specs.Shapes.{shape_children}
use Rattle.shape.proofs.With.{children_with, values_with_child}
use Rattle.trie_core.proofs.SkippedRemovals.{skipped_counts, skipped_tidied, skipped_bared, tidy_written, tidy_kept, spare_none}
use Rattle.trie_core.proofs.Seen.{seen}
use Rattle.trie_core.proofs.Changes.{not_bare}
use Rattle.trie_core.proofs.Tidying.{tidy_start, tidy_past, slot_within, child_fewer, child_lower, tidy_stays, tidy_goes, tidied}
use Rattle.trie_core.proofs.node.+take_spares.Goals.{Branch::take_spares-then-is_bare, Branch::take_spares-else-is_bare}
use Rattle.trie_core.proofs.node.+take_spares.Goals as goal

-- ---- a branch

pub Branch::take_spares-number-init : goal.Branch::take_spares-number-init
Branch::take_spares-number-init g t c = tidy_start (seen c.self.invariant c.self.view_is)

pub Branch::take_spares-number-preserved-in_default : goal.Branch::take_spares-number-preserved-in_default
Branch::take_spares-number-preserved-in_default g t c = tidy_past c.number.invariant c.in_default.ensures

pub Branch::take_spares-child_mut-child-requires : goal.Branch::take_spares-child_mut-child-requires
Branch::take_spares-child_mut-child-requires g t c = slot_within c.number.invariant c.number-test.true c.in-Some.ensures

pub Branch::take_spares-take_spares-gone-requires : goal.Branch::take_spares-take_spares-gone-requires
Branch::take_spares-take_spares-gone-requires g t c κs within =
    let e = c.child_mut-child.result.now in
    let i = c.number.invariant in (
      omega (arith, child_lower e i c.number-test.true c.in-Some.ensures c.child_mut-child.ensures.value),
      (within, omega (arith, child_fewer e i c.number-test.true c.in-Some.ensures c.child_mut-child.ensures.value, c.requires)),
    )

pub Branch::take_spares-overflow_add-gone : goal.Branch::take_spares-overflow_add-gone
Branch::take_spares-overflow_add-gone g t c =
    let e = c.child_mut-child.result.now in
    omega (
      arith,
      child_fewer e c.number.invariant c.number-test.true c.in-Some.ensures c.child_mut-child.ensures.value,
      c.take_spares-gone.ensures.count,
      c.requires,
    )

pub Branch::take_spares-remove_child-requires : goal.Branch::take_spares-remove_child-requires
Branch::take_spares-remove_child-requires g t c =
    let b = c.number.self-inside.body in
    let d = c.take_spares-gone.new.self in
    let w = slot_within c.number.invariant c.number-test.true c.in-Some.ensures in
    omega (arith, w, ap length (children_with b c.in-Some.at d), length-set (shape_children b) c.in-Some.at d)

pub Branch::take_spares-overflow_add-gone-then-is_bare : goal.Branch::take_spares-overflow_add-gone-then-is_bare
Branch::take_spares-overflow_add-gone-then-is_bare g t c =
    let e = c.child_mut-child.result.now in
    omega (
      arith,
      child_fewer e c.number.invariant c.number-test.true c.in-Some.ensures c.child_mut-child.ensures.value,
      c.take_spares-gone.ensures.count,
      c.is_bare.ensures.count c.if-is_bare.true,
      c.requires,
    )

pub Branch::take_spares-number-preserved : goal.Branch::take_spares-number-preserved
Branch::take_spares-number-preserved g t c =
    let b = c.number.self-inside.body in
    let at = c.in-Some.at in
    let e = c.child_mut-child.result.now in
    let d = c.take_spares-gone.new.self in
    let s = c.take_spares-gone.ensures in
    let u = c.in-Some.ensures in
    let r = c.child_mut-child.ensures.value in
    elim c.if-is_bare.branch [
      | Branch::take_spares-then-is_bare w ↦
          let bare = c.is_bare.ensures.bare.0 w.if-is_bare.true in
          let x = w.remove_child.ensures.children ∙ ap (λ l. remove_at l at) (children_with b at d) in
          rw (w.gone-is, w.self-inside-is)
          (tidy_kept (w.remove_child.ensures.values ∙ values_with_child b at d)
          (tidy_goes e c.number.invariant c.number-test.true u r d
          (c.number.gone + c.take_spares-gone.result + 1) s.map bare.0
          (omega (arith, s.count, c.is_bare.ensures.count w.if-is_bare.true)) w.bit.ensures x))
      | Branch::take_spares-else-is_bare w ↦
          rw (w.gone-is, w.self-inside-is)
          (tidy_written at d b (tidy_stays e c.number.invariant c.number-test.true u r d
          (c.number.gone + c.take_spares-gone.result) s.map
          (spare_none d s.spares (not_bare d c.is_bare.result c.is_bare.ensures.bare.1 w.if-is_bare.false))
          (omega (arith, s.count)) s.levels))
    ]

pub Branch::take_spares-returns-clause-count : goal.Branch::take_spares-returns-clause-count
Branch::take_spares-returns-clause-count g t c =
    (tidied c.number.invariant (omega (arith, c.number-test.false, c.number.auto.number-end))).count

pub Branch::take_spares-returns-clause-spares : goal.Branch::take_spares-returns-clause-spares
Branch::take_spares-returns-clause-spares g t c =
    (tidied c.number.invariant (omega (arith, c.number-test.false, c.number.auto.number-end))).spares

-- ---- a node

pub Node::take_spares-take_spares-gone-requires : goal.Node::take_spares-take_spares-gone-requires
Node::take_spares-take_spares-gone-requires g t c κs within =
    let s = skipped_counts c.self.inside.levels c.self.inside.skip c.self.inside.branch c.self.view_is in
    (omega (arith, s.levels), (within, omega (arith, s.nodes, c.requires)))

pub Node::take_spares-overflow_add-gone : goal.Node::take_spares-overflow_add-gone
Node::take_spares-overflow_add-gone g t c =
    omega (
      arith,
      (skipped_counts c.self.inside.levels c.self.inside.skip c.self.inside.branch c.self.view_is).nodes,
      c.take_spares-gone.ensures.count,
      c.from.ensures,
      c.requires,
    )

pub Node::take_spares-returns-then-is_bare-clause-map : goal.Node::take_spares-returns-then-is_bare-clause-map
Node::take_spares-returns-then-is_bare-clause-map g t c =
    skipped_bared c.self.inside.levels c.self.inside.skip c.self.inside.branch c.take_spares-gone.new.self c.self.view_is
    (c.is_bare.ensures.bare c.if-is_bare.true).entries c.take_spares-gone.ensures.map

pub Node::take_spares-returns-then-is_bare-clause-count : goal.Node::take_spares-returns-then-is_bare-clause-count
Node::take_spares-returns-then-is_bare-clause-count g t c =
    omega (
      arith,
      (skipped_counts c.self.inside.levels c.self.inside.skip c.self.inside.branch c.self.view_is).nodes,
      c.take_spares-gone.ensures.count,
      c.from.ensures,
    )

pub Node::take_spares-returns : goal.Node::take_spares-returns
Node::take_spares-returns g t c =
    let x = c.take_spares-gone.ensures in
    let z = skipped_tidied c.self.inside.levels c.self.inside.skip c.self.inside.branch c.take_spares-gone.new.self c.self.view_is
    c.join.ensures (c.is_bare.ensures.full c.if-is_bare.false)
    (record { map = x.map; spares = x.spares; count = x.count; levels = x.levels }) in
    record { map = z.map; spares = z.spares; count = z.count; levels = z.levels }
