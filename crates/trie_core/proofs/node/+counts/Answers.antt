use Rattle.std.proofs.Common.{◌≤◌, length, ap, arith, refl}
use Rattle.shape.specs.Shapes.{shape_children}
use Rattle.trie_core.specs.InnerCount.{all_nodes, total, entry_count}
use Rattle.trie_core.proofs.SkippedRemovals.{skipped_counts}
use Rattle.trie_core.proofs.Seen.{seen, height-read, entries_of, total_step, total-all}
use Rattle.trie_core.proofs.node.+counts.Goals as goal

-- ---- a node

pub Node::counts-counts-entries-requires : goal.Node::counts-counts-entries-requires
Node::counts-counts-entries-requires g t c κs within =
    let s = skipped_counts c.self.inside.levels c.self.inside.skip c.self.inside.branch c.self.view_is in
    (omega (arith, s.levels), (within, (omega (arith, s.entries, c.requires.entries), omega (arith, s.nodes, c.requires.nodes))))

pub Node::counts-overflow_add-result : goal.Node::counts-overflow_add-result
Node::counts-overflow_add-result g t c =
    omega (
      arith,
      (skipped_counts c.self.inside.levels c.self.inside.skip c.self.inside.branch c.self.view_is).nodes,
      c.counts-entries.ensures.nodes,
      c.from.ensures,
      c.requires.nodes,
    )

pub Node::counts-returns-clause-entries : goal.Node::counts-returns-clause-entries
Node::counts-returns-clause-entries g t c =
    omega (
      arith,
      (skipped_counts c.self.inside.levels c.self.inside.skip c.self.inside.branch c.self.view_is).entries,
      c.counts-entries.ensures.entries,
    )

pub Node::counts-returns-clause-nodes : goal.Node::counts-returns-clause-nodes
Node::counts-returns-clause-nodes g t c =
    omega (
      arith,
      (skipped_counts c.self.inside.levels c.self.inside.skip c.self.inside.branch c.self.view_is).nodes,
      c.counts-entries.ensures.nodes,
      c.from.ensures,
    )

-- ---- a branch

pub Branch::counts-counts-more-requires : goal.Branch::counts-counts-more-requires
Branch::counts-counts-more-requires g t c κs within =
    let s = seen c.self.invariant c.self.view_is in
    let n = total_step entry_count c.children-child-items.ensures c.loop-child-test.true c.child-item.is in
    let m = total_step all_nodes c.children-child-items.ensures c.loop-child-test.true c.child-item.is in
    let i = c.loop-child.child-index in (
      omega (arith, height-read (shape_children c.self.inside.body) i c.child-item.result n.0, ap (λ x. x.levels) n.1, s.height),
      (within, (omega (arith, n.2, n.3, entries_of s, c.requires.entries), omega (arith, m.2, m.3, s.count, c.requires.nodes))),
    )

pub Branch::counts-overflow_add-entries : goal.Branch::counts-overflow_add-entries
Branch::counts-overflow_add-entries g t c =
    let n = total_step entry_count c.children-child-items.ensures c.loop-child-test.true c.child-item.is in
    let h = c.self.invariant in
    let e = entries_of (seen h c.self.view_is) in
    omega (arith, n.2, n.3, e, c.requires.entries, c.loop-child.invariant.entries, c.counts-more.ensures.entries, h.values_counted)

pub Branch::counts-overflow_add-nodes : goal.Branch::counts-overflow_add-nodes
Branch::counts-overflow_add-nodes g t c =
    let n = total_step all_nodes c.children-child-items.ensures c.loop-child-test.true c.child-item.is in
    omega (
      arith,
      n.2,
      n.3,
      (seen c.self.invariant c.self.view_is).count,
      c.requires.nodes,
      c.loop-child.invariant.nodes,
      c.counts-more.ensures.nodes,
    )

pub Branch::counts-loop-child-preserved : goal.Branch::counts-loop-child-preserved
Branch::counts-loop-child-preserved g t c = record {
  entries = omega (
    arith,
    (total_step entry_count refl c.loop-child-test.true c.child-item.is).2,
    c.loop-child.invariant.entries,
    c.counts-more.ensures.entries,
  );
  nodes = omega (
    arith,
    (total_step all_nodes refl c.loop-child-test.true c.child-item.is).2,
    c.loop-child.invariant.nodes,
    c.counts-more.ensures.nodes,
  );
}

pub Branch::counts-returns : goal.Branch::counts-returns
Branch::counts-returns g t c =
    let h = c.self.invariant in
    let k = c.loop-child.invariant in
    let s = seen h c.self.view_is in
    let v = c.children-child-items.ensures in
    let ls = c.children-child-items.result.now in
    let i = c.loop-child.child-index in
    let all : length ls ≤ i = omega (arith, c.loop-child-test.false) in
    record {
      entries = omega (arith, total-all entry_count ls i all, ap (total entry_count) v, entries_of s, k.entries, h.values_counted);
      nodes = omega (arith, total-all all_nodes ls i all, ap (total all_nodes) v, s.count, k.nodes);
    }
