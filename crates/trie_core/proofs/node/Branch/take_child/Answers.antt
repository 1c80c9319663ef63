use Rattle.std.proofs.Common.{◌-◌, ◌^◌, ◌∙◌, sym, ap, subst, arith}
use Rattle.shape.specs.Shapes.{shape_children}
use Rattle.trie_core.specs.InnerNodes.{AreBelow}
use Rattle.trie_core.specs.InnerRemovals.{IsRemoved}
use Rattle.trie_core.proofs.Seen.{seen, viewed}
use Rattle.trie_core.proofs.Shapes.{values_as}
use Rattle.trie_core.proofs.Changes.{way, childless}
use Rattle.trie_core.proofs.Inside.{child_entries, child_nodes}
use Rattle.trie_core.proofs.Left.{set_below, out_none, out_child}
use Rattle.trie_core.proofs.Removals.{removed_none, removed_whole}
use Rattle.trie_core.proofs.node.Branch.take_child.Goals as goal

pub remove_child-child-requires : goal.remove_child-child-requires
remove_child-child-requires g c =
    (way c.args.path.now (seen c.self.invariant c.self.view_is) c.five-number.ensures.value c.in-Some.ensures).within

pub discarded-requires-clause-entries : goal.discarded-requires-clause-entries
discarded-requires-clause-entries g c =
    let s = seen c.self.invariant c.self.view_is in
    omega (
      arith,
      child_entries c.args.path.now c.remove_child-child.result s
          (way c.args.path.now s c.five-number.ensures.value c.in-Some.ensures) c.remove_child-child.ensures.child,
      c.requires.entries,
    )

pub discarded-requires-clause-nodes : goal.discarded-requires-clause-nodes
discarded-requires-clause-nodes g c =
    let s = seen c.self.invariant c.self.view_is in
    omega (
      arith,
      child_nodes c.args.path.now c.remove_child-child.result s
          (way c.args.path.now s c.five-number.ensures.value c.in-Some.ensures) c.remove_child-child.ensures.child,
      c.requires.nodes,
    )

pub invariant_of-self : goal.invariant_of-self
invariant_of-self g c =
    let s = seen c.self.invariant c.self.view_is in
    values_as
    (childless c.args.path.now c.remove_child-child.result s (omega (arith, c.requires.five))
    (way c.args.path.now s c.five-number.ensures.value c.in-Some.ensures) c.remove_child-child.ensures.child
    (c.bit.ensures ∙ ap (λ i. 2 ^ i) c.five-number.ensures.value) c.remove_child-child.ensures.children).slots
    c.remove_child-child.ensures.values

pub returns-in-None-clause-removed : goal.returns-in-None-clause-removed
returns-in-None-clause-removed g c =
    removed_none c.args.path.now (seen c.self.invariant c.self.view_is)
    (omega (arith, c.requires.five)) c.five-number.ensures.value c.in-None.ensures

pub returns-in-Some-clause-removed : goal.returns-in-Some-clause-removed
returns-in-Some-clause-removed g c =
    let s = seen c.self.invariant c.self.view_is in
    subst (λ l. IsRemoved c.args.path.now c.args.self.now c.discarded.result
    (viewed c.self.inside.value_bits l (c.self.inside.child_bits - c.bit.result)
    (shape_children c.remove_child-child.new.self))) (sym c.remove_child-child.ensures.values)
    (removed_whole c.args.path.now c.remove_child-child.result s c.requires.five
    (way c.args.path.now s c.five-number.ensures.value c.in-Some.ensures) c.remove_child-child.ensures.child
    (c.bit.ensures ∙ ap (λ i. 2 ^ i) c.five-number.ensures.value) c.remove_child-child.ensures.children
    c.discarded.ensures.entries c.discarded.ensures.nodes)

pub returns-in-None-clause-spares : goal.returns-in-None-clause-spares
returns-in-None-clause-spares g c =
    out_none c.args.path.now (seen c.self.invariant c.self.view_is)
    (omega (arith, c.requires.five)) c.five-number.ensures.value c.in-None.ensures

pub returns-in-Some-clause-spares : goal.returns-in-Some-clause-spares
returns-in-Some-clause-spares g c =
    let s = seen c.self.invariant c.self.view_is in
    out_child c.args.path.now s c.requires.five (way c.args.path.now s c.five-number.ensures.value c.in-Some.ensures)
    (c.bit.ensures ∙ ap (λ i. 2 ^ i) c.five-number.ensures.value) c.remove_child-child.ensures.children

pub returns-in-None-clause-below : goal.returns-in-None-clause-below
returns-in-None-clause-below g c = subst AreBelow (seen c.self.invariant c.self.view_is).spare (set_below c.self.invariant)

pub returns-in-Some-clause-below : goal.returns-in-Some-clause-below
returns-in-Some-clause-below g c = set_below (invariant_of-self g c)
