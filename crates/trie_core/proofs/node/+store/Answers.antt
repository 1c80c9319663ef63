use Rattle.std.proofs.Common.{◌∙◌, refl, sym, ap, subst, length, IsTrue, ◌↔◌, length-drop, arith}
use Rattle.std.specs.FinMap.{get}
use Rattle.shape.specs.Shapes.{shape_children}
use Rattle.trie_core.specs.InnerInsertedBelow.{IsStored}
use Rattle.trie_core.specs.InnerChains.{chain, skipped}
use Rattle.trie_core.specs.InnerPlaces.{child_of, IsUnset}
use Rattle.trie_core.specs.InnerSearch.{HasNoChild, IsLeaf}
use Rattle.trie_core.proofs.Seen.{seen, has_no_child}
use Rattle.trie_core.proofs.Taken.{missing}
use Rattle.trie_core.proofs.Changes.{way, was}
use Rattle.trie_core.proofs.InsertedBelow.{not_short, exchanged_below, leaf_in}
use Rattle.trie_core.proofs.SkippedLeaves.{skipped_leaf}
use Rattle.trie_core.proofs.Shapes.{written}
use Rattle.trie_core.proofs.Skipped.{skipped_get, skipped_none, skipped_exchanged}
use Rattle.trie_core.proofs.node.+store.Goals as goal

-- ---- in a child of a branch

pub Branch::store-child_mut-child-requires : goal.Branch::store-child_mut-child-requires
Branch::store-child_mut-child-requires g t c = (way c.args.path (seen c.self.invariant c.self.view_is) c.five.ensures.value c.in-Some.ensures).within

pub Branch::store-returns-in-Some-clause-stored : goal.Branch::store-returns-in-Some-clause-stored
Branch::store-returns-in-Some-clause-stored g t c h =
    let s = seen c.self.invariant c.self.view_is in
    let o = c.args.insertion.now in
    let x = c.insert_below.ensures.stored h in
    subst (IsStored c.args.path o c.insert_below.new.insertion c.args.self.now) (written c.self.inside.value_bits c.self.inside.child_bits c.in-Some.at c.insert_below.new.self c.self.inside.body)
    (exchanged_below c.args.path c.child_mut-child.result.now c.insert_below.new.self s (not_short c.args.path c.is_short.ensures c.if-is_short.false) (way c.args.path s c.five.ensures.value c.in-Some.ensures) c.child_mut-child.ensures.value (c.parts-bits-in-Some.ensures.string ∙ c.rest.ensures) c.requires.held x)

pub Branch::store-returns-in-Some-clause-absent : goal.Branch::store-returns-in-Some-clause-absent
Branch::store-returns-in-Some-clause-absent g t c h =
    let s = seen c.self.invariant c.self.view_is in
    let e = c.parts-bits-in-Some.ensures.string ∙ c.rest.ensures in
    let w = was c.args.path c.child_mut-child.result.now s (not_short c.args.path c.is_short.ensures c.if-is_short.false) (way c.args.path s c.five.ensures.value c.in-Some.ensures) c.child_mut-child.ensures.value in
    sym w ∙ ap (get c.child_mut-child.result.now.entries) (sym e) ∙ c.insert_below.ensures.absent h

pub Branch::store-returns-in-Some-clause-leaf : goal.Branch::store-returns-in-Some-clause-leaf
Branch::store-returns-in-Some-clause-leaf g t c h =
    let s = seen c.self.invariant c.self.view_is in
    let l = not_short c.args.path c.is_short.ensures c.if-is_short.false in
    let k = way c.args.path s c.five.ensures.value c.in-Some.ensures in
    let d = c.insert_below.new.self in
    let w = written c.self.inside.value_bits c.self.inside.child_bits c.in-Some.at d c.self.inside.body in
    subst (λ m. IsTrue c.insert_below.new.insertion.is_leaf ↔ IsLeaf m c.args.path) w
    (leaf_in c.args.path d s l k (c.parts-bits-in-Some.ensures.string ∙ c.rest.ensures) (c.insert_below.ensures.leaf h))

pub Branch::store-insert_below-requires : goal.Branch::store-insert_below-requires
Branch::store-insert_below-requires g t c κs within =
    let n = c.parts-bits-in-Some.ensures.len ∙ ap length c.rest.ensures ∙ length-drop 5 c.args.path in
    (omega (arith, n, not_short c.args.path c.is_short.ensures c.if-is_short.false), (within, (c.parts-bits-in-Some.ensures.aligned, c.requires.held)))

-- ---- in a new child of a branch

pub Branch::store-store_below-requires-clause-free : goal.Branch::store-store_below-requires-clause-free
Branch::store-store_below-requires-clause-free g t c =
    subst (λ q. HasNoChild q c.args.self.now) (sym c.parts-bits-2.ensures.string)
    (has_no_child c.args.path (seen c.self.invariant c.self.view_is) (not_short c.args.path c.is_short.ensures c.if-is_short.false)
    (sym (missing (child_of c.args.path) c.self.inside.child_bits (shape_children c.self.inside.body) (subst (λ i. IsUnset i c.self.inside.child_bits) c.five.ensures.value c.in_default.ensures))))

-- ---- in a node

pub Node::insert_below-returns-then-not-leads-clause-absent : goal.Node::insert_below-returns-then-not-leads-clause-absent
Node::insert_below-returns-then-not-leads-clause-absent g t c h =
    ap (get c.args.self.now.entries) (sym c.of_parts-path.ensures.string)
    ∙ skipped_none c.self.inside.levels c.self.inside.skip c.of_parts-path.result c.self.inside.branch c.args.self.now c.self.view_is (c.if-not-leads.ensures.leaves refl)

pub Node::insert_below-returns-clause-stored : goal.Node::insert_below-returns-clause-stored
Node::insert_below-returns-clause-stored g t c h =
    subst (λ p. IsStored p c.args.insertion.now c.store.new.insertion c.args.self.now (chain c.leads.new.levels (skipped c.leads.new.levels c.leads.new.skip) c.store.new.self)) c.of_parts-path.ensures.string
    (skipped_exchanged c.leads.new.levels c.leads.new.skip c.leads.new.branch c.store.new.self (c.leads.ensures.same ∙ c.self.view_is) (c.if-not-leads.ensures.starts refl) c.past.ensures c.requires.held (c.store.ensures.stored h))

pub Node::insert_below-returns-clause-leaf : goal.Node::insert_below-returns-clause-leaf
Node::insert_below-returns-clause-leaf g t c h =
    subst (λ p. IsTrue c.store.new.insertion.is_leaf ↔ IsLeaf (chain c.leads.new.levels (skipped c.leads.new.levels c.leads.new.skip) c.store.new.self) p) c.of_parts-path.ensures.string
    (skipped_leaf c.leads.new.levels c.leads.new.skip c.of_parts-path.result c.past.result c.store.new.self refl (c.if-not-leads.ensures.starts refl) c.past.ensures (c.store.ensures.leaf h))

pub Node::insert_below-returns-clause-absent : goal.Node::insert_below-returns-clause-absent
Node::insert_below-returns-clause-absent g t c h =
    ap (get c.args.self.now.entries) (sym c.of_parts-path.ensures.string)
    ∙ skipped_get c.leads.new.levels c.leads.new.skip c.of_parts-path.result c.past.result c.leads.new.branch c.args.self.now (c.leads.ensures.same ∙ c.self.view_is) (c.if-not-leads.ensures.starts refl) c.past.ensures
    ∙ c.store.ensures.absent h
