use Rattle.std.proofs.Common.{◌≡◌, ◌+◌, ◌-◌, ◌*◌, ◌^◌, ◌<◌, ◌≤◌, ◌∙◌, Bool, true, List, [], ◌∷◌, refl, sym, ap, subst, length, drop, get_or, nat_lt, IsTrue, ◌↔◌, length-drop, arith}
use Rattle.std.proofs.lemmas.Bool.Decides.{nat_tests}
use Rattle.std.proofs.lemmas.Nat.Bits.{bit_at-zero}
use Rattle.shape.specs.Shapes.{shape_values, shape_children}
use Rattle.trie_core.specs.Count.{node_visits}
use Rattle.trie_core.specs.Nodes.{Seen}
use Rattle.trie_core.specs.InnerNodes.{HasSlots}
use Rattle.trie_core.specs.InnerInsertedBelow.{IsInsertedBelow, bare}
use Rattle.trie_core.specs.InnerChains.{chain, skipped}
use Rattle.trie_core.specs.InnerPlaces.{child_of}
use Rattle.trie_core.specs.InnerSearch.{HasNoChild, IsLeaf}
use Rattle.trie_core.proofs.Seen.{seen, viewed, is_child, has_no_child}
use Rattle.trie_core.proofs.Searches.{no_child_get, child_visits}
use Rattle.trie_core.proofs.Taken.{missing}
use Rattle.trie_core.proofs.Visits.{visits_some_node}
use Rattle.trie_core.proofs.Changes.{way, child_slots}
use Rattle.trie_core.proofs.InsertedBelow.{not_short, exchanged_new, leaf_new}
use Rattle.trie_core.proofs.SkippedLeaves.{skipped_leaf}
use Rattle.trie_core.proofs.Shapes.{values_as}
use Rattle.trie_core.proofs.Skipped.{made_new, no_slots, nothing, lone_slots, lone_exchanged}
use Rattle.trie_core.proofs.node.Branch.+below.Goals as goal

-- ---- in a new child of a branch

pub store_below-unreachable-requires : goal.store_below-unreachable-requires
store_below-unreachable-requires g t c =
    let q = c.of_parts-path.result in
    let m = c.args.self.now in
    let l : 5 ≤ length q = omega (arith, c.of_parts-path.ensures.len, c.requires.long) in
    let s = seen c.self.invariant c.self.view_is in
    let k = way q s c.five-number.ensures.value c.in_default.ensures in
    let d = get_or (shape_children c.self.inside.body) c.in_default.field-0 m in
    let v = child_visits (is_child q d s l (k.read m)) refl in
    let one : node_visits m.entries m.spares q ≡ 1 = ap (node_visits m.entries m.spares) c.of_parts-path.ensures.string ∙ c.requires.free.visits in
    omega (arith, v, one, visits_some_node d.entries d.spares (drop 5 q))

pub store_below-returns-then-not-insertion-clause-absent : goal.store_below-returns-then-not-insertion-clause-absent
store_below-returns-then-not-insertion-clause-absent g t c h = no_child_get c.requires.free

pub store_below-invariant_of-self-2 : goal.store_below-invariant_of-self-2
store_below-invariant_of-self-2 g t c = values_as (child_slots c.self.invariant c.put_child.ensures.counted (c.put_child.ensures.below 32 c.five-number.ensures.below c.self.invariant.children_below)) (c.put_child.ensures.values ∙ c.reserve_child.ensures.values)

pub store_below-filled-requires : goal.store_below-filled-requires
store_below-filled-requires g t c κs within =
    let n = ap length c.past.ensures ∙ length-drop (5 * c.skippable-levels.result) c.rest-rest.result in
    let r = ap length c.rest-rest.ensures ∙ length-drop 5 c.of_parts-path.result in
    (omega (arith, n, r, c.of_parts-path.ensures.len, c.requires.long), (within, (c.requires.held, c.if-not-insertion.false)))

pub store_below-returns-in_default-filled-clause-absent : goal.store_below-returns-in_default-filled-clause-absent
store_below-returns-in_default-filled-clause-absent g t c h = no_child_get c.requires.free

pub store_below-returns-clause-stored : goal.store_below-returns-clause-stored
store_below-returns-clause-stored g t c h =
    let q = c.of_parts-path.result in
    let o = c.args.insertion.now in
    let made = c.filled.new.insertion.made in
    let out = c.filled.new.insertion.held in
    let b = c.in-Some.branch in
    let l : 5 ≤ length q = omega (arith, c.of_parts-path.ensures.len, c.requires.long) in
    let k = c.skippable-levels.result in
    let less = o.room - (c.from-more.result + 1) in
    let x = subst (λ grow. IsInsertedBelow c.past.result o.held grow less bare made out b) c.if-not-insertion.false c.in-Some.ensures.stored in
    let d = chain k (skipped k c.head.result) b in
    let z = made_new k c.head.result c.rest-rest.result c.past.result bare b c.head.ensures.starts c.past.ensures c.requires.held refl refl refl x in
    let m : made + k + 1 ≡ made + (c.from-more.result + 1) = omega (arith, c.from-more.ensures) in
    let v = c.put_child.ensures.values ∙ c.reserve_child.ensures.values in
    let after = λ (vs : List g.row.T.Denot). viewed c.self.inside.value_bits vs c.put_child.new.taken (shape_children c.put_child.new.body) in
    subst (λ p. IsInsertedBelow p o.held o.may_grow o.room c.args.self.now (made + (c.from-more.result + 1)) out (after (shape_values c.put_child.new.body))) c.of_parts-path.ensures.string
    (subst (λ n. IsInsertedBelow q o.held o.may_grow o.room c.args.self.now n out (after (shape_values c.put_child.new.body))) m
    (subst (λ vs. IsInsertedBelow q o.held o.may_grow o.room c.args.self.now (made + k + 1) out (after vs)) (sym v)
    (exchanged_new (shape_children c.put_child.new.body) q bare d (seen c.self.invariant c.self.view_is) l c.five-number.ensures.value c.in-None.ensures
    c.reserve_child.ensures.children c.put_child.ensures.items c.put_child.ensures.counted (c.put_child.ensures.below 32 c.five-number.ensures.below c.self.invariant.children_below)
    refl refl refl c.rest-rest.ensures c.requires.held c.if-not-insertion.false (omega (arith, x.within, c.from-more.ensures, c.if-insertion-more.false)) z)))

pub store_below-returns-clause-leaf : goal.store_below-returns-clause-leaf
store_below-returns-clause-leaf g t c h =
    let q = c.of_parts-path.result in
    let l : 5 ≤ length q = omega (arith, c.of_parts-path.ensures.len, c.requires.long) in
    let k = c.skippable-levels.result in
    let b = c.in-Some.branch in
    let f = skipped_leaf k c.head.result c.rest-rest.result c.past.result b refl c.head.ensures.starts c.past.ensures c.in-Some.ensures.leaf in
    subst (λ p. IsTrue c.filled.new.insertion.is_leaf ↔ IsLeaf (viewed c.self.inside.value_bits (shape_values c.put_child.new.body) c.put_child.new.taken (shape_children c.put_child.new.body)) p) c.of_parts-path.ensures.string
    (leaf_new _ q (chain k (skipped k c.head.result) b) (store_below-invariant_of-self-2 g t c) l
    c.five-number.ensures.value c.put_child.ensures.items c.rest-rest.ensures f)

-- ---- in a new branch

is_short : {b : Bool} (q : List Bool) → b ≡ nat_lt (length q) 5 → b ≡ true → length q < 5
is_short q e f = let g : nat_lt (length q) 5 ≡ true = sym e ∙ f in grind (arith, nat_tests)

pub filled-store_below-requires : goal.filled-store_below-requires
filled-store_below-requires g t c κs within =
    let e = c.new-branch.result in
    let l = not_short c.args.path c.is_short.ensures c.if-not-is_short.true in
    let n = child_of c.args.path in
    let s = seen no_slots (nothing e c.new-branch.ensures.map c.new-branch.ensures.spares c.new-branch.ensures.levels) in
    let free = subst (λ q. HasNoChild q e) (sym c.parts-bits.ensures.string) (has_no_child c.args.path s l (sym (missing n 0 [] (bit_at-zero n)))) in
    (omega (arith, c.parts-bits.ensures.len), (within, (c.parts-bits.ensures.aligned, (omega (arith, c.parts-bits.ensures.len, l), (free, c.requires.held)))))

pub filled-invariant_of-branch : goal.filled-invariant_of-branch
filled-invariant_of-branch g t c = subst (λ w. HasSlots {Y = Seen g.row.T.Denot} w (c.in-Some.value ∷ []) 0 []) (sym c.bit.ensures) (lone_slots c.place.result c.in-Some.value c.place.ensures.below)

pub filled-returns-clause-stored : goal.filled-returns-clause-stored
filled-returns-clause-stored g t c =
    let o = c.args.insertion.now in
    let q = c.args.path in
    let v = c.in-Some.value in
    let x = lone_exchanged {room = o.room} q v (is_short q c.is_short.ensures c.if-not-is_short.false) c.place.ensures.value c.place.ensures.below (sym c.take.ensures.value ∙ c.in-Some.is) c.requires.grows in
    subst (λ w. IsInsertedBelow q o.held o.may_grow o.room bare 0 c.take.new.self (viewed w (v ∷ []) 0 [])) (sym c.bit.ensures)
    (subst (λ h. IsInsertedBelow q o.held o.may_grow o.room bare 0 h (viewed (2 ^ c.place.result) (v ∷ []) 0 [])) (sym c.take.ensures.after) x)
