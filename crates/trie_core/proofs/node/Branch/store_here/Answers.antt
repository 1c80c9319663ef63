use Rattle.std.proofs.Common.{◌≡◌, ◌<◌, ◌∙◌, length, sym, ap, subst, Some, IsTrue, ◌↔◌, nat_cmp, arith}
use Rattle.trie_core.specs.InnerSearch.{IsLeaf}
use Rattle.std.specs.FinMap.{find, get, insert}
use Rattle.shape.specs.Shapes.{shape_values, shape_children}
use Rattle.trie_core.specs.InnerPlaces.{at_places}
use Rattle.trie_core.proofs.Seen.{seen, viewed, value_at}
use Rattle.trie_core.proofs.Changes.{value_slots, value_put_map, value_count}
use Rattle.trie_core.specs.InnerInsertedBelow.{IsInsertedBelow}
use Rattle.trie_core.proofs.Shapes.{children_as}
use Rattle.trie_core.proofs.Ways.{short_off}
use Rattle.trie_core.proofs.node.Branch.store_here.Goals as goal

pub invariant_of-self : goal.invariant_of-self
invariant_of-self g c = children_as (value_slots (seen c.self.invariant c.self.view_is) c.put_value.ensures.counted (c.put_value.ensures.below 31 c.place.ensures.below c.self.invariant.values_below)) c.put_value.ensures.children

pub returns-in-Ok-clause-leaf : goal.returns-in-Ok-clause-leaf
returns-in-Ok-clause-leaf g c h = subst (λ q. IsTrue c.is_leaf_here-insertion.result ↔ IsLeaf (viewed c.put_value.new.taken (shape_values c.put_value.new.body) c.self.inside.child_bits (shape_children c.put_value.new.body)) q) c.of_parts-path.ensures.string c.is_leaf_here-insertion.ensures

pub returns-in-Ok-clause-stored : goal.returns-in-Ok-clause-stored
returns-in-Ok-clause-stored g c h =
    let q = c.of_parts-path.result in
    let e = c.of_parts-path.ensures.string in
    let l : length q < 5 = omega (arith, c.of_parts-path.ensures.len, c.requires.short) in
    let t = c.args.insertion.now in
    let s = seen c.self.invariant c.self.view_is in
    let v = value_slots s c.put_value.ensures.counted (c.put_value.ensures.below 31 c.place.ensures.below c.self.invariant.values_below) in
    let stood = ap (λ n. find nat_cmp n (at_places 32 0 c.self.inside.value_bits (shape_values c.self.inside.body))) c.place.ensures.value ∙ value_at q s l in
    subst (λ p. IsInsertedBelow p t.held t.may_grow t.room c.args.self.now 0 c.in-Ok.old (viewed c.put_value.new.taken (shape_values c.put_value.new.body) c.self.inside.child_bits (shape_children c.put_value.new.body))) e
    (subst (λ cs. IsInsertedBelow q t.held t.may_grow t.room c.args.self.now 0 c.in-Ok.old (viewed c.put_value.new.taken (shape_values c.put_value.new.body) c.self.inside.child_bits cs)) (sym c.put_value.ensures.children) (record {
      old = c.in-Ok.ensures.old ∙ stood;
      map = λ u i.
          let d : Some c.in-Some.value ≡ Some u = sym c.in-Some.is ∙ c.take.ensures.value ∙ i in
          let f : c.in-Some.value ≡ u = cc in
          value_put_map q c.in-Some.value s v l c.place.ensures.value c.in-Ok.ensures.items ∙ ap (insert c.args.self.now.entries q) f;
      spares = s.spare ∙ short_off q s l;
      count = omega (arith, value_count s v);
      levels = omega (arith, s.height);
      within = omega arith;
      grows = λ d. c.in-Ok.ensures.grows (c.in-Ok.ensures.old ∙ stood ∙ d);
    }))

pub returns-in-Err-clause-absent : goal.returns-in-Err-clause-absent
returns-in-Err-clause-absent g c h =
    ap (get c.args.self.now.entries) (sym c.of_parts-path.ensures.string)
    ∙ sym (value_at c.of_parts-path.result (seen c.self.invariant c.self.view_is) (omega (arith, c.of_parts-path.ensures.len, c.requires.short)))
    ∙ ap (λ n. find nat_cmp n (at_places 32 0 c.self.inside.value_bits (shape_values c.self.inside.body))) (sym c.place.ensures.value) ∙ c.in-Err.ensures.absent
