use Rattle.std.proofs.Common.{◌∙◌, refl, sym, ap, subst, false, nat_cmp, arith}
use Rattle.std.specs.FinMap.{find}
use Rattle.shape.specs.Shapes.{shape_values, shape_children}
use Rattle.trie_core.specs.InnerPlaces.{at_places}
use Rattle.trie_core.specs.Ways.{IsPruned}
use Rattle.trie_core.specs.InnerRemovedBelow.{IsRemovedBelow}
use Rattle.trie_core.proofs.Shapes.{children_as}
use Rattle.trie_core.proofs.Seen.{seen, viewed, map_of, value_at}
use Rattle.trie_core.proofs.Changes.{value_slots, value_taken_map, value_count}
use Rattle.trie_core.proofs.Left.{left_short}
use Rattle.trie_core.proofs.node.Branch.take_here.Goals as goal

pub invariant_of-self : goal.invariant_of-self
invariant_of-self g c = children_as (value_slots (seen c.self.invariant c.self.view_is) c.take_value.ensures.counted (omega (arith, c.take_value.ensures.below, c.self.invariant.values_below))) c.take_value.ensures.children

pub returns : goal.returns
returns g c =
    let s = seen c.self.invariant c.self.view_is in
    let v = value_slots s c.take_value.ensures.counted (omega (arith, c.take_value.ensures.below, c.self.invariant.values_below)) in
    subst (λ l. IsRemovedBelow c.args.path c.args.self.now 0 c.take_value.result (viewed c.take_value.new.taken (shape_values c.take_value.new.body) c.self.inside.child_bits l)) (sym c.take_value.ensures.children) (record {
      value = c.take_value.ensures.value ∙ ap (λ n. find nat_cmp n (at_places 32 0 c.self.inside.value_bits (shape_values c.self.inside.body))) c.place.ensures.value ∙ value_at c.args.path s c.requires;
      map = value_taken_map c.args.path s v c.requires c.place.ensures.value c.take_value.ensures.items;
      spares = subst (λ b. IsPruned c.args.path c.args.self.now.spares (map_of c.take_value.new.taken (shape_values c.take_value.new.body) c.self.inside.child_bits (shape_children c.self.inside.body)) b) (sym s.spare) (left_short (λ x. false) c.args.path s c.requires (λ x. refl));
      count = omega (arith, value_count s v);
      levels = omega (arith, s.height);
      within = omega arith;
    })
