use Rattle.std.proofs.Common.{◌+◌, ◌∙◌, cond, sym, ap, nat_cmp, arith}
use Rattle.std.specs.FinMap.{find, get, len}
use Rattle.shape.specs.Shapes.{shape_values}
use Rattle.trie_core.specs.InnerNodes.{node_height}
use Rattle.trie_core.specs.InnerPlaces.{at_places, child_list}
use Rattle.trie_core.specs.InnerCount.{all_nodes, spare_set}
use Rattle.trie_core.proofs.Seen.{seen, viewed, map_of, value_at, removed}
use Rattle.trie_core.proofs.Changes.{value_slots, value_taken_map, value_count}
use Rattle.trie_core.proofs.Maps.{remove_absent}
use Rattle.trie_core.proofs.Marks.{set-short}
use Rattle.trie_core.proofs.node.Branch.take_value.Goals as goal

pub returns : goal.returns
returns g c =
    let s = seen c.self.invariant c.self.view_is in
    let t = value_slots s c.take_value.ensures.counted (omega (arith, c.take_value.ensures.below, c.self.invariant.values_below)) in
    let k = c.take_value.ensures.children in
    let m = ap (map_of c.take_value.new.taken (shape_values c.take_value.new.body) c.self.inside.child_bits) k
    ∙ value_taken_map c.args.path.now s t c.requires c.place.ensures.value c.take_value.ensures.items in
    let v = c.take_value.ensures.value
    ∙ ap (λ n. find nat_cmp n (at_places 32 0 c.self.inside.value_bits (shape_values c.self.inside.body))) c.place.ensures.value
    ∙ value_at c.args.path.now s c.requires in
    record {
      map = m;
      entries = ap (λ m. len m + cond c.is_some.result 1 0) m
          ∙ removed c.args.self.now.entries c.args.path.now c.take_value.result c.is_some.result v (sym c.is_some.ensures);
      spares = ap (λ l. spare_set (child_list c.self.inside.child_bits l)) k ∙ s.spare
          ∙ sym (remove_absent c.args.self.now.spares c.args.path.now
          (ap (λ b. get b c.args.path.now) (sym s.spare) ∙ set-short s.node c.args.path.now c.requires));
      count = ap (λ l. all_nodes (viewed c.take_value.new.taken (shape_values c.take_value.new.body) c.self.inside.child_bits l)) k
          ∙ value_count s t;
      levels = ap (λ l. node_height l + 1) k ∙ s.height;
    }
