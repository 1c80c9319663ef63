use Rattle.std.proofs.Common.{refl, ◌∙◌}
use Rattle.shape.proofs.With.{values_with, children_with_value}
use Rattle.trie_core.proofs.Seen.{seen, viewed}
use Rattle.trie_core.proofs.Lent.{stored_here, value_slot, value_here, lent_here}
use Rattle.trie_core.proofs.node.Branch.value_here.Goals as goal

pub unreachable-requires : goal.unreachable-requires
unreachable-requires g c = stored_here c.args.path.now (seen c.self.invariant c.self.view_is) c.requires.short c.place.ensures.value c.in_default.ensures c.requires.stored

pub value_mut-requires : goal.value_mut-requires
value_mut-requires g c = (value_slot c.args.path.now (seen c.self.invariant c.self.view_is) c.requires.short c.place.ensures.value c.in-Some.ensures).within

pub returns : goal.returns
returns g c =
    let s = seen c.self.invariant c.self.view_is in
    let t = value_slot c.args.path.now s c.requires.short c.place.ensures.value c.in-Some.ensures in (
      (refl, λ w. (λ i. viewed c.self.inside.value_bits (values_with c.self.inside.body c.in-Some.at w t.within i) c.self.inside.child_bits (children_with_value c.self.inside.body c.in-Some.at w i)) ∙ lent_here c.args.path.now w s c.requires.short c.place.ensures.value t),
      record {
        writes_back = tt;
        value = value_here c.args.path.now c.value_mut.result.now s c.requires.short c.place.ensures.value t c.value_mut.ensures.value;
      },
    )
