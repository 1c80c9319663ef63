use Rattle.std.proofs.Common.{◌∙◌, ap, nat_cmp, arith}
use Rattle.std.specs.FinMap.{find}
use Rattle.shape.specs.Shapes.{shape_values}
use Rattle.trie_core.specs.InnerPlaces.{at_places}
use Rattle.trie_core.proofs.Seen.{seen, value_at}
use Rattle.trie_core.proofs.node.Branch.value.Goals as goal

pub value_at-requires : goal.value_at-requires
value_at-requires g c = record { below = omega (arith, c.place.ensures.below); counted = c.self.invariant.values_counted }

pub returns : goal.returns
returns g c =
    c.value_at.ensures ∙ ap (λ n. find nat_cmp n (at_places 32 0 c.self.inside.value_bits (shape_values c.self.inside.body))) c.place.ensures.value ∙ value_at c.args.path.now (seen c.self.invariant c.self.view_is) c.requires
