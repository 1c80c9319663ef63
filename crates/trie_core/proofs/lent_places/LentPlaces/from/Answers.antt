use Rattle.std.proofs.Common.{◌-◌, ◌∙◌, ap, sym, not, nat_lt, length, nat_cmp}
use Rattle.shape.specs.Shapes.{items_of}
use Rattle.std.specs.FinMap.Entries.{where_key}
use Rattle.trie_core.specs.InnerPlaces.{placed}
use Rattle.trie_core.proofs.Splits.{split}
use Rattle.trie_core.proofs.lent_places.LentPlaces.from.Goals as goal

pub back-requires : goal.back-requires
back-requires g c = (split c.args.place c.low_bits-passed.result c.self.inside.taken (items_of c.self.inside.items) c.low_bits-passed.ensures c.self.invariant).within

pub invariant_of-result : goal.invariant_of-result
invariant_of-result g c = (split c.args.place c.low_bits-passed.result c.self.inside.taken (items_of c.self.inside.items) c.low_bits-passed.ensures c.self.invariant).from_ones ∙ ap length (sym c.back.ensures)

pub returns : goal.returns
returns g c = ap (placed (c.self.inside.taken - c.low_bits-passed.result)) c.back.ensures ∙ (split c.args.place c.low_bits-passed.result c.self.inside.taken (items_of c.self.inside.items) c.low_bits-passed.ensures c.self.invariant).from ∙ ap (where_key nat_cmp (λ m. not (nat_lt m c.args.place))) c.self.view_is
