use Rattle.std.proofs.Common.{◌∙◌, ap, sym, nat_lt, length, nat_cmp}
use Rattle.shape.specs.Shapes.{items_of}
use Rattle.std.specs.FinMap.Entries.{where_key}
use Rattle.trie_core.specs.InnerPlaces.{placed}
use Rattle.trie_core.proofs.Splits.{split}
use Rattle.trie_core.proofs.lent_places.LentPlaces.before.Goals as goal

pub front-requires : goal.front-requires
front-requires g c = (split c.args.place c.low_bits-taken.result c.self.inside.taken (items_of c.self.inside.items) c.low_bits-taken.ensures c.self.invariant).within

pub invariant_of-result : goal.invariant_of-result
invariant_of-result g c = (split c.args.place c.low_bits-taken.result c.self.inside.taken (items_of c.self.inside.items) c.low_bits-taken.ensures c.self.invariant).before_ones ∙ ap length (sym c.front.ensures)

pub returns : goal.returns
returns g c = ap (placed c.low_bits-taken.result) c.front.ensures ∙ (split c.args.place c.low_bits-taken.result c.self.inside.taken (items_of c.self.inside.items) c.low_bits-taken.ensures c.self.invariant).before ∙ ap (where_key nat_cmp (λ m. nat_lt m c.args.place)) c.self.view_is
