use Rattle.std.proofs.Common.{◌∙◌, ap, sym, length}
use Rattle.shape.specs.Shapes.{items_of}
use Rattle.trie_core.specs.InnerPlaces.{placed}
use Rattle.trie_core.proofs.Splits.{alone}
use Rattle.trie_core.proofs.lent_places.LentPlaces.only.Goals as goal

pub returns : goal.returns
returns g c =
    let e = c.in_ok-only.ensures in
    sym c.self.view_is ∙ ap (placed c.self.inside.taken) e ∙ alone c.first_place.result c.self.inside.taken c.in_ok-only.only.now (items_of c.in_ok-only.others) c.first_place.ensures (c.self.invariant ∙ ap length e) (ap length c.in_default.ensures)
