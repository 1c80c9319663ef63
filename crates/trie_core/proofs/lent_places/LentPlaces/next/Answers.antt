use Rattle.std.proofs.Common.{◌∙◌, ◌∷◌, ◌-◌, ap, sym, length, count_ones}
use Rattle.shape.specs.Shapes.{items_of}
use Rattle.trie_core.specs.InnerPlaces.{placed}
use Rattle.trie_core.proofs.Splits.{lowest, placed_none}
use Rattle.trie_core.proofs.lent_places.LentPlaces.next.Goals as goal

pub returns-in_default : goal.returns-in_default
returns-in_default g c =
    let z = placed_none c.self.inside.taken (items_of c.self.inside.items) (ap length c.in_default.ensures) in
    (sym c.self.view_is ∙ z, sym c.self.view_is ∙ z)

pub invariant_of-self : goal.invariant_of-self
invariant_of-self g c =
    let k = c.self.invariant ∙ ap length c.in-Some.ensures in
    let f = lowest c.first_place-place.result c.self.inside.taken c.in-Some.first.now (items_of c.in-Some.rest) c.first_place-place.ensures k in
    ap (λ b. count_ones (c.self.inside.taken - b)) c.bit.ensures ∙ f.ones

pub returns : goal.returns
returns g c =
    let k = c.self.invariant ∙ ap length c.in-Some.ensures in
    let f = lowest c.first_place-place.result c.self.inside.taken c.in-Some.first.now (items_of c.in-Some.rest) c.first_place-place.ensures k in
    sym c.self.view_is ∙ ap (placed c.self.inside.taken) c.in-Some.ensures ∙ f.first ∙ ap (λ b. (c.first_place-place.result, c.in-Some.first.now) ∷ placed (c.self.inside.taken - b) (items_of c.in-Some.rest)) (sym c.bit.ensures)
