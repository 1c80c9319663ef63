use Rattle.std.proofs.Common.{◌≡◌, ◌∙◌, ◌∷◌, ◌-◌, ap, sym, length, count_ones, arith}
use Rattle.std.specs.Vec.Iter.{into_iter_items}
use Rattle.trie_core.specs.InnerPlaces.{placed}
use Rattle.trie_core.specs.InnerHeld.{held}
use Rattle.trie_core.proofs.Splits.{lowest, placed_none}
use Rattle.trie_core.proofs.owned_frame.Places.next.Goals as goal

pub returns-in_default : goal.returns-in_default
returns-in_default g c =
    let z = placed_none c.self.inside.taken (held c.self.inside.items) (ap (λ i. length (held i)) c.in_default.is) in
    (sym c.self.view_is ∙ z, z)

pub returns-in_default-next : goal.returns-in_default-next
returns-in_default-next g c =
    let n = c.in_default-next.ensures.cases in
    let d : length (into_iter_items c.in-Some.items) ≡ 0 = omega (arith, n.0, c.in-Some.items.rest.ok.0) in
    let e : length (into_iter_items c.next.new.self) ≡ 0 = omega (arith, n.1, c.next.new.self.rest.ok.0) in
    (sym c.self.view_is ∙ placed_none c.self.inside.taken (held c.self.inside.items) (ap (λ i. length (held i)) c.in-Some.is ∙ d), placed_none c.self.inside.taken (into_iter_items c.next.new.self) e)

pub invariant_of-self-2 : goal.invariant_of-self-2
invariant_of-self-2 g c =
    let k = c.self.invariant ∙ ap (λ i. length (held i)) c.in-Some.is ∙ ap length c.in-Some-next.ensures.items in
    let f = lowest c.first_place-place.result c.self.inside.taken c.in-Some-next.first (into_iter_items c.next.new.self) c.first_place-place.ensures k in
    ap (λ b. count_ones (c.self.inside.taken - b)) c.bit.ensures ∙ f.ones

pub returns : goal.returns
returns g c =
    let k = c.self.invariant ∙ ap (λ i. length (held i)) c.in-Some.is ∙ ap length c.in-Some-next.ensures.items in
    let f = lowest c.first_place-place.result c.self.inside.taken c.in-Some-next.first (into_iter_items c.next.new.self) c.first_place-place.ensures k in
    sym c.self.view_is ∙ ap (λ i. placed c.self.inside.taken (held i)) c.in-Some.is ∙ ap (placed c.self.inside.taken) c.in-Some-next.ensures.items ∙ f.first ∙ ap (λ b. (c.first_place-place.result, c.in-Some-next.first) ∷ placed (c.self.inside.taken - b) (into_iter_items c.next.new.self)) (sym c.bit.ensures)
