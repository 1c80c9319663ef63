use Rattle.trie_core.specs.InnerOwned.{owned_places}
use Rattle.std.proofs.Common.{◌∙◌, [], ◌∷◌, sym, ap, arith}
use Rattle.std.specs.FinMap.{entries}
use Rattle.trie_core.specs.InnerNodes.{under}
use Rattle.trie_core.specs.InnerWalks.{part_map, levels_of}
use Rattle.trie_core.proofs.Frames.{part_rest, is_frame, first_told, place_within, value_next, value_key, child_next, nothing_next, under_none}
use Rattle.trie_core.proofs.Opened.{first_below, opened_rest}
use Rattle.trie_core.proofs.owned_frame.OwnedFrameFrame.next.Goals as goal

pub value_first-requires : goal.value_first-requires
value_first-requires g c = place_within (owned_places c.self.inside.values) c.self.invariant.values_below c.first_place.ensures

pub with-key-requires-clause-room : goal.with-key-requires-clause-room
with-key-requires-clause-room g c = omega (arith, c.requires.levels, ap (λ s. s.1) c.self.view_is)

pub with-key-requires-clause-within : goal.with-key-requires-clause-within
with-key-requires-clause-within g c = omega (arith, (value_next (is_frame c.args.way.now c.self.invariant c.self.view_is c.requires.levels c.requires.keys) c.in-Some.ensures (first_told c.self.invariant c.first_place.ensures c.first_place-2.ensures c.if-value_first.ensures)).within, c.place_length.ensures.value)

pub invariant_of-self : goal.invariant_of-self
invariant_of-self g c = (value_next (is_frame c.args.way.now c.self.invariant c.self.view_is c.requires.levels c.requires.keys) c.in-Some.ensures (first_told c.self.invariant c.first_place.ensures c.first_place-2.ensures c.if-value_first.ensures)).frame.order

pub returns-then-value_first-clause-next : goal.returns-then-value_first-clause-next
returns-then-value_first-clause-next g c =
    let way = c.args.way.now in (
      ap (λ s. under way s.0) (sym c.self.view_is) ∙ (value_next (is_frame c.args.way.now c.self.invariant c.self.view_is c.requires.levels c.requires.keys) c.in-Some.ensures (first_told c.self.invariant c.first_place.ensures c.first_place-2.ensures c.if-value_first.ensures)).rest
          ∙ ap (λ k. (k, c.in-Some.value) ∷ part_rest (owned_places c.next.new.self) (owned_places c.self.inside.children) way) (sym (value_key way c.in-Some.place c.first_child.result c.with-key.ensures c.place_length.ensures.value c.first_child.ensures.bits)),
      omega (arith, ap (λ s. s.1) c.self.view_is),
    )

pub returns-in_default-next-clause-next : goal.returns-in_default-next-clause-next
returns-in_default-next-clause-next g c = ap (λ s. s.0) (sym c.self.view_is) ∙ sym (under_none (entries (part_map (owned_places c.self.inside.values) (owned_places c.self.inside.children)))) ∙ nothing_next (owned_places c.self.inside.values) [] c.in_default-next.ensures.0 (first_told c.self.invariant c.first_place.ensures c.first_place-2.ensures c.if-value_first.ensures)

pub opened-below-requires-clause-child : goal.opened-below-requires-clause-child
opened-below-requires-clause-child g c = first_below c.self.invariant.children_below c.in-Some-next.ensures

pub opened-below-requires-clause-levels : goal.opened-below-requires-clause-levels
opened-below-requires-clause-levels g c = omega (arith, (is_frame c.args.way.now c.self.invariant c.self.view_is c.requires.levels c.requires.keys).levels, ap levels_of c.in-Some-next.ensures)

pub invariant_of-self-2 : goal.invariant_of-self-2
invariant_of-self-2 g c =
    let first = first_told c.self.invariant c.first_place.ensures c.first_place-2.ensures c.if-value_first.ensures in
    let f = is_frame c.args.way.now c.self.invariant c.self.view_is c.requires.levels c.requires.keys in
    let o = c.opened-below.ensures in
    let n = child_next f c.in-Some-next.ensures first (omega (arith, o.positive, o.fewer)) in
    n.frame.order

pub returns-clause-next : goal.returns-clause-next
returns-clause-next g c =
    let first = first_told c.self.invariant c.first_place.ensures c.first_place-2.ensures c.if-value_first.ensures in
    let f = is_frame c.args.way.now c.self.invariant c.self.view_is c.requires.levels c.requires.keys in
    let o = c.opened-below.ensures in
    let n = child_next f c.in-Some-next.ensures first (omega (arith, o.positive, o.fewer)) in
    let way = c.args.way.now in (
      ap (λ s. under way s.0) (sym c.self.view_is) ∙ opened_rest n o,
      o.positive,
      omega (arith, ap (λ s. s.1) c.self.view_is, n.less.0, o.fewer),
      omega (arith, ap (λ s. s.1) c.self.view_is, n.less.1),
      omega (arith, ap (λ s. s.2) c.self.view_is, n.less.2, o.nodes),
      o.above,
      o.longer,
      omega (arith, ap (λ s. s.1) c.self.view_is, n.less.0, o.reach),
    )
