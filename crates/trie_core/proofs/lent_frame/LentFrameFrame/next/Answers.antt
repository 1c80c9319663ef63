use Rattle.trie_core.specs.InnerLent.{lent_children}
use Rattle.std.proofs.Common.{◌∙◌, [], ◌∷◌, ◌++◌, sym, ap, arith, subst}
use Rattle.std.specs.FinMap.{entries}
use Rattle.trie_core.specs.InnerNodes.{under}
use Rattle.trie_core.specs.InnerWalks.{KeysWithin, part_map, levels_of}
use Rattle.trie_core.proofs.Frames.{part_rest, is_frame, first_told, place_within, value_next, value_key, child_next, nothing_next, under_none, keys_split}
use Rattle.trie_core.proofs.Opened.{first_below, opened_rest}
use Rattle.trie_core.proofs.lent_frame.LentFrameFrame.next.Goals as goal

pub value_first-requires : goal.value_first-requires
value_first-requires g c = place_within c.self.inside.values c.self.invariant.values_below c.first_place.ensures

pub with-key-requires-clause-room : goal.with-key-requires-clause-room
with-key-requires-clause-room g c = omega (arith, c.requires.levels, ap (λ s. s.1) c.self.view_is)

pub with-key-requires-clause-within : goal.with-key-requires-clause-within
with-key-requires-clause-within g c =
    let first = first_told c.self.invariant c.first_place.ensures c.first_place-2.ensures c.if-value_first.ensures in
    omega (arith, (value_next (is_frame c.args.way.now c.self.invariant c.self.view_is c.requires.levels c.requires.keys) c.in-Some.ensures first).within, c.place_length.ensures.value)

pub invariant_of-self : goal.invariant_of-self
invariant_of-self g c =
    let first = first_told c.self.invariant c.first_place.ensures c.first_place-2.ensures c.if-value_first.ensures in
    (value_next (is_frame c.args.way.now c.self.invariant c.self.view_is c.requires.levels c.requires.keys) c.in-Some.ensures first).frame.order

pub returns-then-value_first-clause-next : goal.returns-then-value_first-clause-next
returns-then-value_first-clause-next g c =
    let first = first_told c.self.invariant c.first_place.ensures c.first_place-2.ensures c.if-value_first.ensures in
    let way = c.args.way.now in (
      ap (λ s. under way s.0) (sym c.self.view_is) ∙ (value_next (is_frame c.args.way.now c.self.invariant c.self.view_is c.requires.levels c.requires.keys) c.in-Some.ensures first).rest
          ∙ ap (λ k. (k, c.in-Some.value.now) ∷ part_rest c.next.new.self (lent_children c.self.inside.children) way) (sym (value_key way c.in-Some.place c.first_child.result c.with-key.ensures c.place_length.ensures.value c.first_child.ensures.bits)),
      omega (arith, ap (λ s. s.1) c.self.view_is),
    )

pub returns-in_default-next-clause-next : goal.returns-in_default-next-clause-next
returns-in_default-next-clause-next g c =
    let first = first_told c.self.invariant c.first_place.ensures c.first_place-2.ensures c.if-value_first.ensures in
    ap (λ s. s.0) (sym c.self.view_is) ∙ sym (under_none (entries (part_map c.self.inside.values (lent_children c.self.inside.children)))) ∙ nothing_next c.self.inside.values [] c.in_default-next.ensures.0 first

pub opened-below-requires-clause-child : goal.opened-below-requires-clause-child
opened-below-requires-clause-child g c = first_below c.self.invariant.children_below c.in-Some-next.ensures

pub opened-below-requires-clause-levels : goal.opened-below-requires-clause-levels
opened-below-requires-clause-levels g c = omega (arith, (is_frame c.args.way.now c.self.invariant c.self.view_is c.requires.levels c.requires.keys).levels, ap levels_of c.in-Some-next.ensures)

pub invariant_of-self-2 : goal.invariant_of-self-2
invariant_of-self-2 g c =
    let first = first_told c.self.invariant c.first_place.ensures c.first_place-2.ensures c.if-value_first.ensures in
    let f = is_frame c.args.way.now c.self.invariant c.self.view_is c.requires.levels c.requires.keys in
    let o = c.opened-below.ensures in
    let n = child_next f c.in-Some-next.ensures first (omega (arith, o.positive, o.fewer)) in
    n.frame.order

pub only-requires-clause-levels : goal.only-requires-clause-levels
only-requires-clause-levels g c =
    let first = first_told c.self.invariant c.first_place.ensures c.first_place-2.ensures c.if-value_first.ensures in
    let f = is_frame c.args.way.now c.self.invariant c.self.view_is c.requires.levels c.requires.keys in
    let o = c.opened-below.ensures in
    let n = child_next f c.in-Some-next.ensures first (omega (arith, o.positive, o.fewer)) in
    omega (arith, o.longer, o.reach, n.less.0, c.requires.levels, ap (λ s. s.1) c.self.view_is)

pub only-requires-clause-keys : goal.only-requires-clause-keys
only-requires-clause-keys g c =
    let first = first_told c.self.invariant c.first_place.ensures c.first_place-2.ensures c.if-value_first.ensures in
    let f = is_frame c.args.way.now c.self.invariant c.self.view_is c.requires.levels c.requires.keys in
    let o = c.opened-below.ensures in
    let n = child_next f c.in-Some-next.ensures first (omega (arith, o.positive, o.fewer)) in
    (keys_split 128 _ _ (subst (KeysWithin 128) (opened_rest n o) f.keys)).0

pub returns-in-Some-only-clause-next : goal.returns-in-Some-only-clause-next
returns-in-Some-only-clause-next g c =
    let first = first_told c.self.invariant c.first_place.ensures c.first_place-2.ensures c.if-value_first.ensures in
    let f = is_frame c.args.way.now c.self.invariant c.self.view_is c.requires.levels c.requires.keys in
    let o = c.opened-below.ensures in
    let n = child_next f c.in-Some-next.ensures first (omega (arith, o.positive, o.fewer)) in
    let way = c.args.way.now in (
      ap (λ s. under way s.0) (sym c.self.view_is) ∙ opened_rest n o ∙ ap (λ es. es ++ part_rest c.self.inside.values (lent_children c.next-2.new.self) way) c.in-Some-only.ensures,
      omega (arith, ap (λ s. s.1) c.self.view_is, n.less.1),
    )

pub returns-clause-next : goal.returns-clause-next
returns-clause-next g c =
    let first = first_told c.self.invariant c.first_place.ensures c.first_place-2.ensures c.if-value_first.ensures in
    let f = is_frame c.args.way.now c.self.invariant c.self.view_is c.requires.levels c.requires.keys in
    let o = c.opened-below.ensures in
    let n = child_next f c.in-Some-next.ensures first (omega (arith, o.positive, o.fewer)) in
    let way = c.args.way.now in (
      ap (λ s. under way s.0) (sym c.self.view_is) ∙ opened_rest n o,
      o.positive,
      omega (arith, ap (λ s. s.1) c.self.view_is, n.less.0, o.fewer),
      omega (arith, ap (λ s. s.1) c.self.view_is, n.less.1),
      omega (arith, ap (λ s. s.2) c.self.view_is, n.less.2, o.nodes),
      o.above,
      o.longer,
      omega (arith, ap (λ s. s.1) c.self.view_is, n.less.0, o.reach),
    )
