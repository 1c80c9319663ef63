use Rattle.std.proofs.Common.{◌∙◌, [], ◌∷◌, sym, ap, arith}
use Rattle.trie_core.specs.InnerNodes.{under}
use Rattle.trie_core.proofs.Frames.{is_frame, none_first, only_value, value_key}
use Rattle.trie_core.proofs.lent_frame.LentFrame.only.Goals as goal

pub with-key-requires-clause-within : goal.with-key-requires-clause-within
with-key-requires-clause-within g c =
    let o = only_value (is_frame c.args.way.now c.self.invariant c.self.view_is c.requires.levels c.requires.keys) c.in_ok-place.ensures (none_first c.first_place.ensures (sym c.is_some.ensures ∙ c.if-is_some.false)) in
    omega (arith, o.within, c.place_length.ensures.value)

pub returns : goal.returns
returns g c =
    let way = c.args.way.now in
    let x = c.in_ok-place.value.now in
    let o = only_value (is_frame c.args.way.now c.self.invariant c.self.view_is c.requires.levels c.requires.keys) c.in_ok-place.ensures (none_first c.first_place.ensures (sym c.is_some.ensures ∙ c.if-is_some.false)) in
    ap (λ s. under way s.0) (sym c.self.view_is) ∙ o.rest ∙ ap (λ k. (k, x) ∷ []) (sym (value_key way c.in_ok-place.place c.first_child.result c.with-key.ensures c.place_length.ensures.value c.first_child.ensures.bits))
