use Rattle.std.proofs.Common.{◌≡◌, ℕ, ◌+◌, ◌<◌, ◌≤◌, List, ◌∷◌, length, drop, ap, sym, ◌∙◌, Option, Some, None, MatchOption, length-drop, arith}
use Rattle.std.specs.Vec.Iter.{into_iter_items, into_iter_len}
use Rattle.std.proofs.lemmas.List.{drop_more}
use Rattle.trie_core.specs.InnerHeld.{held}
use Rattle.trie_core.proofs.owned_frame.without_first.Goals as goal

one_more : {X : Type 0} (xs ys zs : List X) (i a b : ℕ) (r : Option X) → i < length xs → a ≡ length ys → ys ≡ drop i xs → MatchOption r ((a ≡ 0) × (b ≡ 0)) (λ x. (ys ≡ x ∷ zs) × (b + 1 ≡ a)) → zs ≡ drop (i + 1) xs
one_more xs ys zs i a b None h e f m = absurd (omega (arith, h, e, ap length f, length-drop i xs, m.0))
one_more xs ys zs i a b (Some x) h e f m = let d = sym m.0 ∙ f ∙ drop_more xs i x h in cc

pub item-preserved : goal.item-preserved
item-preserved g c =
    let h : c.args.count ≤ length (into_iter_items c.in-Some.items) = omega (arith, c.requires, ap (λ i. length (held i)) c.in-Some.is) in
    one_more (into_iter_items c.in-Some.items) (into_iter_items c.item.items) (into_iter_items c.next.new.self) c.item.counter (into_iter_len c.item.items) (into_iter_len c.next.new.self) c.next.result (omega (arith, h, c.item-test.true)) c.item.items.rest.ok.0 c.item.invariant c.next.ensures.cases
