use Rattle.std.proofs.Common.{[], ◌∷◌, ◌++◌, ◌∙◌, map, IsTrue, refl, sym, ap, Some}
use Rattle.std.specs.FinMap.{empty, insert}
use Rattle.std.proofs.iter.Next.{Yields-more}
use Rattle.std.proofs.lemmas.List.{map-append}
use Rattle.std.proofs.lemmas.List.Elements.{All-pop}
use Rattle.prefix_trie.specs.Made.{inserted}
use Rattle.prefix_trie.proofs.Same.{inserted_last}
use Rattle.prefix_trie.proofs.set.PrefixSet.try_from_iter.Goals as goal

pub insert-requires : goal.insert-requires
insert-requires g c =
    let it = c.into_iter-rest in
    let xs = c.item.yielded in
    let x = c.in-Some.prefix in
    let more = Yields-more g.U.IntoIter.Iterator.next_gives it.result xs c.item.rest x c.next.new.self c.item.yielded_by c.in-Some.ensures.steps in
    (All-pop (λ p. IsTrue (g.P.Prefix.fits p)) (xs ++ x ∷ []) xs (Some x) refl ((c.requires it.result it.ensures.into_iter_gives).2 (xs ++ x ∷ []) c.next.new.self more)).1

pub item-preserved : goal.item-preserved
item-preserved g c = record {
  set = c.in_ok-insert.ensures.set ∙ ap (λ m. insert m (g.P.Prefix.bits c.in-Some.prefix) tt) c.item.invariant.set ∙ sym (ap (inserted g.P.Prefix.bits empty) (map-append (λ p. (p, tt)) c.item.yielded (c.in-Some.prefix ∷ [])) ∙ inserted_last g.P.Prefix.bits empty (map (λ p. (p, tt)) c.item.yielded) (c.in-Some.prefix, tt));
  tidy = c.in_ok-insert.ensures.tidy c.item.invariant.tidy;
}
