use Rattle.std.proofs.Common.{[], ◌∷◌, ◌++◌, ◌∙◌, IsTrue, refl, sym, ap, Some}
use Rattle.std.specs.FinMap.{empty, insert}
use Rattle.std.proofs.iter.Next.{Yields-more}
use Rattle.std.proofs.lemmas.List.Elements.{All-pop}
use Rattle.prefix_trie.proofs.Same.{inserted_last}
use Rattle.prefix_trie.proofs.map.PrefixMap.try_from_iter.Goals as goal

pub insert-requires : goal.insert-requires
insert-requires g c =
    let it = c.into_iter-prefix-iterator in
    let xs = c.loop-prefix.yielded in
    let x : g.row.P.Denot × g.row.T.Denot = (c.in-Some.prefix, c.in-Some.value) in
    let more = Yields-more g.U.IntoIter.Iterator.next_gives it.result xs c.loop-prefix.prefix-iterator x c.next.new.self c.loop-prefix.yielded_by c.in-Some.ensures.steps in
    (All-pop (λ e. IsTrue (g.P.Prefix.fits e.0)) (xs ++ x ∷ []) xs (Some x) refl ((c.requires it.result it.ensures.into_iter_gives).2 (xs ++ x ∷ []) c.next.new.self more)).1

pub loop-prefix-preserved : goal.loop-prefix-preserved
loop-prefix-preserved g c = record {
  map = c.in-Ok.ensures.map ∙ ap (λ m. insert m (g.P.Prefix.bits c.in-Some.prefix) c.in-Some.value) c.loop-prefix.invariant.map ∙ sym (inserted_last g.P.Prefix.bits empty c.loop-prefix.yielded (c.in-Some.prefix, c.in-Some.value));
  tidy = c.in-Ok.ensures.tidy c.loop-prefix.invariant.tidy;
}
