use Rattle.std.proofs.Common.{rules, get_or, arith, ◌∙◌, ap, subst}
use Rattle.std.proofs.lemmas.List.{get_or_default}
use Rattle.hop_index.specs.InnerNodes.{HasOwnHop}
use Rattle.hop_index.proofs.Groups.{listed_on}
use Rattle.hop_index.proofs.batches.list_others.Goals as goal

pub loop-place-preserved : goal.loop-place-preserved
loop-place-preserved g c =
    let i = c.loop-place.invariant in
    record {
      most = search (rules);
      places = search (rules);
      others = listed_on (λ k. (a : _) → HasOwnHop (g.A.Addressed.address (get_or c.args.addrs.now k a)) (get_or c.args.entries.now k 0)) c.loop-place.place c.loop-place.count c.other-count.result c.loop-place.places (omega (arith, i.most, c.requires.places, c.loop-place-test.true, c.loop-place.auto.places)) c.other-count.ensures.most (λ zero a. subst (λ x. HasOwnHop x (get_or c.args.entries.now c.loop-place.place 0))
          (c.addr.ensures ∙ ap g.A.Addressed.address (c.index-addrs-place.is ∙ get_or_default c.args.addrs.now _ c.index-addrs-place.result a c.loop-place-test.true)) (c.other-count.ensures.hop zero)) i.others;
    }

pub returns-clause-others : goal.returns-clause-others
returns-clause-others g c = λ k a l none. c.loop-place.invariant.others k (omega arith) none a
