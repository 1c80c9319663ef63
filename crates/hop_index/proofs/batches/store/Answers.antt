use Rattle.std.proofs.Common.{ℕ, List, sym, ◌∙◌, ap, get_or-take, length-take-le, arith}
use Rattle.hop_index.proofs.Groups.{found_all}
use Rattle.hop_index.proofs.batches.store.Goals as goal

pub find-requires-clause-others : goal.find-requires-clause-others
find-requires-clause-others g c =
    let entered = c.enter.ensures in
    let listed = c.list_others-count.ensures in
    let count : ℕ = c.list_others-count.result in
    let places : List ℕ = c.list_others-count.new.places in
    record {
      all = c.enter.auto.hops ∙ c.requires.hops;
      each = λ k a h l none.
          let own = listed.others k a l (λ j from to at. none j from (omega (arith, length-take-le count places listed.places.most)) (get_or-take count places j 0 to ∙ at)) in
          entered.hops k 0 a h l own.0 ∙ ap g.H.FromHop.of_hop (sym ((entered.entries.each k a 0 l).hop own.1));
    }

pub returns : goal.returns
returns g c = found_all _ c.args.addrs.now _ c.find.new.hops c.find.ensures
