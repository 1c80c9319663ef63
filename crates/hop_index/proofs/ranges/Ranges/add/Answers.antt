use Rattle.std.proofs.Common.{◌≡◌, ◌+◌, ◌<◌, ◌^◌, [], ◌∷◌, ◌++◌, List, Some, ap, ◌∙◌, arith}
use Rattle.std.proofs.lemmas.List.Elements.{All-push}
use Rattle.hop_index.specs.Ranges.{HopRange}
use Rattle.hop_index.specs.InnerRanges.{EndBelow}
use Rattle.hop_index.proofs.Searches.{below_later, push_ascends, push_inside, push_outside}
use Rattle.hop_index.proofs.ranges.Ranges.add.Goals as goal

pub returns : goal.returns
returns g c =
    let rs : List HopRange = c.reach.new.self in
    let r : HopRange = record { last = c.args.last; hop = Some c.args.hop } in
    let i = c.in_ok-reach.ensures in
    let some = c.requires.some in
    let within = c.requires.within in
    let below : EndBelow (c.args.last + 1) rs = below_later rs _ _ (omega arith) i.below in
    let is : c.push.new.self ≡ rs ++ r ∷ [] = rw (ap g.N.Key.number c.from_bits.ensures ∙ g.met.N.Key.numbered c.args.last within) at c.in_ok-push.ensures in
    rw is (record {
      ascending = push_ascends rs r i.ascending below;
      below = All-push (λ s. s.last < c.args.last + 1) rs r below (omega arith);
      within = All-push (λ s. s.last < 2 ^ g.N.Key.width) rs r (below_later rs _ _ (omega arith) i.below) within;
      inside = push_inside rs c.args.first r i.below;
      outside = λ x out. push_outside rs c.args.first r i.below i.reached x out ∙ i.hops x;
    })
