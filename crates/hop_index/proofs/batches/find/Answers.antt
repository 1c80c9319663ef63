use Rattle.std.proofs.Common.{refl, ap, ◌∙◌}
use Rattle.std.proofs.lemmas.List.{get_or_default}
use Rattle.hop_index.specs.Indexes.{hop_of}
use Rattle.hop_index.specs.InnerNodes.{index_of}
use Rattle.hop_index.proofs.Groups.{found_one}
use Rattle.hop_index.proofs.batches.find.Goals as goal

pub loop-at-preserved : goal.loop-at-preserved
loop-at-preserved g c =
    let place_in = c.requires.places.within c.loop-at.at 0 c.loop-at-test.true in
    found_one _ c.args.addrs.now c.args.places.now c.loop-at.at _ c.from_hop.result c.loop-at.hops refl place_in
    (λ a. c.from_hop.ensures ∙ ap g.H.FromHop.of_hop (c.hop.ensures ∙ ap (hop_of (index_of c.args.sides.now.v4 c.args.sides.now.v6)) (c.addr.ensures ∙ ap g.A.Addressed.address (c.index-addrs-place.is ∙ get_or_default c.args.addrs.now _ c.index-addrs-place.result a place_in))))
    c.loop-at.invariant
