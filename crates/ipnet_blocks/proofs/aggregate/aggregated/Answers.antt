use Rattle.std.proofs.Common.{◌^◌, ◌<◌, sym, ◌∙◌}
use Rattle.std.proofs.lemmas.Result.{IfOk-weaker}
use Rattle.std.proofs.lemmas.Simd.{map-map}
use Rattle.ipnet_addr.specs.Addresses.{width}
use Rattle.ipnet_addr.proofs.Ascending.{In-from_All}
use Rattle.ipnet_blocks.specs.InnerSpans.{span_of}
use Rattle.ipnet_blocks.proofs.Aggregates.{spans_have, joined_fit, joined_aggregated}
use Rattle.ipnet_blocks.proofs.aggregate.aggregated.Goals as goal

pub joined-requires : goal.joined-requires
joined-requires g c = rw c.in_ok-spans_of.ensures.spans (spans_have g.N.Spanned.family g.N.Spanned.parts c.args.networks.now.items)

pub blocks_of-requires-clause-fit : goal.blocks_of-requires-clause-fit
blocks_of-requires-clause-fit g c = joined_fit (2 ^ width g.N.Spanned.family) _ _ c.in_ok-spans.ensures c.in_ok-spans_of.ensures.fit

pub returns : goal.returns
returns g c =
    let f = g.N.Spanned.family in
    let given = c.in_ok-spans_of.ensures.spans ∙ sym (map-map (span_of f) g.N.Spanned.parts c.args.networks.now.items) in
    let j = rw given at c.in_ok-spans.ensures in
    IfOk-weaker c.blocks_of.result _ _ (λ v is. joined_aggregated f _ _ _ j (In-from_All (λ s. s.last < 2 ^ width f) _ (joined_fit (2 ^ width f) _ _ c.in_ok-spans.ensures c.in_ok-spans_of.ensures.fit)) is) c.blocks_of.ensures
