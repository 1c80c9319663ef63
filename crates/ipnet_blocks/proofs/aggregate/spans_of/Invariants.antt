use Rattle.std.proofs.Common.{◌≡◌, ◌<◌, ◌^◌, map, take, All}
use Rattle.ipnet_addr.specs.Addresses.{width}
use Rattle.ipnet_blocks.specs.InnerSpans.{span_of}
use Rattle.ipnet_blocks.proofs.aggregate.spans_of.Given as goal

abbrev pub invariant-loop-network : goal.invariant-loop-network
invariant-loop-network g l = record {
  spans : l.spans.items ≡ map (λ n. span_of g.N.Spanned.family (g.N.Spanned.parts n)) (take l.network-index l.network-items);
  fit : All (λ s. s.last < 2 ^ width g.N.Spanned.family) l.spans.items;
}
