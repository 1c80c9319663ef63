-- Aggregated again, a list of networks is the same list.
use Rattle.std.proofs.Common.{◌≡◌, List, [], ◌∷◌, map, All, refl, sym, ap, ◌∙◌}
use Rattle.std.proofs.lemmas.List.Elements.{All-head, All-tail}
use Rattle.ipnet_addr.specs.Addresses.{Family}
use Rattle.ipnet_blocks.specs.Networks.{Network, block_of, net_of, IsTruncated}
use Rattle.ipnet_blocks.specs.Laws.{NetworksStayAggregated}
use Rattle.ipnet_blocks.proofs.Aggregates.{aggregated_is_stable}

of_blocks : (f : Family) (ns : List Network) → All (IsTruncated f) ns → ns ≡ map net_of (map (block_of f) ns)
of_blocks f [] h = refl
of_blocks f (n ∷ ns) h = λ i. All-head (IsTruncated f) n ns h i ∷ of_blocks f ns (All-tail (IsTruncated f) n ns h) i

pub stay_aggregated : NetworksStayAggregated
stay_aggregated f given ns ms h g =
    of_blocks f ms g.truncated
    ∙ ap (map net_of) (aggregated_is_stable (map (block_of f) given) (map (block_of f) ns) (map (block_of f) ms) h.blocks g.blocks)
    ∙ sym (of_blocks f ns h.truncated)
