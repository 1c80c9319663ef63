-- Aggregated again, a list of networks of both families is the same list.
use Rattle.std.proofs.Common.{◌≡◌, List, [], ◌∷◌, map, All, refl, sym, ap, ◌∙◌}
use Rattle.std.proofs.lemmas.List.Elements.{All-head, All-tail}
use Rattle.ipnet_blocks.specs.Blocks.{Block}
use Rattle.ipnet_blocks.specs.Networks.{net_of, IsTruncated}
use Rattle.ipnet_blocks.proofs.Aggregates.{aggregated_is_stable}
use Rattle.ipnet.specs.IpNets.{block, family, parts, net_in}
use Rattle.ipnet.specs.Laws.{StaysAggregated}
use Rattle.ipnet.specs.declared.ip_net.IpNet.{IpNet}
use Rattle.ipnet.specs.declared.ip_net.IpNet.TheVariants.{V4, V6}

abbrev back : Block → IpNet
back b = net_in b.family (net_of b)

one : (n : IpNet) → IsTruncated (family n) (parts n) → n ≡ back (block n)
one (V4 n) h = ap V4 h
one (V6 n) h = ap V6 h

of_blocks : (ns : List IpNet) → All (λ n. IsTruncated (family n) (parts n)) ns → ns ≡ map back (map block ns)
of_blocks [] h = refl
of_blocks (n ∷ ns) h = λ i. one n (All-head (λ n. IsTruncated (family n) (parts n)) n ns h) i ∷ of_blocks ns (All-tail (λ n. IsTruncated (family n) (parts n)) n ns h) i

pub stays_aggregated : StaysAggregated
stays_aggregated given ns ms h plain g again =
    of_blocks ms again ∙ ap (map back) (aggregated_is_stable (map block given) (map block ns) (map block ms) h g) ∙ sym (of_blocks ns plain)
