-- The blocks of both families together.
use Rattle.std.proofs.Common.{◌≡◌, ◌⊎◌, inl, inr, ⊎_elim, refl, sym, ap, subst, arith, List, [], ◌∷◌, ◌++◌, map, All}
use Rattle.std.proofs.lemmas.List.Elements.{All-append, All-map}
use Rattle.ipnet_addr.specs.Addresses.{Ipv4, Ipv6, rank, Address}
use Rattle.ipnet_blocks.specs.Blocks.{HasAddress}
use Rattle.ipnet_blocks.specs.Maximal.{IsMaximal}
use Rattle.ipnet_blocks.specs.Networks.{Network, block_of, IsTruncated}
use Rattle.ipnet.specs.declared.ip_net.IpNet.{IpNet}
use Rattle.ipnet.specs.declared.ip_net.IpNet.TheVariants.{V4, V6}
use Rattle.ipnet.specs.IpNets.{block, family, parts}
use Rattle.ipnet.specs.IpAggregated.{only_ipv4, only_ipv6}
use Rattle.ipnet_blocks.specs.Aggregated.{InSome, IsAggregated, AreAggregated}
use Rattle.ipnet_addr.proofs.Ascending.{In-from_Any}
use Rattle.ipnet_blocks.proofs.Lists.{any_left, any_right, any_cases}
use Rattle.ipnet_blocks.proofs.Aggregates.{some_to_spans, aggregated_of_maximal}
use Rattle.ipnet_blocks.proofs.Unions.{IsFarBefore, maximal_join, maximal_same}

module _ (x : Address) where
  Some4 : List IpNet → Type 0
  Some4 ns = InSome (map (block_of Ipv4) (only_ipv4 ns)) x

  Some6 : List IpNet → Type 0
  Some6 ns = InSome (map (block_of Ipv6) (only_ipv6 ns)) x

  to_families : (ns : List IpNet) → InSome (map block ns) x → Some4 ns ⊎ Some6 ns
  unfolding Some4 Some6
  to_families [] h = let a = In-from_Any (λ b. HasAddress b x) [] h in absurd a.1
  to_families (V4 n ∷ ns) h = ⊎_elim
      (λ o. inl (any_left (λ b. HasAddress b x) (block_of Ipv4 n ∷ []) (map (block_of Ipv4) (only_ipv4 ns)) o))
      (λ r. ⊎_elim (λ p. inl (any_right (λ b. HasAddress b x) (block_of Ipv4 n ∷ []) (map (block_of Ipv4) (only_ipv4 ns)) p)) (λ p. inr p) (to_families ns r))
      (any_cases (λ b. HasAddress b x) (block_of Ipv4 n ∷ []) (map block ns) h)
  to_families (V6 n ∷ ns) h = ⊎_elim
      (λ o. inr (any_left (λ b. HasAddress b x) (block_of Ipv6 n ∷ []) (map (block_of Ipv6) (only_ipv6 ns)) o))
      (λ r. ⊎_elim (λ p. inl p) (λ p. inr (any_right (λ b. HasAddress b x) (block_of Ipv6 n ∷ []) (map (block_of Ipv6) (only_ipv6 ns)) p)) (to_families ns r))
      (any_cases (λ b. HasAddress b x) (block_of Ipv6 n ∷ []) (map block ns) h)

  from_ipv4 : (ns : List IpNet) → Some4 ns → InSome (map block ns) x
  unfolding Some4
  from_ipv4 [] h = h
  from_ipv4 (V4 n ∷ ns) h = ⊎_elim
      (λ o. any_left (λ b. HasAddress b x) (block_of Ipv4 n ∷ []) (map block ns) o)
      (λ r. any_right (λ b. HasAddress b x) (block_of Ipv4 n ∷ []) (map block ns) (from_ipv4 ns r))
      (any_cases (λ b. HasAddress b x) (block_of Ipv4 n ∷ []) (map (block_of Ipv4) (only_ipv4 ns)) h)
  from_ipv4 (V6 n ∷ ns) h = any_right (λ b. HasAddress b x) (block_of Ipv6 n ∷ []) (map block ns) (from_ipv4 ns h)

  from_ipv6 : (ns : List IpNet) → Some6 ns → InSome (map block ns) x
  unfolding Some6
  from_ipv6 [] h = h
  from_ipv6 (V4 n ∷ ns) h = any_right (λ b. HasAddress b x) (block_of Ipv4 n ∷ []) (map block ns) (from_ipv6 ns h)
  from_ipv6 (V6 n ∷ ns) h = ⊎_elim
      (λ o. any_left (λ b. HasAddress b x) (block_of Ipv6 n ∷ []) (map block ns) o)
      (λ r. any_right (λ b. HasAddress b x) (block_of Ipv6 n ∷ []) (map block ns) (from_ipv6 ns r))
      (any_cases (λ b. HasAddress b x) (block_of Ipv6 n ∷ []) (map (block_of Ipv6) (only_ipv6 ns)) h)

blocks_ipv6 : (vs : List Network) → map block (map V6 vs) ≡ map (block_of Ipv6) vs
blocks_ipv6 [] = refl
blocks_ipv6 (v ∷ vs) = ap (λ bs. block_of Ipv6 v ∷ bs) (blocks_ipv6 vs)

blocks_both : (us vs : List Network) → map block (map V4 us ++ map V6 vs) ≡ map (block_of Ipv4) us ++ map (block_of Ipv6) vs
blocks_both [] vs = blocks_ipv6 vs
blocks_both (u ∷ us) vs = ap (λ bs. block_of Ipv4 u ∷ bs) (blocks_both us vs)

pub both_aggregated : (ns : List IpNet) (us vs : List Network) → AreAggregated Ipv4 (only_ipv4 ns) us → AreAggregated Ipv6 (only_ipv6 ns) vs → IsAggregated (map block ns) (map block (map V4 us ++ map V6 vs))
unfolding Some4 Some6
both_aggregated ns us vs h g =
    let far : (x y : Address) → Some4 x ns → Some6 y ns → IsFarBefore x y = λ x y s t.
    let p = ap rank (some_to_spans Ipv4 (only_ipv4 ns) x s).0 in
    let q = ap rank (some_to_spans Ipv6 (only_ipv6 ns) y t).0 in
    inl (omega arith) in
    let m = maximal_same (λ x. Some4 x ns ⊎ Some6 x ns) (InSome (map block ns))
    (λ x _ k. ⊎_elim (from_ipv4 x ns) (from_ipv6 x ns) k) (λ x _ k. to_families x ns k) _
    (maximal_join (λ x. Some4 x ns) (λ x. Some6 x ns) far _ _ h.blocks.maximal g.blocks.maximal) in
    aggregated_of_maximal (map block ns) _ (subst (λ bs. IsMaximal (InSome (map block ns)) bs) (sym (blocks_both us vs)) m)

pub both_truncated : (us vs : List Network) → All (IsTruncated Ipv4) us → All (IsTruncated Ipv6) vs → All (λ n. IsTruncated (family n) (parts n)) (map V4 us ++ map V6 vs)
both_truncated us vs h g =
    All-append (λ n. IsTruncated (family n) (parts n)) (map V4 us) (map V6 vs)
    (All-map (λ n. IsTruncated (family n) (parts n)) V4 us h)
    (All-map (λ n. IsTruncated (family n) (parts n)) V6 vs g)
