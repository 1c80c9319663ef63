use Rattle.std.proofs.Common.{◌≡◌, ℕ, ◌+◌, ◌<◌, List, [], ◌∷◌, ◌++◌, ◌∙◌, ap, sym, take, get_or, length, Option, append-nil}
use Rattle.std.specs.List.{filter_map}
use Rattle.std.proofs.lemmas.List.{take_more}
use Rattle.std.proofs.lemmas.List.Elements.{filter_map-append}
use Rattle.ipnet.specs.declared.ip_net.IpNet.{IpNet}
use Rattle.ipnet.specs.declared.ip_net.IpNet.TheVariants.{V4, V6}
use Rattle.ipnet.specs.IpAggregated.{as_ipv4, as_ipv6, only_ipv4, only_ipv6}
use Rattle.ipnet.proofs.aggregate.by_family.Goals.{in-V4+in_ok-push-in-V4, in-V6+in_ok-push-in-V6}
use Rattle.ipnet.proofs.aggregate.by_family.Goals as goal

-- one network more
more : {X : Type 0} (pick : IpNet → Option X) (ns : List IpNet) (i : ℕ) (n m : IpNet) → i < length ns → n ≡ get_or ns i n → n ≡ m → filter_map pick (take (i + 1) ns) ≡ filter_map pick (take i ns) ++ filter_map pick (m ∷ [])
more pick ns i n m lt is e =
    ap (filter_map pick) (take_more ns i n lt ∙ ap (λ y. take i ns ++ (y ∷ [])) (sym is ∙ e)) ∙ filter_map-append pick (take i ns) (m ∷ [])

pub loop-network-preserved : goal.loop-network-preserved
loop-network-preserved c =
    let ns = c.deref-network-items.result.now in
    let i = c.loop-network.network-index in
    let lt = c.loop-network-test.true in
    let h = c.loop-network.invariant in
    elim c.match-network.branch [
      | in-V4+in_ok-push-in-V4 w ↦ (
        ap (λ v. v.items) w.ipv4-is ∙ w.in_ok-push-in-V4.ensures.items ∙ ap (λ ys. ys ++ (w.in-V4.network ∷ [])) h.0 ∙ sym (more as_ipv4 ns i c.network-item.result (V4 w.in-V4.network) lt c.network-item.is w.in-V4.is),
        ap (λ v. v.items) w.ipv6-is ∙ h.1 ∙ sym (more as_ipv6 ns i c.network-item.result (V4 w.in-V4.network) lt c.network-item.is w.in-V4.is ∙ append-nil (only_ipv6 (take i ns))),
      )
      | in-V6+in_ok-push-in-V6 w ↦ (
        ap (λ v. v.items) w.ipv4-is ∙ h.0 ∙ sym (more as_ipv4 ns i c.network-item.result (V6 w.in-V6.network) lt c.network-item.is w.in-V6.is ∙ append-nil (only_ipv4 (take i ns))),
        ap (λ v. v.items) w.ipv6-is ∙ w.in_ok-push-in-V6.ensures.items ∙ ap (λ ys. ys ++ (w.in-V6.network ∷ [])) h.1 ∙ sym (more as_ipv6 ns i c.network-item.result (V6 w.in-V6.network) lt c.network-item.is w.in-V6.is),
      )
    ]
