use Rattle.std.proofs.Common.{◌++◌, ap, ◌∙◌, map}
use Rattle.ipnet.specs.declared.ip_net.IpNet.TheVariants.{V4, V6}
use Rattle.ipnet.proofs.IpAggregates.{both_aggregated, both_truncated}
use Rattle.ipnet.proofs.ip_net.IpNet.aggregate.Goals as goal

pub returns-clause-blocks : goal.returns-clause-blocks
returns-clause-blocks c =
    let whole = c.in_ok-push_ipv6.ensures ∙ ap (λ l. l ++ map V6 c.in_ok-ipv6.ipv6.items) (c.in_ok-push_ipv4.ensures ∙ ap (λ l. l ++ map V4 c.in_ok-ipv4-2.ipv4.items) c.new-blocks.ensures.items) in
    rw whole (both_aggregated _ _ _ (rw c.in_ok-ipv4.ensures.ipv4 at c.in_ok-ipv4-2.ensures) (rw c.in_ok-ipv4.ensures.ipv6 at c.in_ok-ipv6.ensures))

pub returns-clause-truncated : goal.returns-clause-truncated
returns-clause-truncated c =
    let whole = c.in_ok-push_ipv6.ensures ∙ ap (λ l. l ++ map V6 c.in_ok-ipv6.ipv6.items) (c.in_ok-push_ipv4.ensures ∙ ap (λ l. l ++ map V4 c.in_ok-ipv4-2.ipv4.items) c.new-blocks.ensures.items) in
    rw whole (both_truncated _ _ c.in_ok-ipv4-2.ensures.truncated c.in_ok-ipv6.ensures.truncated)
