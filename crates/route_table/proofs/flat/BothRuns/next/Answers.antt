use Rattle.std.proofs.Common.{◌∙◌, ap, subst}
use Rattle.ipnet.specs.IpSubnets.{ip_limits}
use Rattle.ipnet_addr.specs.Addresses.{Ipv4, Ipv6}
use Rattle.ipnet_blocks.specs.InnerSpans.{limits_of}
use Rattle.ipnet_blocks.specs.declared.aggregate.Span.{Span}
use Rattle.route_table.specs.InnerRunning.{GivesRun}
use Rattle.route_table.proofs.FlatRuns.{next_ipv4, next_ipv6, no_hops, pieces_of_run}
use Rattle.route_table.proofs.flat.BothRuns.next.Goals as goal

pub returns-in-Some-clause-pieces : goal.returns-in-Some-clause-pieces
returns-in-Some-clause-pieces c =
    rw c.number.ensures (pieces_of_run (next_ipv4 c.args.self.now c.requires c.next.new.self c.in-Some.run' c.in-Some.ensures.run) c.blocks-in-Some.result
    (c.blocks-in-Some.ensures ∙ ap (λ (s : Span). ip_limits Ipv4 (limits_of s)) c.span.ensures.value))

pub returns-in-Some-next-clause-pieces : goal.returns-in-Some-next-clause-pieces
returns-in-Some-next-clause-pieces c =
    let none = subst (λ o. GivesRun c.args.self.now.v4 o c.next.new.self) c.in_default.is c.next.ensures.run in
    rw c.number-in-Some-next.ensures (pieces_of_run (next_ipv6 c.args.self.now c.requires c.next-2.new.self c.in-Some-next.run' c.next.new.self none c.in-Some-next.ensures.run)
    c.blocks-in-Some-next.result (c.blocks-in-Some-next.ensures ∙ ap (λ (s : Span). ip_limits Ipv6 (limits_of s)) c.span-in-Some-next.ensures.value))

pub returns-in-None-clause-pieces : goal.returns-in-None-clause-pieces
returns-in-None-clause-pieces c =
    let none = subst (λ o. GivesRun c.args.self.now.v4 o c.next.new.self) c.in_default.is c.next.ensures.run in
    (no_hops _ _ none.0 c.in-None.ensures.run.0, no_hops _ _ none.1 c.in-None.ensures.run.1)
