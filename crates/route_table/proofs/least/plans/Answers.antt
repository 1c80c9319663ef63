use Rattle.ipnet.specs.declared.ip_net.IpNet.TheVariants as net
use Rattle.ipnet_addr.specs.Addresses.{Family, Ipv4, Ipv6}
use Rattle.route_table.proofs.FlatPieces.{all_planned, pieces_left, planned_next, planned_still, still_disjoint}
use Rattle.route_table.proofs.least.plans.Goals as goal

pub push-requires-clause-after : goal.push-requires-clause-after
push-requires-clause-after c =
    let p = c.loop-net.invariant.v4 in
    let left = c.loop-net.net-iterator in
    let is = pieces_left Ipv4 left c.next.new.self c.in-Some.net (net.V4 c.in-V4.net) c.in-Some.number c.in-V4.is c.in-Some.ensures.steps.0 in
    (p.0, p.2, still_disjoint c.requires.0 c.args.flat c.into_iter-net-iterator.result c.requires.1 c.into_iter-net-iterator.ensures.into_iter_gives Ipv4 c.loop-net.v4 left c.next.new.self p _ is)

pub loop-net-preserved-in-Continue-1 : goal.loop-net-preserved-in-Continue-1
loop-net-preserved-in-Continue-1 c =
    let p = c.loop-net.invariant.v4 in
    let all = c.into_iter-net-iterator.result in
    let same = c.into_iter-net-iterator.ensures.into_iter_gives in
    let left = c.loop-net.net-iterator in
    let is = λ (f : Family). pieces_left f left c.next.new.self c.in-Some.net (net.V4 c.in-V4.net) c.in-Some.number c.in-V4.is c.in-Some.ensures.steps.0 in
    let next = still_disjoint c.requires.0 c.args.flat all c.requires.1 same Ipv4 c.loop-net.v4 left c.next.new.self p _ (is Ipv4) in
    record {
      v4 = planned_next c.requires.0 c.args.flat all c.requires.1 same Ipv4 c.loop-net.v4 left c.next.new.self p _ (is Ipv4) c.push.new.self (c.in_ok-push-in-V4.ensures p.0 p.2 next);
      v6 = planned_still Ipv6 all c.loop-net.v6 left c.next.new.self c.loop-net.invariant.v6 (is Ipv6);
    }

pub returns-clause-ipv4 : goal.returns-clause-ipv4
returns-clause-ipv4 c = all_planned Ipv4 c.args.flat c.into_iter-net-iterator.result c.loop-net.net-iterator c.loop-net.v4 c.into_iter-net-iterator.ensures.into_iter_gives c.in-None.ensures.steps.0 c.loop-net.invariant.v4

pub push-requires-in-V6-clause-after : goal.push-requires-in-V6-clause-after
push-requires-in-V6-clause-after c =
    let p = c.loop-net.invariant.v6 in
    let left = c.loop-net.net-iterator in
    let is = pieces_left Ipv6 left c.next.new.self c.in-Some.net (net.V6 c.in-V6.net) c.in-Some.number c.in-V6.is c.in-Some.ensures.steps.0 in
    (p.0, p.2, still_disjoint c.requires.0 c.args.flat c.into_iter-net-iterator.result c.requires.1 c.into_iter-net-iterator.ensures.into_iter_gives Ipv6 c.loop-net.v6 left c.next.new.self p _ is)

pub loop-net-preserved : goal.loop-net-preserved
loop-net-preserved c =
    let p = c.loop-net.invariant.v6 in
    let all = c.into_iter-net-iterator.result in
    let same = c.into_iter-net-iterator.ensures.into_iter_gives in
    let left = c.loop-net.net-iterator in
    let is = λ (f : Family). pieces_left f left c.next.new.self c.in-Some.net (net.V6 c.in-V6.net) c.in-Some.number c.in-V6.is c.in-Some.ensures.steps.0 in
    let next = still_disjoint c.requires.0 c.args.flat all c.requires.1 same Ipv6 c.loop-net.v6 left c.next.new.self p _ (is Ipv6) in
    record {
      v6 = planned_next c.requires.0 c.args.flat all c.requires.1 same Ipv6 c.loop-net.v6 left c.next.new.self p _ (is Ipv6) c.push-in-V6.new.self (c.in_ok-push-in-V6.ensures p.0 p.2 next);
      v4 = planned_still Ipv4 all c.loop-net.v4 left c.next.new.self c.loop-net.invariant.v4 (is Ipv4);
    }

pub returns-clause-ipv6 : goal.returns-clause-ipv6
returns-clause-ipv6 c = all_planned Ipv6 c.args.flat c.into_iter-net-iterator.result c.loop-net.net-iterator c.loop-net.v6 c.into_iter-net-iterator.ensures.into_iter_gives c.in-None.ensures.steps.0 c.loop-net.invariant.v6
