use Rattle.std.proofs.Common.{ap, arith, refl, rules, sym}
use Rattle.ipnet_addr.specs.Addresses.{Ipv4, Ipv6, rank}
use Rattle.route_table.specs.Items.{BeginsWithRun}
use Rattle.route_table.specs.declared.hop_run.HopRun.TheVariants as run
use Rattle.hop_index.proofs.Walks.{begin, done, ends_before, fewer, walk_kept, walk_on}
use Rattle.hop_index.proofs.index.ranges.Goals as goal

pub run-init : goal.run-init
run-init c = rw (c.new-v4.ensures, c.new-v6.ensures) (record { ipv4 = λ h flat. begin h _ flat Ipv4; ipv6 = λ h flat. begin h _ flat Ipv6 })

pub run-smaller-in-Continue-1 : goal.run-smaller-in-Continue-1
run-smaller-in-Continue-1 c = fewer c.run.flat c.next_run.new.self c.in-Some.run' c.in-Some.ensures

pub run-smaller : goal.run-smaller
run-smaller c = fewer c.run.flat c.next_run.new.self c.in-Some.run' c.in-Some.ensures

pub add-requires : goal.add-requires
add-requires c =
    let given : BeginsWithRun c.run.flat (run.V4 c.in-V4.first c.in-V4.last c.in-V4.hop) c.next_run.new.self = rw (sym c.in-V4.is) c.in-Some.ensures in
    let w = c.run.invariant.ipv4 _ c.requires.1 in
    record { ascending = w.ascending; below = ends_before _ _ c.requires.1 _ _ _ given c.run.v4 Ipv4 w refl; some = given.some; within = search rules }

pub add-requires-in-V6 : goal.add-requires-in-V6
add-requires-in-V6 c =
    let given : BeginsWithRun c.run.flat (run.V6 c.in-V6.first c.in-V6.last c.in-V6.hop) c.next_run.new.self = rw (sym c.in-V6.is) c.in-Some.ensures in
    let w = c.run.invariant.ipv6 _ c.requires.1 in
    record { ascending = w.ascending; below = ends_before _ _ c.requires.1 _ _ _ given c.run.v6 Ipv6 w refl; some = given.some; within = search rules }

pub run-preserved-in-Continue-1 : goal.run-preserved-in-Continue-1
run-preserved-in-Continue-1 c =
    let given : BeginsWithRun c.run.flat (run.V4 c.in-V4.first c.in-V4.last c.in-V4.hop) c.next_run.new.self = rw (sym c.in-V4.is) c.in-Some.ensures in
    let a = c.in_ok-add-in-V4.ensures in
    record {
      ipv4 = λ h flat. walk_on h _ flat _ _ _ given c.run.v4 Ipv4 (c.run.invariant.ipv4 h flat) refl c.add.new.self a.ascending a.below a.within a.inside a.outside;
      ipv6 = λ h flat. walk_kept h _ flat _ _ _ given c.run.v6 Ipv6 (c.run.invariant.ipv6 h flat) (λ e. let r = ap rank e in omega arith);
    }

pub run-preserved : goal.run-preserved
run-preserved c =
    let given : BeginsWithRun c.run.flat (run.V6 c.in-V6.first c.in-V6.last c.in-V6.hop) c.next_run.new.self = rw (sym c.in-V6.is) c.in-Some.ensures in
    let a = c.in_ok-add-in-V6.ensures in
    record {
      ipv4 = λ h flat. walk_kept h _ flat _ _ _ given c.run.v4 Ipv4 (c.run.invariant.ipv4 h flat) (λ e. let r = ap rank e in omega arith);
      ipv6 = λ h flat. walk_on h _ flat _ _ _ given c.run.v6 Ipv6 (c.run.invariant.ipv6 h flat) refl c.add-in-V6.new.self a.ascending a.below a.within a.inside a.outside;
    }

pub returns : goal.returns
returns c =
    let done_by = done _ _ c.requires.1 in
    record { ipv4 = done_by Ipv4 c.run.v4 c.run.flat c.in_default.ensures.0 c.run.invariant.ipv4; ipv6 = done_by Ipv6 c.run.v6 c.run.flat c.in_default.ensures.0 c.run.invariant.ipv6 }
