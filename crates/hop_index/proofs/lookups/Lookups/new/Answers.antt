use Rattle.std.proofs.Common.{◌≡◌, length, arith}
use Rattle.hop_index.proofs.lookups.Lookups.new.Goals as goal

pub invariant_of-result : goal.invariant_of-result
invariant_of-result g c =
    let e = c.in_ok-cells.ensures in
    let after : c.over-all.result.after ≡ length c.pad.new.self = omega arith in
    rw e.ranges (c.in_ok-tops.ensures, c.in_ok-pad.ensures.padded, rw e.ranges at e.nodes, rw (c.deref.ensures.value, c.over-all.ensures.before, after) at e.entries)

pub returns : goal.returns
returns g c = λ x. rw c.in_ok-cells.ensures.ranges (c.in_ok-pad.ensures.hops x)
