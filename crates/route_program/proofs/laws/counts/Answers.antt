use Rattle.std.proofs.Common.{zero, suc, ◌≤◌, ◌-◌, ◌^◌, ◌∙◌, arith}
use Rattle.route_program.specs.Counted.{MoreByIsMin, one_more}
use Rattle.route_program.proofs.laws.counts.Goals as goal

more_by_is_min : MoreByIsMin
more_by_is_min zero n h = omega (arith, h)
more_by_is_min (suc times) n h =
    let small : one_more n ≤ 2 ^ 64 - 1 = omega (arith, h) in
    more_by_is_min times (one_more n) small ∙ omega (arith, h)

pub returns : goal.returns
returns c = more_by_is_min
