use Rattle.std.proofs.Common.{◌-◌, arith}
use Rattle.least_table.proofs.Lowers.{ascended}
use Rattle.least_table.proofs.plan.Steps.ascend.Goals as goal

pub widen-requires : goal.widen-requires
widen-requires c =
    let h = c.loop-at.invariant.plans c.requires.plans.0 c.requires.plans.2 c.requires.plans.3 c.requires.plans.1 c.requires.plans.4 in
    (c.requires.plans.3, h.plan, h.ends)

pub loop-at-preserved : goal.loop-at-preserved
loop-at-preserved c = record {
  inside = omega (arith, c.loop-at.invariant.inside);
  order = omega (arith, c.loop-at-test.true);
  plans = λ w ps xs fit before.
      let h = c.loop-at.invariant.plans w ps xs fit before in
      let r = c.in_ok-widen.ensures xs h.plan h.ends in
      ascended w c.args.path.now (c.loop-at.at - 1) c.loop-at.at ps xs c.loop-at.self c.widen.new.self fit (omega (arith, c.loop-at-test.true)) c.loop-at.invariant.inside h r.0 (rw c.bit.ensures at r.1) r.2;
}
