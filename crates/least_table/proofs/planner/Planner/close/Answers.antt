use Rattle.std.proofs.Common.{arith, ◌∙◌, ◌++◌, ap, append_assoc, reverse}
use Rattle.std.proofs.Math.Facts.{Fits-of_lt}
use Rattle.std.proofs.lemmas.Result.{on_ok_weaker}
use Rattle.least_table.proofs.Lowers.{fewer, joined, opened}
use Rattle.least_table.proofs.planner.Planner.close.Goals as goal

pub overflow_add-lower : goal.overflow_add-lower
overflow_add-lower g c =
    let h = c.loop-lower.invariant.planned c.requires.planned.0 c.requires.planned.1 in
    let z = opened g.P.R.Key.width c.args.path.now _ _ _ _ _ _ _ h c.in-Some.ensures.1 in
    Fits-of_lt (omega (arith, z.0, c.loop-lower.invariant.inside, c.requires.width, c.requires.short))

pub ascend-requires : goal.ascend-requires
ascend-requires g c =
    let h = c.loop-lower.invariant.planned c.requires.planned.0 c.requires.planned.1 in
    let z = opened g.P.R.Key.width c.args.path.now _ _ _ _ _ _ _ h c.in-Some.ensures.1 in
    record { short = omega arith; inside = c.loop-lower.invariant.inside; order = omega (arith, z.0); plans = (g.P.R.Key.width, c.requires.width, h.pieces, h.before, h.plans) }

pub join-requires : goal.join-requires
join-requires g c =
    let h = c.loop-lower.invariant.planned c.requires.planned.0 c.requires.planned.1 in
    let l = (opened g.P.R.Key.width c.args.path.now _ _ _ _ _ _ _ h c.in-Some.ensures.1).2 in
    let m = c.in_ok-ascend.ensures g.P.R.Key.width h.pieces h.before c.requires.width h.plans in
    (l.before, h.before, l.plan, m.plan, l.held, l.rising, m.ends)

pub loop-lower-preserved : goal.loop-lower-preserved
loop-lower-preserved g c =
    let h = c.loop-lower.invariant.planned c.requires.planned.0 c.requires.planned.1 in
    let inside = (opened g.P.R.Key.width c.args.path.now _ _ _ _ _ _ _ h c.in-Some.ensures.1).0 in
    record {
      deep = c.in-Some.ensures.0;
      inside = omega (arith, inside, c.loop-lower.invariant.inside);
      planned = λ ps before.
          let k = c.loop-lower.invariant.planned ps before in
          let z = opened g.P.R.Key.width c.args.path.now _ _ _ _ _ _ _ k c.in-Some.ensures.1 in
          let m = c.in_ok-ascend.ensures g.P.R.Key.width k.pieces k.before c.requires.width k.plans in
          let r = c.in_ok-join.ensures z.2.before k.before z.2.plan m.plan z.2.held z.2.rising m.ends in
          record {
            others = z.2.others;
            pieces = z.2.pieces ++ k.pieces;
            before = z.2.before;
            all = k.all ∙ ap (λ t. t ++ k.pieces) z.2.all ∙ append_assoc z.2.others z.2.pieces k.pieces;
            lower = z.3;
            plans = joined g.P.R.Key.width c.args.path.now c.in-Some.lower k.others k.pieces k.before c.ascend.new.self c.join.new.self z.2 m z.1 (omega (arith, inside, c.loop-lower.invariant.inside)) c.requires.width r.0 r.1 r.2;
          };
    }

pub ascend-requires-2-clause-plans : goal.ascend-requires-2-clause-plans
ascend-requires-2-clause-plans g c =
    let h = c.loop-lower.invariant.planned c.requires.planned.0 c.requires.planned.1 in
    (g.P.R.Key.width, c.requires.width, h.pieces, h.before, h.plans)

pub returns : goal.returns
returns g c = on_ok_weaker c.ascend-2.result
    (λ wider ps before.
    let h = c.loop-lower.invariant.planned ps before in
    record {
      others = h.others;
      pieces = h.pieces;
      before = h.before;
      all = h.all;
      lower = rw (ap (λ v. reverse v.items) c.in_default.ensures.0)
          (fewer g.P.R.Key.width c.loop-lower.from c.args.depth (reverse c.loop-lower.self.lowers.items) c.args.path.now h.others h.before h.lower c.in_default.ensures.1);
      plans = wider g.P.R.Key.width h.pieces h.before c.requires.width h.plans;
    }) c.ascend-2.ensures
