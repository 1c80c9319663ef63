use Rattle.std.proofs.Common.{◌≡◌, ◌-◌, [], None, ap, arith, length}
use Rattle.least_table.specs.Pieces.{piece_hop}
use Rattle.least_table.specs.InnerTrees.{plan_routes}
use Rattle.least_table.proofs.LeastPlans.{plans_are_least}
use Rattle.least_table.proofs.Lowers.{whole_plan, whole_routes}
use Rattle.least_table.proofs.Orders.{IsInOrder-routes, in_pairs}
use Rattle.least_table.proofs.planner.Planner.routes.Goals as goal

pub take-requires-clause-plan : goal.take-requires-clause-plan
take-requires-clause-plan g c =
    let h = whole_plan g.P.R.Key.width c.args.last.now _ _ _ (c.in_ok-close.ensures c.requires.planned.0 c.requires.planned.1) in
    let free : g.P.R.Key.width - length c.new.result ≡ g.P.R.Key.width = omega (arith, ap length c.new.ensures) in
    ([], h.0, rw free h.2)

pub returns-clause-networks : goal.returns-clause-networks
returns-clause-networks g c = c.in_ok-take.ensures.networks (rw c.new-routes.ensures (λ k d l. absurd (omega (arith, l))))

pub returns-clause-ordered : goal.returns-clause-ordered
returns-clause-ordered g c =
    let h = whole_plan g.P.R.Key.width c.args.last.now _ _ _ (c.in_ok-close.ensures c.requires.planned.0 c.requires.planned.1) in
    let free : g.P.R.Key.width - length c.new.result ≡ g.P.R.Key.width = omega (arith, ap length c.new.ensures) in
    let s = c.in_ok-take.ensures.stores [] h.0 (rw free h.2) in
    rw (whole_routes g.P.Prefix.bits c.new.result h.0 _ _ _ _ c.new.ensures c.new-routes.ensures s) (in_pairs (plan_routes h.0 None) (IsInOrder-routes h.0 None))

pub returns-clause-least : goal.returns-clause-least
returns-clause-least g c = λ ps before.
    let h = whole_plan g.P.R.Key.width c.args.last.now ps _ _ (c.in_ok-close.ensures ps before) in
    let free : g.P.R.Key.width - length c.new.result ≡ g.P.R.Key.width = omega (arith, ap length c.new.ensures) in
    let s = c.in_ok-take.ensures.stores [] h.0 (rw free h.2) in
    rw (whole_routes g.P.Prefix.bits c.new.result h.0 _ _ _ _ c.new.ensures c.new-routes.ensures s) (plans_are_least g.P.R.Key.width (piece_hop ps) h.0 h.1)
