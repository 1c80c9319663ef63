use Rattle.route_table.proofs.least.least_of.Goals as goal

pub returns-clause-least : goal.returns-clause-least
returns-clause-least c h flat = rw c.in_ok-list.ensures (c.in_ok-routes.ensures.least h flat)
