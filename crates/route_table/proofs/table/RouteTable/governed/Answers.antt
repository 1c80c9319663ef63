use Rattle.std.proofs.Common.{subst, length, ◌+◌, ◌≤◌, sum_by}
use Rattle.ipnet.specs.IpNets.{block}
use Rattle.ipnet_blocks.specs.Blocks.{Block}
use Rattle.ipnet_blocks.specs.Maximal.{IsMaximal}
use Rattle.ipnet_blocks.proofs.Maximals.{maximal_is_shortest}
use Rattle.route_laws.specs.Bounds.{excess}
use Rattle.route_laws.specs.Tables.{Governed}
use Rattle.route_laws.specs.Networks.{routes_of}
use Rattle.route_table.proofs.table.RouteTable.governed.Goals as goal

pub returns-clause-maximal : goal.returns-clause-maximal
returns-clause-maximal c = subst (λ (b : Block). IsMaximal (Governed (routes_of c.args.self.now) b) c.governs.result) c.cleared.ensures.block c.governs.ensures.maximal

pub returns-clause-bound : goal.returns-clause-bound
returns-clause-bound c = subst (λ (b : Block). length c.governs.result ≤ 1 + sum_by (λ r. excess b r.block) (routes_of c.args.self.now)) c.cleared.ensures.block c.governs.ensures.bound

pub returns-clause-shortest : goal.returns-clause-shortest
returns-clause-shortest c = maximal_is_shortest (Governed (routes_of c.args.self.now) (block c.args.net.now)) c.governs.result (returns-clause-maximal c)
