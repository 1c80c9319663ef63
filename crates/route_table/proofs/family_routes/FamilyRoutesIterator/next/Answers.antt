use Rattle.std.proofs.Common.{sym, subst, Some}
use Rattle.route_table.specs.Items.{GivesRoute}
use Rattle.route_table.proofs.family_routes.FamilyRoutesIterator.next.Goals as goal

pub returns-clause-steps : goal.returns-clause-steps
returns-clause-steps g c = subst (λ n. GivesRoute c.args.self.now (Some (n, c.in_ok-net.hop, c.in_ok-net.pref)) c.next_net.new.self) (sym c.ip_net.ensures) c.in_ok-net.ensures
