use Rattle.route_table.proofs.LeastBits.{results_are_least}
use Rattle.route_table.proofs.least.fewest.Goals as goal

pub returns : goal.returns
returns g c = results_are_least g.P.FamilyNet.family g.P.Prefix.bits g.P.Prefix.of_bits g.P.FamilyNet.parts g.met.P.FamilyNet.parts_are g.P.Prefix.fits g.P.R.Key.width g.met.P.FamilyNet.width_is
    _ c.into_routes.result c.into_routes.ensures.networks c.into_routes.ensures.ordered c.into_routes.ensures.least
