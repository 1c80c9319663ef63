use Rattle.std.proofs.Common.{◌∙◌, Some, None}
use Rattle.route_table.proofs.Searches.{longest_is}
use Rattle.route_table.proofs.family_table.FamilyTable.get.Goals as goal

pub get_lpm-requires : goal.get_lpm-requires
get_lpm-requires g c = g.met.P.FamilyNet.always_fits c.args.net

pub returns-in_err-found : goal.returns-in_err-found
returns-in_err-found g c = c.from_residual.ensures ∙ longest_is _ c.requires _ c.self.invariant.0 _ c.self.view_is _ (g.met.P.FamilyNet.bits_are c.args.net) g.P.Prefix.fits g.P.Prefix.bits g.P.Prefix.of_bits g.P.FamilyNet.parts g.met.P.FamilyNet.parts_are None c.in_err-found.ensures

pub returns : goal.returns
returns g c = (λ i. Some (c.ip_net.ensures i, (c.best-hop.ensures i).0, (c.best-hop.ensures i).1)) ∙ longest_is _ c.requires _ c.self.invariant.0 _ c.self.view_is _ (g.met.P.FamilyNet.bits_are c.args.net) g.P.Prefix.fits g.P.Prefix.bits g.P.Prefix.of_bits g.P.FamilyNet.parts g.met.P.FamilyNet.parts_are (Some (c.in_ok-found.found, c.in_ok-found.choices)) c.in_ok-found.ensures
