use Rattle.std.proofs.Common.{subst, map}
use Rattle.route_table.specs.InnerFamilyTables.{route_at}
use Rattle.route_table.specs.InnerEntries.{GivesNet, entries_left}
use Rattle.route_table.proofs.Walked.{gives, left_keys}
use Rattle.route_table.proofs.family_routes.FamilyRoutes.next_net.Goals as goal

pub invariant_of-self : goal.invariant_of-self
invariant_of-self g c = left_keys g.P.FamilyNet.family g.P.Prefix.bits g.P.Prefix.of_bits g.P.FamilyNet.parts g.met.P.FamilyNet.parts_are g.P.Prefix.fits _ _ c.self.invariant c.next.result c.next.ensures

pub returns : goal.returns
returns g c =
    let f = g.P.FamilyNet.family in
    subst (λ M. GivesNet f g.P.FamilyNet.parts M c.next.result (map (route_at f) (entries_left c.next.new.self))) c.self.view_is
    (gives f g.P.Prefix.bits g.P.Prefix.of_bits g.P.FamilyNet.parts g.met.P.FamilyNet.parts_are g.P.Prefix.fits _ _ c.self.invariant c.next.result c.next.ensures)
