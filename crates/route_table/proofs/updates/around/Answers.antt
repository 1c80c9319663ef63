use Rattle.std.proofs.Common.{Some, subst, inr}
use Rattle.ipnet_addr.specs.Addresses.{width}
use Rattle.prefix_trie.proofs.Within.{begins_itself}
use Rattle.route_laws.specs.Networks.{routes_of}
use Rattle.route_table.specs.InnerUpdates.{GivesPath}
use Rattle.route_table.proofs.Updating.{begun_inside, begun_next}
use Rattle.route_table.proofs.updates.around.Goals as goal

pub loop-path-init : goal.loop-path-init
loop-path-init g c =
    let b = c.in_ok-block.block in
    let gives = subst (λ M. GivesPath g.P.FamilyNet.family M (Some b) c.next_path.new.routes) c.iter-routes.ensures c.in_ok-block.ensures in
    (gives.3, begun_next g.P.FamilyNet.family b b (routes_of c.args.side.now) _ c.next_path.new.routes b gives (begins_itself b) (begins_itself b) (λ r i. inr i))

pub loop-path-preserved : goal.loop-path-preserved
loop-path-preserved g c = (
  c.widened-block.ensures.fits,
  begun_next g.P.FamilyNet.family c.loop-path.block c.widened-block.result _ c.loop-path.routes c.next_path-in-loop-path.new.routes c.in-Some.path c.in-Some.ensures c.widened-block.ensures.block c.widened-block.ensures.other c.loop-path.invariant.1,
)

pub returns : goal.returns
returns g c = (c.loop-path.invariant.0, begun_inside (width g.P.FamilyNet.family) c.loop-path.block (routes_of c.args.side.now) c.loop-path.routes c.in_default.ensures.0 c.loop-path.invariant.1)
