use Rattle.std.proofs.Common.{◌∙◌, [], ap, subst, take_all, arith}
use Rattle.ipnet.specs.IpNets.{block}
use Rattle.route_choices.specs.Choices.{default_preference}
use Rattle.route_laws.specs.LeastTables.{routes_for}
use Rattle.route_laws.specs.Networks.{routes_of}
use Rattle.route_laws.specs.Overwritten.{overwritten}
use Rattle.route_laws.specs.Painted.{AreChanges}
use Rattle.route_laws.specs.Tables.{route_of}
use Rattle.route_laws.proofs.Overwritten.{routes_overwritten}
use Rattle.route_table.specs.InnerUpdates.{overwritten_all}
use Rattle.route_table.proofs.Updating.{changes_next, no_changes, over_next}
use Rattle.route_table.proofs.updates.table_of.Goals as goal

pub loop-net-init : goal.loop-net-init
loop-net-init c = (ap routes_of c.in_ok-table.ensures.networks, no_changes)

pub loop-net-preserved : goal.loop-net-preserved
loop-net-preserved c =
    let xs = c.args.changes.now in
    let i = c.loop-net.net-index in
    let p = c.loop-net-item.result in (
      ap routes_of c.in_ok-overwrite.ensures.networks ∙ routes_overwritten c.loop-net.table (block p.0) (record { hop = p.1; pref = default_preference })
          ∙ ap (λ M. overwritten M (route_of p.0 p.1 default_preference)) c.loop-net.invariant.0 ∙ over_next xs i p (omega arith) c.loop-net-item.is,
      changes_next xs i p (omega arith) c.loop-net-item.is c.loop-net.invariant.1 c.in_ok-overwrite.ensures.change.0 c.in_ok-overwrite.ensures.change.1,
    )

pub returns-clause-routes : goal.returns-clause-routes
returns-clause-routes c = c.loop-net.invariant.0 ∙ ap (λ l. overwritten_all [] (routes_for l)) (take_all c.loop-net.net-index c.args.changes.now (omega arith))

pub returns-clause-changes : goal.returns-clause-changes
returns-clause-changes c = subst (λ l. AreChanges (routes_for l)) (take_all c.loop-net.net-index c.args.changes.now (omega arith)) c.loop-net.invariant.1
