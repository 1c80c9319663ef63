use Rattle.std.proofs.Common.{◌≡◌, map, ap, ◌∙◌, rules, subst, sym}
use Rattle.route_laws.specs.LeastTables.{routes_for}
use Rattle.route_laws.specs.Nearest.{IsNearest}
use Rattle.route_laws.specs.Networks.{routes_of}
use Rattle.route_laws.specs.Operations.{after_all, between}
use Rattle.route_laws.specs.Painted.{painted_all}
use Rattle.route_laws.specs.Tables.{hop_at}
use Rattle.route_laws.proofs.Between.{between_reaches}
use Rattle.route_table.specs.Operations.{operation_of}
use Rattle.route_installer.proofs.installer.update.Goals as goal

pub returns : goal.returns
returns c =
    let M = routes_of c.args.table.now in
    let u = c.in_ok-operations.ensures.updates in
    let is : routes_of c.carry_out.new.self ≡ u.table =
    c.in_ok-carry_out.ensures.routes ∙ ap (λ l. after_all M (map operation_of l)) c.as_slice.ensures.value
    ∙ ap (after_all M) u.operations
    ∙ between_reaches M u.table c.in_ok-operations.ensures.table u.nearest.hops.table in
    record {
      nearest = subst (IsNearest M (hop_at (painted_all M (routes_for c.args.changes.now)))) (sym is) u.nearest;
      operations = u.operations ∙ ap (between M) (sym is);
      truncated = search rules;
      memory = tt;
    }
