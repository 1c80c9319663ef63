use Rattle.std.proofs.Common.{◌∙◌, map, ap, arith}
use Rattle.std.proofs.lemmas.List.{length-map}
use Rattle.route_laws.specs.LeastTables.{routes_for}
use Rattle.route_laws.specs.Networks.{routes_of}
use Rattle.route_laws.specs.Operations.{after_all}
use Rattle.route_table.specs.Operations.{operation_of}
use Rattle.embedder.proofs.table.updated.Goals as goal

pub returns-clause-fewest : goal.returns-clause-fewest
returns-clause-fewest c =
    let M = routes_of c.args.table.now in
    let rs = routes_for c.args.changes.now in
    let u = c.in_ok-operations.ensures.updates in
    let t = c.in_ok-operations.ensures.table in
    let items = c.in_ok-operations.operations.items in
    let os = map operation_of items in (
      os,
      c.in_ok-carry_out.ensures.routes ∙ ap (λ l. after_all M (map operation_of l)) c.as_slice.ensures.value,
      omega (arith, c.len.ensures, length-map items operation_of, c.in_ok-operations.operations.ok.0),
      c.updates.ensures.fewest M rs os t u,
      c.updates.ensures.hitless M rs os t u,
    )
