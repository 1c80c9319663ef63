use Rattle.std.proofs.lemmas.Result.{IfOk-weaker}
use Rattle.route_table.proofs.Updating.{edits_within}
use Rattle.route_table.proofs.FewestUpdates.{side_bits}
use Rattle.route_table.proofs.updates.edits_of_one.Goals as goal

pub nearest-requires-clause-installed : goal.nearest-requires-clause-installed
nearest-requires-clause-installed g c = (side_bits g.P.FamilyNet.family c.args.installed.now c.requires).0

pub nearest-requires-clause-order : goal.nearest-requires-clause-order
nearest-requires-clause-order g c = (side_bits g.P.FamilyNet.family c.args.installed.now c.requires).1

pub returns-clause-within : goal.returns-clause-within
returns-clause-within g c = IfOk-weaker c.nearest.result _ _ (λ es m. edits_within _ _ _ es.items (side_bits g.P.FamilyNet.family c.args.installed.now c.requires).0 m) c.nearest.ensures
