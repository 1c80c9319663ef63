use Rattle.std.proofs.lemmas.Result.{IfOk-weaker}
use Rattle.route_laws.specs.Networks.{routes_of}
use Rattle.route_laws.specs.Tables.{hop_at}
use Rattle.hop_index.proofs.index.HopIndex.from_table.Goals as goal

pub returns-clause-hops : goal.returns-clause-hops
returns-clause-hops c = IfOk-weaker c.from_flat.result _ _ (λ i all. all (hop_at (routes_of c.args.table.now)) c.flat.ensures.flat) c.from_flat.ensures.hops
