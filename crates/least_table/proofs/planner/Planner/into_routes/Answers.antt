use Rattle.std.proofs.Common.{◌∙◌, sym}
use Rattle.std.proofs.lemmas.Result.{IfOk-weaker}
use Rattle.least_table.proofs.planner.Planner.into_routes.Goals as goal

pub returns-in-Some-clause-least : goal.returns-in-Some-clause-least
returns-in-Some-clause-least g c = IfOk-weaker c.routes.result _ _ (λ table least ps h. least ps (rw (sym c.take.ensures.value ∙ c.in-Some.is) at h).planned) c.routes.ensures.least
