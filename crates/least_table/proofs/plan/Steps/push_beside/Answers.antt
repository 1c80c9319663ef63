use Rattle.std.proofs.Common.{◌∷◌, [], ap, drop}
use Rattle.std.proofs.lemmas.Result.{on_ok_weaker}
use Rattle.least_table.specs.HopSets.{first_hop}
use Rattle.least_table.specs.InnerSteps.{Around}
use Rattle.least_table.proofs.Steps.{grown}
use Rattle.least_table.proofs.plan.Steps.push_beside.Goals as goal

pub returns : goal.returns
returns c = on_ok_weaker c.push-2.result
    (λ added. grown c.args.self.now _ _ _ added c.in_ok-at.ensures.kept c.requires c.in_ok-at.ensures.here.0 (ap (λ ks. Around (c.args.is_upper ∷ []) (first_hop ks) (drop 1 ks)) c.in_ok-at.ensures.here.1)) c.push-2.ensures
