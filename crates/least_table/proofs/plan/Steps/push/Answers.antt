use Rattle.std.proofs.Common.{refl}
use Rattle.std.proofs.lemmas.Result.{on_ok_weaker}
use Rattle.least_table.proofs.Steps.{grown}
use Rattle.least_table.proofs.plan.Steps.push.Goals as goal

pub returns : goal.returns
returns c = on_ok_weaker c.push.result (λ added. grown c.args.self.now _ c.args.step _ added (λ at h. (h, refl)) c.requires.whole c.requires.kept refl) c.push.ensures
