use Rattle.std.proofs.Common.{◌≤◌, ℕ, Bool, List, length, ◌-◌}
use Rattle.least_table.specs.InnerPlanners.{HasPlan}
use Rattle.least_table.specs.InnerSteps.{Step}
use Rattle.least_table.proofs.plan.Steps.ascend.Given as goal

abbrev pub invariant-loop-at : goal.invariant-loop-at
invariant-loop-at l = record {
  inside : l.at ≤ length l.path;
  order : l.to ≤ l.at;
  plans : (w : ℕ) (ps : List (List Bool × ℕ)) (xs : List Step) → length l.path ≤ w → HasPlan w l.path l.from ps xs l.fn.self → HasPlan w l.path l.at ps xs l.self;
}

abbrev pub decreases-loop-at : goal.decreases-loop-at
decreases-loop-at l = l.at - l.to
