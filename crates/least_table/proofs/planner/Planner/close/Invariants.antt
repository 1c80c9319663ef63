use Rattle.std.proofs.Common.{◌≤◌, ℕ, Bool, List, length}
use Rattle.least_table.specs.InnerPlanners.{ArePlanned}
use Rattle.least_table.proofs.planner.Planner.close.Given as goal

abbrev pub invariant-loop-lower : goal.invariant-loop-lower
invariant-loop-lower g l = record {
  deep : l.depth ≤ l.from;
  inside : l.from ≤ length l.path;
  planned : (ps : List (List Bool × ℕ)) → ArePlanned g.P.R.Key.width l.path (length l.path) (length l.path) ps l.fn.self.lowers.items l.fn.self.steps
      → ArePlanned g.P.R.Key.width l.path l.from l.from ps l.self.lowers.items l.self.steps;
}

abbrev pub decreases-loop-lower : goal.decreases-loop-lower
decreases-loop-lower g l = length l.self.lowers.items
