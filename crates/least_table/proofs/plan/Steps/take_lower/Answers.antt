use Rattle.least_table.proofs.Steps.{leaf_last}
use Rattle.least_table.proofs.plan.Steps.take_lower.Goals as goal

pub returns-in-Some : goal.returns-in-Some
returns-in-Some c = λ xs p ends. (leaf_last c.in-Some.hop xs p c.args.self.now c.pop_leaf.new.self c.in-Some.ensures.0 ends, c.in-Some.ensures.1)
