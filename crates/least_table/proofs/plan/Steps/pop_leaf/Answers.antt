use Rattle.std.proofs.Common.{◌∙◌, ◌++◌, ◌∷◌, [], ap}
use Rattle.least_table.specs.declared.plan.Packed.TheVariants.{Leaf}
use Rattle.least_table.proofs.Steps.{left_whole, pop_last, popped}
use Rattle.least_table.proofs.plan.Steps.pop_leaf.Goals as goal

pub returns : goal.returns
returns c =
    let e = c.in-Some-Leaf.ensures in
    let last = pop_last c.args.self.now.steps e.0 c.pop.new.self _ c.pop.result (e.1 ∙ ap (λ y. e.0 ++ y ∷ []) c.in-Some-Leaf.field-0-is) c.pop.ensures in
    (popped c.args.self.now c.pop.new.self (Leaf c.in-Some-Leaf.hop) last, (left_whole c.args.self.now c.pop.new.self (Leaf c.in-Some-Leaf.hop) last c.requires).0)
