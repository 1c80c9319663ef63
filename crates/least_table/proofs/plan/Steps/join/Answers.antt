use Rattle.std.proofs.Common.{◌∙◌, subst, sym}
use Rattle.std.proofs.lemmas.Result.{on_ok_weaker}
use Rattle.least_table.specs.InnerPlans.{JoinsHalves}
use Rattle.least_table.proofs.Steps.{leaf_last}
use Rattle.least_table.proofs.plan.Steps.join.Goals as goal

pub widen-requires-in-Some : goal.widen-requires-in-Some
widen-requires-in-Some c =
    let h = rw c.in-At.is at c.requires.4 in
    let z = leaf_last c.in-Some.hop c.requires.1 c.requires.3 c.args.self.now c.pop_leaf.new.self c.in-Some.ensures.0 c.requires.6 in
    (c.requires.0, c.requires.2, record { steps = z.1 ∙ h.0; whole = c.in-Some.ensures.1; rising = c.requires.5 })

pub returns-in-Some : goal.returns-in-Some
returns-in-Some c = on_ok_weaker c.widen-in-Some.result
    (λ widens xs ys p q held rising ends.
    let h = rw c.in-At.is at held in
    let z = leaf_last c.in-Some.hop ys q c.args.self.now c.pop_leaf.new.self c.in-Some.ensures.0 ends in
    let w = widens xs p (record { steps = z.1 ∙ h.0; whole = c.in-Some.ensures.1; rising = rising }) in
    (w.0, subst (λ u. JoinsHalves p u w.0) (sym z.0) w.1, w.2)) c.widen-in-Some.ensures

pub returns-in-None : goal.returns-in-None
returns-in-None c = on_ok_weaker c.fork.result (λ forks xs ys p q held rising ends. forks xs ys p q (rw c.in-At.is at held) rising (rw c.in-None.ensures ends)) c.fork.ensures
