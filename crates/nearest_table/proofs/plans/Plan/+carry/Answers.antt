use Rattle.std.proofs.Common.{◌∙◌, ap, sym, ◌++◌}
use Rattle.std.proofs.lemmas.Result.{on_ok_weaker}
use Rattle.nearest_table.specs.InnerPlans.{tree_of}
use Rattle.nearest_table.specs.Plans.{tree_best, edits_of}
use Rattle.least_table.specs.Tables.{within}
use Rattle.nearest_table.specs.Wanted.{hops_from, wanted_hops}
use Rattle.nearest_table.proofs.Settles.{carried_fork}
use Rattle.nearest_table.proofs.plans.Plan.+carry.Goals as goal

pub returns-in_ok-carry-in-Fork : goal.returns-in_ok-carry-in-Fork
returns-in_ok-carry-in-Fork t c =
    on_ok_weaker c.carry-in-Fork.result
    (λ e. carried_fork c.args.block.now c.extended.result c.extended-in-Fork.result (wanted_hops c.in-Fork.field-0) (hops_from c.best.result) (tree_of c.in-Fork.low.value) (tree_of c.in-Fork.high.value) c.args.inherited c.in_ok-passed-in-Fork.passed
    c.args.edits.now.items c.settle.new.edits.items c.carry.new.edits.items c.carry-in-Fork.new.edits.items
    (c.best.ensures ∙ ap (λ p. tree_best (tree_of p)) c.in-Fork.is) c.in_ok-passed-in-Fork.ensures.0 c.extended.ensures c.extended-in-Fork.ensures
    c.in_ok-passed-in-Fork.ensures.1
    (c.in_ok-carry-in-Fork.ensures ∙ ap (λ p. c.settle.new.edits.items ++ within c.extended.result (edits_of (tree_of p) c.in_ok-passed-in-Fork.passed)) c.deref.ensures)
    (e ∙ ap (λ p. c.carry.new.edits.items ++ within c.extended-in-Fork.result (edits_of (tree_of p) c.in_ok-passed-in-Fork.passed)) c.deref-in-Fork.ensures)
    ∙ ap (λ p. c.args.edits.now.items ++ within c.args.block.now (edits_of (tree_of p) c.args.inherited)) (sym c.in-Fork.is))
    c.carry-in-Fork.ensures
