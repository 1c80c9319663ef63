use Rattle.std.proofs.Common.{◌∙◌, ◌∷◌, [], sym}
use Rattle.std.proofs.lemmas.Result.{on_ok_weaker}
use Rattle.least_table.specs.InnerHops.{members}
use Rattle.least_table.proofs.Joins.{last_best, lone_ends, longer_ends}
use Rattle.least_table.proofs.LeastPlans.{merged_in}
use Rattle.least_table.proofs.Steps.{left_whole, pop_last}
use Rattle.least_table.proofs.plan.Steps.widen.Goals as goal

pub longer-requires : goal.longer-requires
longer-requires c = (left_whole c.args.self.now c.in-Some.ensures.0 c.in-Some.last.now c.in-Some.ensures.1 c.requires.2.whole).1

pub push-requires-clause-whole : goal.push-requires-clause-whole
push-requires-clause-whole c =
    (left_whole c.args.self.now c.pop.new.self c.in-Some.last.now (pop_last c.args.self.now.steps c.in-Some.ensures.0 c.pop.new.self c.in-Some.last.now c.pop.result c.in-Some.ensures.1 c.pop.ensures) c.requires.2.whole).0

pub returns-in-Some-longer : goal.returns-in-Some-longer
returns-in-Some-longer c = on_ok_weaker c.push.result
    (λ grows xs p ends. longer_ends xs p c.args.self.now c.push.new.self ends c.pop.new.self c.in-Some.last.now (pop_last c.args.self.now.steps c.in-Some.ensures.0 c.pop.new.self c.in-Some.last.now c.pop.result c.in-Some.ensures.1 c.pop.ensures)
    c.args.is_upper c.args.hop c.in-Some-longer.turns _ c.in-Some-longer.ensures (c.one_best.ensures c.args.self.now.sets).0 grows) c.push.ensures

pub best-best-requires : goal.best-best-requires
best-best-requires c = (left_whole c.args.self.now c.in-Some.ensures.0 c.in-Some.last.now c.in-Some.ensures.1 c.requires.2.whole).1

pub push-requires-then-is_among-clause-kept : goal.push-requires-then-is_among-clause-kept
push-requires-then-is_among-clause-kept c = (c.one_best-then-is_among.ensures c.args.self.now.sets).1

pub returns-then-is_among : goal.returns-then-is_among
returns-then-is_among c = on_ok_weaker c.push-then-is_among.result
    (λ grows xs p ends. lone_ends xs p c.args.self.now c.push-then-is_among.new.self ends c.in-Some.ensures.0 c.in-Some.last.now c.in-Some.ensures.1 c.args.is_upper c.args.hop (c.args.hop ∷ [])
    (rw (c.as_slice.ensures ∙ c.best-best.ensures) at (merged_in c.args.hop c.as_slice.result.now (sym c.is_among.ensures ∙ c.if-is_among.true))) (tt, tt)
    (rw ((c.one_best-then-is_among.ensures c.args.self.now.sets).0, c.one.ensures) at grows)) c.push-then-is_among.ensures

pub merge-requires-clause-high_rises : goal.merge-requires-clause-high_rises
merge-requires-clause-high_rises c = rw (c.as_slice-2.ensures, c.best-best.ensures, last_best c.requires.0 c.requires.1 c.args.self.now c.args.self.now c.requires.2 c.in-Some.ensures.0 c.in-Some.last.now c.in-Some.ensures.1) c.requires.2.rising

pub returns : goal.returns
returns c = on_ok_weaker c.push_half.result
    (λ grows xs p ends. lone_ends xs p c.args.self.now c.push_half.new.self ends c.in-Some.ensures.0 c.in-Some.last.now c.in-Some.ensures.1 c.args.is_upper c.args.hop (members c.in_ok-hops.hops)
    (rw (c.as_slice-2.ensures ∙ c.best-best.ensures) at c.in_ok-hops.ensures.merged) c.in_ok-hops.ensures.rising (rw c.as_slice-3.ensures at grows)) c.push_half.ensures
