use Rattle.std.proofs.Common.{arith}
use Rattle.std.proofs.lemmas.Result.{err_from_is_err_and}
use Rattle.route_feed.proofs.LeadThen.{lead_stopped, lead_counts, lead_ended, lead_known}
use Rattle.route_feed.proofs.runs.lead_then.Goals as goal

pub returns-in_err-rest-clause-ends : goal.returns-in_err-rest-clause-ends
returns-in_err-rest-clause-ends g c =
    let p = err_from_is_err_and c.from_residual-in_err-rest.result c.from_residual-in_err-rest.ensures.1 in
    let runs = rw c.in_ok-table.ensures.networks at c.in_err-rest.ensures.runs in
    rw (p.1, p.2) (lead_stopped g.R.Read.remaining g.W.Write.contents c.args.reader.now c.run.new.reader c.args.writer.now c.run.new.sink c.in_err-rest.field-0.0 c.run.new.writer runs)

pub answer_rest-result-requires : goal.answer_rest-result-requires
answer_rest-result-requires g c =
    let runs = rw c.in_ok-table.ensures.networks at c.in_ok-rest.ensures.runs in
    lead_counts g.R.Read.remaining g.W.Write.contents c.args.reader.now c.run.new.reader c.args.writer.now c.run.new.sink c.in_ok-rest.rest c.run.new.writer runs (omega (arith, c.requires.1))

pub returns-clause-ends : goal.returns-clause-ends
returns-clause-ends g c =
    let runs = rw c.in_ok-table.ensures.networks at c.in_ok-rest.ensures.runs in
    lead_ended g.R.Read.remaining g.W.Write.contents c.args.reader.now c.run.new.reader c.args.writer.now c.run.new.sink c.in_ok-rest.rest c.run.new.writer runs c.answer_rest-result.new.writer c.answer_rest-result.result c.answer_rest-result.ensures.closes c.answer_rest-result.ensures.held

pub returns-clause-known : goal.returns-clause-known
returns-clause-known g c = lead_known g.R.Read.remaining g.W.Write.contents c.args.reader.now c.run.new.reader c.args.writer.now c.answer_rest-result.new.writer c.answer_rest-result.result (returns-clause-ends g c)
