use Rattle.std.proofs.Common.{refl}
use Rattle.embedder.proofs.LineCounts.{run_counts}
use Rattle.embedder.proofs.line_count.count_lines.Goals as goal

pub returns : goal.returns
returns g c =
    run_counts g.R.Read.remaining _ c.run.new.sink c.args.reader.now c.run.new.reader c.new-nowhere.result c.run.new.writer c.in_ok-run.field-0 refl c.counts.ensures c.in_ok-run.ensures.runs
