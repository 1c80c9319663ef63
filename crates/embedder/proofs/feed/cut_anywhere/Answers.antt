use Rattle.std.proofs.Common.{◌++◌}
use Rattle.route_feed.specs.Output.{at_end, whole_commands}
use Rattle.route_lines.specs.Bytes.{rest}
use Rattle.embedder.proofs.feed.cut_anywhere.Goals as goal

pub returns : goal.returns
returns c bytes front back refusals e x a =
    let law = c.reply_lines.ensures in
    let (first, later, split, changes, closed) = law.written bytes front back refusals e in
    rw (changes, closed) (law.hops (whole_commands bytes ++ at_end (rest bytes)) refusals first later (law.commands bytes) split x a)
