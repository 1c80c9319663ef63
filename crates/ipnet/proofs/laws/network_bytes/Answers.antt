use Rattle.ipnet.proofs.Longest.{longest}
use Rattle.ipnet.proofs.NoSpace.{no_space, no_line_end}
use Rattle.ipnet.proofs.laws.network_bytes.Goals as goal

pub returns : goal.returns
returns c = record { no_space = no_space; no_line_end = no_line_end; short = longest }
