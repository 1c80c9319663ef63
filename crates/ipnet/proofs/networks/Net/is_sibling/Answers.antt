use Rattle.std.proofs.Common.{arith}
use Rattle.ipnet_blocks.proofs.NetworkBlocks.{siblings}
use Rattle.ipnet.proofs.networks.Net.is_sibling.Goals as goal

pub returns-then-prefix_len : goal.returns-then-prefix_len
returns-then-prefix_len g c = siblings g.N.AddressInt.family _ _ _ _ c.in-Some.ensures.0 c.in-Some.ensures.1 (omega arith) c.contains.ensures
