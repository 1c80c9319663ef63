use Rattle.ipnet_blocks.proofs.NetworkBlocks.{block_is}
use Rattle.ipnet.proofs.laws.network_blocks.Goals as goal

pub returns-clause-blocks : goal.returns-clause-blocks
returns-clause-blocks c n h = block_is _ _ h
