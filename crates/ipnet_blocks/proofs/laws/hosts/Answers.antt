use Rattle.ipnet_blocks.proofs.SubnetBlocks.{hosts_are_exact}
use Rattle.ipnet_blocks.proofs.laws.hosts.Goals as goal

pub returns : goal.returns
returns c = hosts_are_exact
