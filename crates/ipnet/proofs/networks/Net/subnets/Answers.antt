use Rattle.std.proofs.Common.{arith}
use Rattle.ipnet_blocks.specs.Networks.{block_of}
use Rattle.ipnet_blocks.proofs.SubnetBlocks.{subnets_are}
use Rattle.ipnet.proofs.networks.Net.subnets.Goals as goal

pub returns-clause-blocks : goal.returns-clause-blocks
returns-clause-blocks g c =
    subnets_are (block_of g.N.AddressInt.family c.args.self.now) _ _ (omega arith) (rw (c.network.ensures, c.broadcast.ensures) at c.new.ensures.blocks)
