use Rattle.std.proofs.Common.{◌∙◌, ap, subst, sym}
use Rattle.ipnet_blocks.specs.Blocks.{IsBlock}
use Rattle.ipnet_blocks.proofs.NetworkBlocks.{block_is}
use Rattle.ipnet.specs.IpNets.{block, family, parts}
use Rattle.route_laws.proofs.NetworksAt.{of_network_at}
use Rattle.route_table.proofs.table.cleared.Goals as goal

pub returns-clause-block : goal.returns-clause-block
returns-clause-block c = ap block c.trunc.ensures.value ∙ of_network_at (block c.args.net.now)

pub returns-clause-is_block : goal.returns-clause-is_block
returns-clause-is_block c = subst IsBlock (sym (ap block c.trunc.ensures.value ∙ of_network_at (block c.args.net.now))) (block_is (family c.args.net.now) (parts c.args.net.now) c.trunc.ensures.network)
