use Rattle.std.proofs.Common.{◌≡◌, ◌++◌, map}
use Rattle.ipnet.specs.IpNets.{block}
use Rattle.route_table.proofs.own_blocks.push_blocks.Given as goal

abbrev pub invariant-loop-block : goal.invariant-loop-block
invariant-loop-block l = map block l.networks.items ++ l.block-iterator ≡ map block l.fn.networks.items ++ l.fn.blocks
