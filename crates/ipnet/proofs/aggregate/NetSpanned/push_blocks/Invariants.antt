use Rattle.std.proofs.Common.{◌≡◌, ◌++◌, map}
use Rattle.ipnet_blocks.specs.Cuts.{subnets}
use Rattle.ipnet_blocks.specs.InnerSpans.{limits_of}
use Rattle.ipnet.proofs.aggregate.NetSpanned.push_blocks.Given as goal

abbrev pub invariant-loop-block : goal.invariant-loop-block
invariant-loop-block g l =
    map (λ n. n) l.blocks.items ++ subnets g.N.AddressInt.family l.block-iterator ≡ map (λ n. n) l.fn.blocks.items ++ subnets g.N.AddressInt.family (limits_of l.fn.span)
