use Rattle.std.proofs.Common.{◌≡◌, map, take}
use Rattle.std.specs.List.{flat_map}
use Rattle.ipnet_blocks.specs.Cuts.{subnets}
use Rattle.ipnet_blocks.specs.InnerSpans.{limits_of}
use Rattle.ipnet_blocks.proofs.aggregate.blocks_of.Given as goal

abbrev pub invariant-loop-span : goal.invariant-loop-span
invariant-loop-span g l =
    map g.N.Spanned.parts l.blocks.items ≡ flat_map (λ s. subnets g.N.Spanned.family (limits_of s)) (take l.span-index l.span-items)
