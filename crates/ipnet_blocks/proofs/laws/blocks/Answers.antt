use Rattle.std.proofs.Common.{refl, arith}
use Rattle.ipnet_blocks.specs.Blocks.{parent}
use Rattle.ipnet_blocks.proofs.BlockLaws.{same_sets, longer_inside}
use Rattle.ipnet_blocks.proofs.Parents.{parent_is_block, inside_parent, parent_in_larger}
use Rattle.ipnet_blocks.proofs.laws.blocks.Goals as goal

pub returns : goal.returns
returns c = record {
  addresses = same_sets;
  parent = λ b ok some. (
    parent_is_block b ok some,
    (inside_parent b ok some, λ h. let l = longer_inside (parent b) b ok refl h in omega arith),
    λ d is larger. parent_in_larger d b is ok larger,
  );
}
