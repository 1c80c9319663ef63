use Rattle.ipnet_blocks.proofs.laws.inside_by_numbers.Goals as goal
use Rattle.ipnet_blocks.proofs.BlockLaws.{inside_by_numbers}

pub returns : goal.returns
returns c = inside_by_numbers
