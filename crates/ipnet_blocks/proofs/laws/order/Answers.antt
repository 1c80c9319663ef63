use Rattle.ipnet_blocks.proofs.laws.order.Goals as goal
use Rattle.ipnet_blocks.proofs.BlockLaws.{total, strict, transitive}
use Rattle.ipnet_blocks.proofs.Order.{order_of_strings}

pub returns : goal.returns
returns c = record { total = total; strict = strict; transitive = transitive; strings = order_of_strings }
