use Rattle.std.proofs.Common.{refl}
use Rattle.ipnet_blocks.specs.Networks.{block_of}
use Rattle.ipnet_blocks.proofs.NetworkBlocks.{block_is}
use Rattle.ipnet_blocks.proofs.Order.{order_of_strings}
use Rattle.ipnet_blocks.proofs.Strings.{inside_from_begins, begins_from_inside}
use Rattle.prefix_trie.proofs.laws.networks.Goals as goal

pub returns-clause-inside : goal.returns-clause-inside
returns-clause-inside c = λ f m n p q. (
  inside_from_begins (block_of f n) (block_of f m) (block_is f n q) (block_is f m p) refl,
  begins_from_inside (block_of f n) (block_of f m) (block_is f n q) (block_is f m p),
)

pub returns-clause-order : goal.returns-clause-order
returns-clause-order c = λ f m n p q. let s = order_of_strings (block_of f m) (block_of f n) (block_is f m p) (block_is f n q) refl in (s.1, s.0)
