use Rattle.std.proofs.Common.{arith}
use Rattle.std.proofs.Math.Nat.{pow-le-pow_right}
use Rattle.trie_core.proofs.tables.places_between.Goals as goal

pub overflow_sub-result : goal.overflow_sub-result
overflow_sub-result c = omega (arith, pow-le-pow_right {n = 2} (omega arith) c.requires.ordered, pow-le-pow_right {n = 2} (omega arith) c.requires.end)
