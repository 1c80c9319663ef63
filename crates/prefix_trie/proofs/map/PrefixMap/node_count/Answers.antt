use Rattle.std.proofs.Common.{◌+◌, ap, arith}
use Rattle.std.specs.FinMap.{len, len-empty}
use Rattle.ipnet_blocks.specs.BitStrings.{bits_cmp}
use Rattle.trie_core.specs.Count.{nodes}
use Rattle.prefix_trie.proofs.Spares.{spares_len}
use Rattle.prefix_trie.proofs.map.PrefixMap.node_count.Goals as goal

pub returns-clause-all : goal.returns-clause-all
returns-clause-all g c = omega (arith, c.self.invariant.nodes_counted, spares_len c.self.inside.root c.self.invariant.idle, ap (λ m. nodes m.entries + len m.spares) c.self.view_is)

pub returns-clause-tidy : goal.returns-clause-tidy
returns-clause-tidy g c = λ z. omega (arith, returns-clause-all g c, ap len z, len-empty bits_cmp (Unit {0}))
