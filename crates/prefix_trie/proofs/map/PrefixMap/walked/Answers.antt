use Rattle.std.proofs.Common.{arith}
use Rattle.std.specs.FinMap.{entries}
use Rattle.prefix_trie.proofs.KeyLengths.{keys_listed, keys_more}
use Rattle.prefix_trie.proofs.map.PrefixMap.walked.Goals as goal

pub returns-clause-keys : goal.returns-clause-keys
returns-clause-keys g c = keys_listed g.P.R.Key.width c.self.inside.root.entries c.self.invariant.keys

pub returns-clause-within : goal.returns-clause-within
returns-clause-within g c = keys_more g.P.R.Key.width 128 (entries c.self.inside.root.entries) (omega (arith, c.width-width.ensures.value, c.width-width.ensures.within)) (keys_listed g.P.R.Key.width c.self.inside.root.entries c.self.invariant.keys)
