use Rattle.std.proofs.Common.{rules}
use Rattle.prefix_trie.proofs.map.PrefixMap.get_lpm_prefix.Goals as goal

pub returns-in-Some : goal.returns-in-Some
returns-in-Some g c = (c.in-Some.field-0-1.now, search rules)
