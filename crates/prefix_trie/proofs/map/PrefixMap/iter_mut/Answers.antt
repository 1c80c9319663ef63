use Rattle.std.proofs.Common.{◌∙◌, true, ap}
use Rattle.std.specs.FinMap.{entries}
use Rattle.std.specs.FinMap.Entries.{where_key}
use Rattle.trie_core.specs.Bits.{is_from}
use Rattle.ipnet_blocks.specs.BitStrings.{bits_cmp}
use Rattle.prefix_trie.specs.Maps.{first_key}
use Rattle.prefix_trie.proofs.Lent.{all_from}
use Rattle.prefix_trie.proofs.map.PrefixMap.iter_mut.Goals as goal

pub returns-clause-first : goal.returns-clause-first
returns-clause-first g c =
    c.key_from-next.ensures.key ∙ ap (λ s. first_key (where_key bits_cmp (is_from s true) (entries c.args.self.now.entries))) c.new.ensures ∙ ap first_key (all_from (entries c.args.self.now.entries))
