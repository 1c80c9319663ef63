use Rattle.std.proofs.Common.{◌∙◌, ap, true, ◌&&◌}
use Rattle.std.specs.FinMap.{entries}
use Rattle.std.specs.FinMap.Entries.{where_key}
use Rattle.trie_core.specs.Bits.{is_from}
use Rattle.ipnet_blocks.specs.BitStrings.{bits_cmp, begins}
use Rattle.prefix_trie.specs.Maps.{first_key}
use Rattle.prefix_trie.proofs.Within.{begins_itself, all_inside}
use Rattle.prefix_trie.proofs.map.PrefixMap.children_mut.Goals as goal

pub key_within-next-requires-clause-begun : goal.key_within-next-requires-clause-begun
key_within-next-requires-clause-begun g c = (λ i. begins (c.path_of-inside.ensures.value i) (c.path_of.ensures.value i)) ∙ begins_itself (g.P.Prefix.bits c.args.prefix.now)

pub returns-clause-first : goal.returns-clause-first
returns-clause-first g c =
    c.key_within-next.ensures.key ∙ (λ i. first_key (where_key bits_cmp (λ k. is_from (c.path_of.ensures.value i) true k && begins (c.path_of-inside.ensures.value i) k) (entries c.args.self.now.entries)))
    ∙ ap (λ p. first_key (where_key bits_cmp p (entries c.args.self.now.entries))) (all_inside (g.P.Prefix.bits c.args.prefix.now))
