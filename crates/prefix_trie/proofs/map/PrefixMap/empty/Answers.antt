use Rattle.std.proofs.Common.{◌∙◌, ap, sym, arith}
use Rattle.std.specs.FinMap.{len, len-empty}
use Rattle.ipnet_blocks.specs.BitStrings.{bits_cmp}
use Rattle.trie_core.proofs.Changes.{new_nodes}
use Rattle.prefix_trie.proofs.Entries.{keys_empty}
use Rattle.trie_core.proofs.Marks.{no_spares}
use Rattle.prefix_trie.proofs.Spares.{idle_none}
use Rattle.prefix_trie.proofs.map.PrefixMap.empty.Goals as goal

pub invariant_of-result : goal.invariant_of-result
invariant_of-result g c = record {
  entries_counted = sym (ap len c.new.ensures.map ∙ len-empty bits_cmp _);
  nodes_counted = sym (new_nodes c.new.result c.new.ensures.map (no_spares c.new.result c.new.ensures.spares));
  levels = omega (arith, c.new.ensures.levels);
  keys = keys_empty g.P.R.Key.width _ c.new.ensures.map;
  idle = idle_none c.new.result.entries c.new.result.spares c.new.ensures.spares;
}
