use Rattle.std.proofs.Common.{◌∙◌, sym, ap, arith}
use Rattle.std.specs.FinMap.{len, len-empty}
use Rattle.trie_core.proofs.Changes.{new_nodes}
use Rattle.prefix_trie.proofs.Entries.{keys_empty}
use Rattle.trie_core.proofs.Marks.{no_spares}
use Rattle.prefix_trie.proofs.Spares.{idle_none}
use Rattle.prefix_trie.proofs.map.PrefixMap.clear.Goals as goal

pub invariant_of-self : goal.invariant_of-self
invariant_of-self g c = record {
  entries_counted = sym (ap len c.clear.ensures.map ∙ len-empty _ _);
  nodes_counted = sym (new_nodes c.clear.new.self c.clear.ensures.map (no_spares c.clear.new.self c.clear.ensures.spares));
  levels = omega (arith, c.clear.ensures.levels);
  keys = keys_empty g.P.R.Key.width c.clear.new.self.entries c.clear.ensures.map;
  idle = idle_none c.clear.new.self.entries c.clear.new.self.spares c.clear.ensures.spares;
}
