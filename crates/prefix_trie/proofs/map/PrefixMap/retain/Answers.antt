use Rattle.std.proofs.Common.{◌∙◌, ap, sym, subst, arith}
use Rattle.std.specs.FinMap.{len}
use Rattle.prefix_trie.specs.InnerRoots.{KeysUpTo}
use Rattle.prefix_trie.proofs.Spares.{idle_none}
use Rattle.prefix_trie.proofs.map.PrefixMap.retain.Goals as goal

pub invariant_of-self : goal.invariant_of-self
invariant_of-self g c = record {
  entries_counted = c.self.invariant.entries_counted ∙ ap len (sym c.take_spares.ensures.map);
  nodes_counted = omega (arith, c.self.invariant.nodes_counted, c.take_spares.ensures.count);
  levels = omega (arith, c.self.invariant.levels, c.take_spares.ensures.levels);
  keys = subst (KeysUpTo g.P.R.Key.width) (sym c.take_spares.ensures.map) c.self.invariant.keys;
  idle = idle_none c.take_spares.new.self.entries c.take_spares.new.self.spares c.take_spares.ensures.spares;
}
