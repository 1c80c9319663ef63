use Rattle.std.proofs.Common.{◌+◌, ◌∙◌, ap, sym, true, false, arith}
use Rattle.std.specs.FinMap.{len}
use Rattle.prefix_trie.proofs.Entries.{one_less, not_empty, keys_remove}
use Rattle.prefix_trie.proofs.Spares.{idle_kept, fewer_removed, spares_len}
use Rattle.trie_core.specs.Count.{nodes}
use Rattle.prefix_trie.proofs.map.PrefixMap.remove_keep_tree.Goals as goal

pub overflow_sub-self : goal.overflow_sub-self
overflow_sub-self g c =
    let n = not_empty c.self.inside.root.entries c.path_of.result c.remove_keep_tree-value.result c.remove_keep_tree-value.ensures.value (sym c.is_some.ensures ∙ c.if-is_some.true) in
    omega (arith, n, c.self.invariant.entries_counted)

pub invariant_of-self : goal.invariant_of-self
invariant_of-self g c =
    let n = one_less c.self.inside.root.entries c.path_of.result c.remove_keep_tree-value.result true c.remove_keep_tree-value.ensures.value (sym c.is_some.ensures ∙ c.if-is_some.true) in record {
      entries_counted = omega (arith, c.self.invariant.entries_counted, n, ap len c.remove_keep_tree-value.ensures.map);
      nodes_counted = omega (arith, c.self.invariant.nodes_counted, c.remove_keep_tree-value.ensures.count);
      levels = omega (arith, c.self.invariant.levels, c.remove_keep_tree-value.ensures.levels);
      keys = keys_remove g.P.R.Key.width c.self.inside.root.entries _ c.path_of.result c.self.invariant.keys c.path_of.ensures.width c.remove_keep_tree-value.ensures.map;
      idle = idle_kept c.path_of.result c.self.inside.root.entries c.self.inside.root.spares c.remove_keep_tree-value.new.self.entries c.remove_keep_tree-value.new.self.spares c.self.invariant.idle (fewer_removed c.self.inside.root.entries _ c.path_of.result c.remove_keep_tree-value.ensures.map) c.remove_keep_tree-value.ensures.spares;
    }

pub invariant_of-self-else-is_some : goal.invariant_of-self-else-is_some
invariant_of-self-else-is_some g c =
    let n = one_less c.self.inside.root.entries c.path_of.result c.remove_keep_tree-value.result false c.remove_keep_tree-value.ensures.value (sym c.is_some.ensures ∙ c.if-is_some.false) in record {
      entries_counted = omega (arith, c.self.invariant.entries_counted, n, ap len c.remove_keep_tree-value.ensures.map);
      nodes_counted = omega (arith, c.self.invariant.nodes_counted, c.remove_keep_tree-value.ensures.count);
      levels = omega (arith, c.self.invariant.levels, c.remove_keep_tree-value.ensures.levels);
      keys = keys_remove g.P.R.Key.width c.self.inside.root.entries _ c.path_of.result c.self.invariant.keys c.path_of.ensures.width c.remove_keep_tree-value.ensures.map;
      idle = idle_kept c.path_of.result c.self.inside.root.entries c.self.inside.root.spares c.remove_keep_tree-value.new.self.entries c.remove_keep_tree-value.new.self.spares c.self.invariant.idle (fewer_removed c.self.inside.root.entries _ c.path_of.result c.remove_keep_tree-value.ensures.map) c.remove_keep_tree-value.ensures.spares;
    }

pub returns-then-is_some-clause-count : goal.returns-then-is_some-clause-count
returns-then-is_some-clause-count g c = omega (arith, c.remove_keep_tree-value.ensures.count, spares_len c.self.inside.root c.self.invariant.idle, spares_len c.remove_keep_tree-value.new.self (invariant_of-self g c).idle, ap (λ m. nodes m.entries + len m.spares) c.self.view_is)

pub returns-else-is_some-clause-count : goal.returns-else-is_some-clause-count
returns-else-is_some-clause-count g c = omega (arith, c.remove_keep_tree-value.ensures.count, spares_len c.self.inside.root c.self.invariant.idle, spares_len c.remove_keep_tree-value.new.self (invariant_of-self-else-is_some g c).idle, ap (λ m. nodes m.entries + len m.spares) c.self.view_is)
