use Rattle.std.proofs.Common.{◌+◌, ◌∙◌, sym, ap, subst, IsSome}
use Rattle.std.specs.FinMap.{get}
use Rattle.trie_core.specs.InnerCount.{spare_count}
use Rattle.trie_core.proofs.Kept.{nodes_kept}
use Rattle.prefix_trie.proofs.Entries.{len_kept, keys_kept}
use Rattle.prefix_trie.proofs.Spares.{idle_with}
use Rattle.prefix_trie.proofs.map.PrefixMap.value_mut.Goals as goal

pub invariant_of-self-lent : goal.invariant_of-self-lent
invariant_of-self-lent g c = λ w.
    let stored : IsSome (get c.self.inside.root.entries c.args.path.now) = subst (λ m. IsSome (get m.entries c.args.path.now)) (sym c.self.view_is) c.requires.stored in record {
      entries_counted = c.self.invariant.entries_counted ∙ sym (len_kept c.self.inside.root.entries c.args.path.now w stored);
      nodes_counted = c.self.invariant.nodes_counted ∙ ap (λ n. n + spare_count c.self.inside.root) (sym (nodes_kept c.self.inside.root.entries c.args.path.now w stored));
      levels = c.self.invariant.levels;
      keys = keys_kept g.P.R.Key.width c.self.inside.root.entries c.args.path.now w c.self.invariant.keys stored;
      idle = idle_with c.self.inside.root.entries c.self.inside.root.spares c.args.path.now w c.self.invariant.idle stored;
    }
