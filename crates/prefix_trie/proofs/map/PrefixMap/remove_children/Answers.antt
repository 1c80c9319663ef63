use Rattle.std.proofs.Common.{◌≡◌, ◌+◌, ◌∙◌, length, sym, ap, arith}
use Rattle.std.specs.FinMap.{len, len-empty}
use Rattle.std.proofs.lemmas.List.{nil_from_length}
use Rattle.trie_core.specs.Count.{nodes}
use Rattle.trie_core.specs.Inside.{outside}
use Rattle.trie_core.proofs.Inside.{outside_all}
use Rattle.trie_core.proofs.Left.{cut_short}
use Rattle.trie_core.proofs.Count.{nodes_empty}
use Rattle.prefix_trie.proofs.Entries.{keys_outside, outside_none}
use Rattle.ipnet_blocks.specs.BitStrings.{bits_cmp, begins}
use Rattle.prefix_trie.proofs.Spares.{idle_none, idle_left, fewer_outside, spares_len, tidy_left}
use Rattle.prefix_trie.proofs.map.PrefixMap.remove_children.Goals as goal

pub returns-then-prefix_len-eq0-clause-map : goal.returns-then-prefix_len-eq0-clause-map
returns-then-prefix_len-eq0-clause-map g c = c.clear.ensures.map ∙ outside_none c.args.self.now.entries (g.P.Prefix.bits c.args.prefix.now) (omega (arith, c.prefix_len.ensures, c.if-prefix_len-eq0.true))

pub returns-then-prefix_len-eq0-clause-count : goal.returns-then-prefix_len-eq0-clause-count
returns-then-prefix_len-eq0-clause-count g c = omega (arith, ap nodes c.clear.ensures.map, nodes_empty g.row.T.Denot, ap len c.clear.ensures.tidy, len-empty bits_cmp (Unit {0}))

pub returns-then-prefix_len-eq0-clause-spares : goal.returns-then-prefix_len-eq0-clause-spares
returns-then-prefix_len-eq0-clause-spares g c =
    let z : length (g.P.Prefix.bits c.args.prefix.now) ≡ 0 = omega (arith, c.prefix_len.ensures, c.if-prefix_len-eq0.true) in
    cut_short (g.P.Prefix.bits c.args.prefix.now) c.args.self.now.spares c.clear.new.self.entries c.clear.new.self.spares (omega (arith, z)) (c.clear.ensures.tidy ∙ sym (ap (outside c.args.self.now.spares) (nil_from_length (g.P.Prefix.bits c.args.prefix.now) z) ∙ outside_all c.args.self.now.spares)) (λ s h. (idle_none c.clear.new.self.entries c.clear.new.self.spares c.clear.ensures.tidy s h).below)

pub returns-clause-tidy : goal.returns-clause-tidy
returns-clause-tidy g c = λ z. tidy_left (begins c.path_of.result) c.path_of.result c.self.inside.root.spares c.remove_children-entries.new.self.entries c.remove_children-entries.new.self.spares c.remove_children-entries.ensures.spares (ap (λ m. m.spares) c.self.view_is ∙ z)

pub invariant_of-self : goal.invariant_of-self
invariant_of-self g c =
    let e = c.remove_children-entries.ensures in record {
      entries_counted = omega (arith, c.self.invariant.entries_counted, e.entries);
      nodes_counted = omega (arith, c.self.invariant.nodes_counted, e.count);
      levels = omega (arith, c.self.invariant.levels, e.levels);
      keys = keys_outside g.P.R.Key.width c.self.inside.root.entries c.remove_children-entries.new.self.entries c.path_of.result c.self.invariant.keys e.map;
      idle = idle_left (begins c.path_of.result) c.path_of.result c.self.inside.root.entries c.self.inside.root.spares c.remove_children-entries.new.self.entries c.remove_children-entries.new.self.spares c.self.invariant.idle (fewer_outside c.self.inside.root.entries _ c.path_of.result e.map) e.spares;
    }

pub returns-clause-count : goal.returns-clause-count
returns-clause-count g c = omega (arith, c.remove_children-entries.ensures.count, spares_len c.self.inside.root c.self.invariant.idle, spares_len c.remove_children-entries.new.self (invariant_of-self g c).idle, ap (λ m. nodes m.entries + len m.spares) c.self.view_is)
