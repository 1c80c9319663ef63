use Rattle.std.proofs.Common.{◌∙◌, sym, ap, subst, false, true, not, List, Bool, IsTrue, ◌↔◌, is_some, IsSome, arith}
use Rattle.trie_core.specs.Inside.{NothingInside}
use Rattle.prefix_trie.specs.Seen.{SeenMap}
use Rattle.std.specs.FinMap.{get, len}
use Rattle.prefix_trie.proofs.Entries.{one_more, keys_insert}
use Rattle.prefix_trie.proofs.Spares.{idle_off, off_stored}
use Rattle.trie_core.proofs.Ways.{off_none}
use Rattle.prefix_trie.proofs.map.PrefixMap.insert_is_leaf.Goals.{then-is_none, else-is_none}
use Rattle.prefix_trie.proofs.map.PrefixMap.insert_is_leaf.Goals as goal

pub invariant_of-self : goal.invariant_of-self
invariant_of-self g c =
    let n = one_more c.self.inside.root.entries c.path_of.result c.args.value c.in-Ok.old false c.in-Ok.ensures.old (c.is_none.ensures ∙ ap not c.if-is_none.true) in record {
      entries_counted = omega (arith, c.self.invariant.entries_counted, n, ap len c.in-Ok.ensures.map);
      nodes_counted = omega (arith, c.self.invariant.nodes_counted, c.in-Ok.ensures.count);
      levels = omega (arith, c.self.invariant.levels, c.in-Ok.ensures.levels, c.path_of.ensures.within);
      keys = keys_insert g.P.R.Key.width c.self.inside.root.entries _ c.path_of.result c.args.value c.self.invariant.keys c.path_of.ensures.width c.in-Ok.ensures.map;
      idle = idle_off c.self.inside.root.entries _ c.self.inside.root.spares _ c.path_of.result c.args.value c.self.invariant.idle c.in-Ok.ensures.map c.in-Ok.ensures.spares;
    }

pub invariant_of-self-else-is_none : goal.invariant_of-self-else-is_none
invariant_of-self-else-is_none g c =
    let n = one_more c.self.inside.root.entries c.path_of.result c.args.value c.in-Ok.old true c.in-Ok.ensures.old (c.is_none.ensures ∙ ap not c.if-is_none.false) in record {
      entries_counted = omega (arith, c.self.invariant.entries_counted, n, ap len c.in-Ok.ensures.map);
      nodes_counted = omega (arith, c.self.invariant.nodes_counted, c.in-Ok.ensures.count);
      levels = omega (arith, c.self.invariant.levels, c.in-Ok.ensures.levels, c.path_of.ensures.within);
      keys = keys_insert g.P.R.Key.width c.self.inside.root.entries _ c.path_of.result c.args.value c.self.invariant.keys c.path_of.ensures.width c.in-Ok.ensures.map;
      idle = idle_off c.self.inside.root.entries _ c.self.inside.root.spares _ c.path_of.result c.args.value c.self.invariant.idle c.in-Ok.ensures.map c.in-Ok.ensures.spares;
    }

pub returns-in-Ok-clause-tidy : goal.returns-in-Ok-clause-tidy
returns-in-Ok-clause-tidy g c = λ z.
    let e = c.in-Ok.ensures.spares ∙ off_none c.self.inside.root.spares c.path_of.result (ap (λ m. m.spares) c.self.view_is ∙ z) in
    elim c.if-is_none.branch [
      | then-is_none w ↦ ap (λ m. m.spares) w.self-is ∙ e
      | else-is_none w ↦ ap (λ m. m.spares) w.self-is ∙ e
    ]

pub returns-in-Ok-clause-kept : goal.returns-in-Ok-clause-kept
returns-in-Ok-clause-kept g c = λ h.
    let stored : IsSome (get c.self.inside.root.entries c.path_of.result) = (λ i. is_some (get (c.self.view_is i).entries (c.path_of.ensures.value i))) ∙ h in
    let e = c.in-Ok.ensures.spares ∙ off_stored c.self.inside.root.entries c.self.inside.root.spares c.path_of.result c.self.invariant.idle stored ∙ ap (λ m. m.spares) c.self.view_is in
    elim c.if-is_none.branch [
      | then-is_none w ↦ ap (λ m. m.spares) w.self-is ∙ e
      | else-is_none w ↦ ap (λ m. m.spares) w.self-is ∙ e
    ]

pub returns-in-Ok-clause-leaf : goal.returns-in-Ok-clause-leaf
returns-in-Ok-clause-leaf g c =
    let e = subst (λ (q : List Bool). IsTrue c.in-Ok.is_leaf ↔ (NothingInside c.insert.new.self.entries q × NothingInside c.insert.new.self.spares q)) c.path_of.ensures.value c.in-Ok.ensures.leaf in
    elim c.if-is_none.branch [
      | then-is_none w ↦ subst (λ (m : SeenMap _). IsTrue c.in-Ok.is_leaf ↔ (NothingInside m.entries (g.P.Prefix.bits c.args.prefix) × NothingInside m.spares (g.P.Prefix.bits c.args.prefix))) (sym w.self-is) e
      | else-is_none w ↦ subst (λ (m : SeenMap _). IsTrue c.in-Ok.is_leaf ↔ (NothingInside m.entries (g.P.Prefix.bits c.args.prefix) × NothingInside m.spares (g.P.Prefix.bits c.args.prefix))) (sym w.self-is) e
    ]
