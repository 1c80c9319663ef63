-- A write at a key that is there leaves the nodes that the map needs.
use Rattle.std.proofs.Common.{◌≡◌, ◌+◌, Bool, cond, List, [], ◌∷◌, ◌++◌, refl, sym, ap, subst, ◌∙◌, T, Some, IsSome, Ordering, Less, Equal, Greater, is_eq}
use Rattle.std.specs.FinMap.{find, get, insert, put, entries, is_sorted, entries_sorted, get-entries, from_entries, len, entries-insert}
use Rattle.std.specs.FinMap.Entries.{by_order}
use Rattle.ipnet_addr.proofs.Basics.{none_some}
use Rattle.ipnet_blocks.specs.BitStrings.{bits_cmp}
use Rattle.trie_core.specs.Nodes.{BitMap}
use Rattle.trie_core.specs.Count.{fives, fives_of, begun, nodes}
use Rattle.trie_core.proofs.Strings.{bits_total}
use Rattle.trie_core.proofs.Maps.{tail_rises, find_before}
use Rattle.trie_core.proofs.Order.{starts_above}

module _ {X : Type 0} where
  written_by : (q : List Bool) (v : X) (e : List Bool × X) (es : List (List Bool × X)) → T (is_sorted bits_cmp (e ∷ es)) → (IsSome (find bits_cmp q es) → fives_of (put bits_cmp q v es) ≡ fives_of es)
      → (r : Ordering) → bits_cmp q e.0 ≡ r → IsSome (cond (is_eq r) (Some e.1) (find bits_cmp q es)) → fives_of (by_order r ((q, v) ∷ e ∷ es) ((e.0, v) ∷ es) (e ∷ put bits_cmp q v es)) ≡ fives e.0 ++ fives_of es
  written_by q v e es s i Less r h = absurd (none_some (ap (λ o. cond (is_eq o) (Some e.1) (find bits_cmp q es)) (sym r) ∙ find_before q (e ∷ es) (starts_above q (e ∷ es) r s)) h)
  written_by q v e es s i Equal r h = refl
  written_by q v e es s i Greater r h = ap (λ fs. fives e.0 ++ fs) (i h)

  written : (q : List Bool) (v : X) (es : List (List Bool × X)) → T (is_sorted bits_cmp es) → IsSome (find bits_cmp q es) → fives_of (put bits_cmp q v es) ≡ fives_of es
  written q v [] s h = cc
  written q v (e ∷ es) s h = written_by q v e es s (written q v es (tail_rises e es s).0) (bits_cmp q e.0) refl h

  pub nodes_kept : (m : BitMap X) (q : List Bool) (v : X) → IsSome (get m q) → nodes (insert m q v) ≡ nodes m
  unfolding begun
  nodes_kept m q v h =
      ap (λ es. len (from_entries {R = bits_cmp} (fives_of es)) + 1) (entries-insert bits_total m q v)
      ∙ ap (λ fs. len (from_entries {R = bits_cmp} fs) + 1) (written q v (entries m) (entries_sorted m) (subst (λ o. IsSome o) (get-entries m q) h))
