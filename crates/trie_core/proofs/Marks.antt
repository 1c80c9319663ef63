-- The set of spare nodes of a node, by its children.
use Rattle.std.proofs.Common.{◌≡◌, ℕ, zero, suc, ◌+◌, ◌≤◌, ◌<◌, Bool, cond, List, [], ◌∷◌, length, take, drop, refl, sym, ap, ◌∙◌, ◌++◌, T, Option, Some, None, is_some, take_at, drop_at, length-append, arith}
use Rattle.std.specs.FinMap.{find, get, remove, len, empty, is_sorted, get-empty, get-insert, get-remove, len-insert, len-empty, same_map}
use Rattle.std.specs.FinMap.Entries.{below_all}
use Rattle.ipnet_addr.proofs.Basics.{T-and, T-parts}
use Rattle.ipnet_blocks.specs.BitStrings.{bits_cmp}
use Rattle.trie_core.proofs.Strings.{bits_total, bits_same, same, same-refl}
use Rattle.trie_core.specs.Nodes.{BitSet, Seen}
use Rattle.trie_core.specs.InnerNodes.{AreLong, IsNode}
use Rattle.trie_core.specs.InnerCount.{spare_count, spare_if, spare_of, spares_below, marked_if, marked, marks, spare_set, total, entry_count}
use Rattle.trie_core.proofs.Count.{things, entries_of_node}
use Rattle.trie_core.proofs.Maps.{ListChanges, child_get, get_none, get-short, get-long, remove_absent, child_changes}

-- the empty string is not in a set that it was taken from
root_taken : (b : BitSet) → get (remove b []) [] ≡ None
root_taken b = get-remove bits_total b [] [] ∙ ap (λ s. cond s None (get b [])) (same-refl [])

len_marked_if : (n : ℕ) (b : BitSet) → get b [] ≡ None → len (marked_if n b) ≡ spare_if n + len b
len_marked_if zero b h = omega (arith, len-insert bits_total b [] tt, ap (λ o. cond (is_some o) (len b) (len b + 1)) h)
len_marked_if (suc n) b h = omega arith

-- a node with no spare string has no spare node
pub no_spares : {X : Type 0} (s : Seen X) → s.spares ≡ empty → spare_count s ≡ 0
no_spares s e = ap (λ b. len (remove b [])) e ∙ ap len (remove_absent empty [] (get-empty bits_cmp [])) ∙ len-empty bits_cmp (Unit {0})

-- of a set that may have the empty string, all others
marked_if_other : (n : ℕ) (b : BitSet) (y : Bool) (ys : List Bool) → get (marked_if n (remove b [])) (y ∷ ys) ≡ get b (y ∷ ys)
marked_if_other zero b y ys = get-insert bits_total (remove b []) [] tt (y ∷ ys) ∙ get-remove bits_total b [] (y ∷ ys)
marked_if_other (suc n) b y ys = get-remove bits_total b [] (y ∷ ys)

-- whether there is none
abbrev pub root_if : ℕ → Option (Unit {0})
root_if zero = Some tt
root_if (suc n) = None

marked_if_root : (n : ℕ) (b : BitSet) → get (marked_if n (remove b [])) [] ≡ root_if n
marked_if_root zero b = get-insert bits_total (remove b []) [] tt []
marked_if_root (suc n) b = root_taken b

module _ {X : Type 0} where
  pub marked-other : (c : Seen X) (y : Bool) (ys : List Bool) → get (marked c) (y ∷ ys) ≡ get c.spares (y ∷ ys)
  marked-other c y ys = marked_if_other (len c.entries) c.spares y ys

  pub marked-root : (c : Seen X) → get (marked c) [] ≡ root_if (len c.entries)
  marked-root c = marked_if_root (len c.entries) c.spares

  len_marked : (c : Seen X) → len (marked c) ≡ spare_of c
  len_marked c = len_marked_if (len c.entries) (remove c.spares []) (root_taken c.spares)

  marks_above : (b : List Bool) (cs : List (List Bool × Seen X)) → T (below_all bits_cmp b cs) → T (below_all bits_cmp b (marks cs))
  marks_above b [] h = tt
  marks_above b (c ∷ cs) h = let p = T-parts _ _ h in T-and _ _ p.0 (marks_above b cs p.1)

  marks_rise : (cs : List (List Bool × Seen X)) → T (is_sorted bits_cmp cs) → T (is_sorted bits_cmp (marks cs))
  marks_rise [] h = tt
  marks_rise (c ∷ cs) h = let p = T-parts _ _ h in T-and _ _ (marks_above c.0 cs p.0) (marks_rise cs p.1)

  marks_long : (cs : List (List Bool × Seen X)) → AreLong cs → AreLong (marks cs)
  marks_long [] h = tt
  marks_long (c ∷ cs) h = (h.0, marks_long cs h.1)

  marks_node : {vs : List (List Bool × X)} {cs : List (List Bool × Seen X)} → IsNode vs cs → IsNode [] (marks cs)
  marks_node {vs} {cs} n = record { values_rise = tt; values_short = tt; children_rise = marks_rise cs n.children_rise; children_long = marks_long cs n.children_long }

  total_marks : (cs : List (List Bool × Seen X)) → total entry_count (things (marks cs)) ≡ spares_below (things cs)
  total_marks [] = refl
  total_marks (c ∷ cs) = omega (arith, len_marked c.1, total_marks cs)

  -- what the set of a child that may be there has
  abbrev pub marked_get : Option (Seen X) → List Bool → Option (Unit {0})
  marked_get None r = None
  marked_get (Some c) r = get (marked c) r

  found_marks : (q : List Bool) (cs : List (List Bool × Seen X)) (r : List Bool) → child_get (find bits_cmp q (marks cs)) r ≡ marked_get (find bits_cmp q cs) r
  found_marks q [] r = get_none r
  found_marks q (c ∷ cs) r = grind (arith, found_marks q cs r)

  -- ---- the set of a node

  pub set-short : {vs : List (List Bool × X)} {cs : List (List Bool × Seen X)} → IsNode vs cs → (q : List Bool) → length q < 5 → get (spare_set cs) q ≡ None
  unfolding spare_set
  set-short n q h = get-short (marks_node n) q h

  pub set-long : {vs : List (List Bool × X)} {cs : List (List Bool × Seen X)} → IsNode vs cs → (q : List Bool) → 5 ≤ length q → get (spare_set cs) q ≡ marked_get (find bits_cmp (take 5 q) cs) (drop 5 q)
  unfolding spare_set
  set-long {vs} {cs} n q h = get-long (marks_node n) q h ∙ found_marks (take 5 q) cs (drop 5 q)

  pub set-below : {vs : List (List Bool × X)} {cs : List (List Bool × Seen X)} → IsNode vs cs → (b r : List Bool) → length b ≡ 5 → get (spare_set cs) (b ++ r) ≡ marked_get (find bits_cmp b cs) r
  set-below {cs = cs} n b r l = set-long n (b ++ r) (omega (arith, length-append b r)) ∙ (λ i. marked_get (find bits_cmp (take_at b r 5 l i) cs) (drop_at b r 5 l i))

  -- it has no empty string, and as many strings as there are spare nodes below
  pub set-root : {vs : List (List Bool × X)} {cs : List (List Bool × Seen X)} → IsNode vs cs → remove (spare_set cs) [] ≡ spare_set cs
  set-root {cs = cs} n = remove_absent (spare_set cs) [] (set-short n [] (omega arith))

  set_len : {vs : List (List Bool × X)} {cs : List (List Bool × Seen X)} → IsNode vs cs → len (spare_set cs) ≡ spares_below (things cs)
  unfolding spare_set
  set_len {vs} {cs} n = omega (arith, entries_of_node (marks_node n), total_marks cs)

  pub set-len : {vs : List (List Bool × X)} {cs : List (List Bool × Seen X)} → IsNode vs cs → len (remove (spare_set cs) []) ≡ spares_below (things cs)
  set-len n = ap len (set-root n) ∙ set_len n

  -- ---- the child on the way to q changes, and is o then

  pub set-changed : {vs : List (List Bool × X)} (cs : List (List Bool × Seen X)) {ds : List (List Bool × Seen X)} (q : List Bool) (o : Option (Seen X)) → IsNode vs ds → ListChanges cs (take 5 q) o ds → (x : List Bool) → 5 ≤ length x
      → get (spare_set ds) x ≡ marked_get (cond (same (take 5 x) (take 5 q)) o (find bits_cmp (take 5 x) cs)) (drop 5 x)
  set-changed cs q o k f x h = set-long k x h ∙ ap (λ c. marked_get c (drop 5 x)) (f (take 5 x))

  -- the set stays, where that of the child does
  pub set-same : {vs us : List (List Bool × X)} {cs ds : List (List Bool × Seen X)} (q : List Bool) (o : Option (Seen X)) → IsNode vs cs → IsNode us ds → 5 ≤ length q → ListChanges cs (take 5 q) o ds → ((r : List Bool) → marked_get o r ≡ marked_get (find bits_cmp (take 5 q) cs) r)
      → spare_set ds ≡ spare_set cs
  set-same {cs = cs} {ds = ds} q o n k h f g = same_map bits_total bits_same _ _ (child_changes marked_get (λ x p. p) cs ds q o (get (spare_set cs)) (get (spare_set ds)) (set-long n) (set-long k) h f (λ x l. set-short k x l ∙ sym (set-short n x l)) g (λ x p l e. refl))
