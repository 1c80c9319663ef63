-- The beginnings of a string at which nodes stand, which a search for it enters.
use Rattle.std.proofs.Common.{◌≡◌, ℕ, zero, suc, ◌+◌, ◌*◌, ◌/◌, ◌<◌, ◌≤◌, Bool, true, false, cond, ◌&&◌, ◌||◌, List, [], ◌∷◌, ◌++◌, length, take, drop, refl, sym, ap, ◌∙◌, T, Some, None, is_some, is_eq, length-append, length-take, append-nil, take_at, take-take, arith}
use Rattle.std.specs.FinMap.{entries, find, get, empty, get-empty, get-entries, len, len-entries}
use Rattle.std.specs.FinMap.Entries.{below_all}
use Rattle.std.proofs.Math.Bool.{and-false, or-false}
use Rattle.ipnet_addr.proofs.Basics.{T-parts, less_from_T}
use Rattle.ipnet_blocks.specs.BitStrings.{bits_cmp}
use Rattle.trie_core.specs.Nodes.{BitMap, BitSet, Seen}
use Rattle.trie_core.specs.InnerNodes.{under, node_map, IsNode}
use Rattle.trie_core.specs.Count.{fives_from, fives, begun, found_in, visit_count, stands, standing_at, node_visits}
use Rattle.trie_core.specs.InnerCount.{spare_set}
use Rattle.trie_core.proofs.Strings.{same, same-Decides, not_same, same_false}
use Rattle.trie_core.proofs.Maps.{tail_rises, find-under, find-apart}
use Rattle.trie_core.proofs.Order.{StartsAfter, found_long, found_get, each_node}
use Rattle.trie_core.proofs.Count.{has, has-begun, some_cond, some_entry, fives_child, fives_short, begun_by_key, after_child, begun_value, begun_has}
use Rattle.trie_core.proofs.Marks.{root_if, marked_get, marked-other, marked-root, set-long, set-below}
use Rattle.std.proofs.lemmas.Bool.{false_from_ne_true}

below_none : {Y : Type 0} (b : List Bool) (es : List (List Bool × Y)) → T (below_all bits_cmp b es) → has b es ≡ false
below_none b [] h = refl
below_none b (e ∷ es) h =
    let p = T-parts _ _ h in
    some_cond (same b e.0) e.1 (find bits_cmp b es) ∙ (λ i. ap is_eq (less_from_T _ p.0) i || below_none b es p.1 i)

apart : (n m x k : List Bool) → length n ≡ 5 → length m ≡ 5 → same n m ≡ false → n ++ x ≡ m ++ k → ⊥
apart n m x k a b e p = not_same e (sym (take_at n x 5 a) ∙ ap (take 5) p ∙ take_at m k 5 b)

module _ {X : Type 0} where
  here : {vs : List (List Bool × X)} {cs : List (List Bool × Seen X)} {c : List Bool × Seen X} → IsNode vs (c ∷ cs) → StartsAfter c.0 vs → (x : List Bool)
      → has (c.0 ++ x) (entries (begun (node_map vs (c ∷ cs)))) ≡ ((some_entry (entries c.1.entries) && same (c.0 ++ x) c.0) || has x (entries (begun c.1.entries)))
  here {vs} {cs} {c} n h x =
      begun_has n h (c.0 ++ x)
      ∙ (λ i. ((some_entry (entries c.1.entries) && same (c.0 ++ x) c.0) || ap is_some (find-under c.0 x (entries (begun c.1.entries))) i) || below_none (c.0 ++ x) (entries (begun (node_map vs cs))) (after_child n (tail_rises c cs n.children_rise).1 x) i)
      ∙ or-false _

  elsewhere : {vs : List (List Bool × X)} {cs : List (List Bool × Seen X)} {c : List Bool × Seen X} (m : List Bool) → IsNode vs (c ∷ cs) → StartsAfter c.0 vs → length m ≡ 5 → same m c.0 ≡ false → (x : List Bool)
      → has (m ++ x) (entries (begun (node_map vs (c ∷ cs)))) ≡ has (m ++ x) (entries (begun (node_map vs cs)))
  elsewhere {vs} {cs} {c} m n h a e x =
      let f : same (m ++ x) c.0 ≡ false = same_false (m ++ x) c.0 (λ p. apart m c.0 x [] a n.children_long.0 e (p ∙ sym (append-nil c.0))) in
      let g : has (m ++ x) (under c.0 (entries (begun c.1.entries))) ≡ false = ap is_some (find-apart c.0 (m ++ x) (λ k p. apart m c.0 x k a n.children_long.0 e p) (entries (begun c.1.entries))) in
      begun_has n h (m ++ x) ∙ (λ i. ((some_entry (entries c.1.entries) && f i) || g i) || has (m ++ x) (entries (begun (node_map vs cs)))) ∙ ap (λ t. (t || false) || has (m ++ x) (entries (begun (node_map vs cs)))) (and-false (some_entry (entries c.1.entries)))

  abbrev Begun : List (List Bool × X) → List (List Bool × Seen X) → List Bool → Seen X → List Bool → Type 0
  Begun vs cs m w x = has (m ++ x) (entries (begun (node_map vs cs))) ≡ ((some_entry (entries w.entries) && same (m ++ x) m) || has x (entries (begun w.entries)))

  begun_under : {vs : List (List Bool × X)} {cs : List (List Bool × Seen X)} {c : List Bool × Seen X} (m : List Bool) (w : Seen X) (x : List Bool) → IsNode vs (c ∷ cs) → StartsAfter c.0 vs → length m ≡ 5
      → (find bits_cmp m cs ≡ Some w → Begun vs cs m w x) → (b : Bool) → same m c.0 ≡ b → cond b (Some c.1) (find bits_cmp m cs) ≡ Some w → Begun vs (c ∷ cs) m w x
  begun_under {vs} {cs} {c} m w x n h a r true e f =
      let u : c.1 ≡ w = cc in
      let z : m ≡ c.0 = (same-Decides m c.0).0 e in
      ap (λ k. has (k ++ x) (entries (begun (node_map vs (c ∷ cs))))) z
      ∙ here n h x
      ∙ (λ i. (some_entry (entries (u i).entries) && same (sym z i ++ x) (sym z i)) || has x (entries (begun (u i).entries)))
  begun_under {vs} {cs} {c} m w x n h a r false e f = elsewhere m n h a e x ∙ r f

  begun_by : (vs : List (List Bool × X)) (cs : List (List Bool × Seen X)) (m : List Bool) (w : Seen X) (x : List Bool) → IsNode vs cs → length m ≡ 5 → find bits_cmp m cs ≡ Some w → Begun vs cs m w x
  begun_by vs cs m w x n a = each_node (λ vs cs. find bits_cmp m cs ≡ Some w → Begun vs cs m w x) (λ f. cc) (λ e vs cs n h r f. ap (λ k. has (m ++ x) (entries k)) (begun_value n h) ∙ r f)
      (λ vs c cs n h r f. begun_under m w x n h a r (same m c.0) refl f) vs cs n

abbrev counted : Bool → ℕ
counted b = cond b 1 0

module _ {X : Type 0} where
  standing_fives : (i n : ℕ) (b k : List Bool) (m : BitMap X) (s : BitSet) (w : Seen X) → 5 * i + 5 * n ≤ length k → ((x : List Bool) → 5 ≤ length x → stands m s (b ++ x) ≡ stands w.entries w.spares x) → standing_at m s (under b (fives_from i n k)) ≡ standing_at w.entries w.spares (fives_from i n k)
  standing_fives i zero b k m s w h f = refl
  standing_fives i (suc n) b k m s w h f = λ j. cond (f (take (5 * i + 5) k) (omega (arith, length-take (5 * i + 5) k, h)) j) 1 0 + standing_fives (suc i) n b k m s w (omega (arith, h)) f j

  standing_none : (i n : ℕ) (q : List Bool) (m : BitMap X) (s : BitSet) → 5 * i + 5 * n ≤ length q → ((x : List Bool) → 5 ≤ length x → take 5 x ≡ take 5 q → stands m s x ≡ false) → standing_at m s (fives_from i n q) ≡ 0
  standing_none i zero q m s h f = refl
  standing_none i (suc n) q m s h f =
      let e = f (take (5 * i + 5) q) (omega (arith, length-take (5 * i + 5) q, h)) (take-take 5 (5 * i + 5) q (omega arith)) in
      let c : counted (stands m s (take (5 * i + 5) q)) ≡ 0 = ap counted e in
      omega (arith, c, standing_none (suc i) n q m s (omega (arith, h)) f)

  none_begun : {vs : List (List Bool × X)} {cs : List (List Bool × Seen X)} (q x : List Bool) → IsNode vs cs → find bits_cmp (take 5 q) cs ≡ None → 5 ≤ length x → take 5 x ≡ take 5 q → is_some (get (begun (node_map vs cs)) x) ≡ false
  none_begun {vs} {cs} q x n f h t = false_from_ne_true _ (λ e.
      let m = node_map vs cs in
      let b = begun_by_key x (entries m) (sym (has-begun m x) ∙ sym (ap is_some (get-entries (begun m) x)) ∙ e) in
      let k : 5 ≤ length b.key = omega (arith, ap length b.first, length-take 5 x, length-take 5 b.key, h) in
      let l = found_long n b.key k (found_get m b.key b.found) in
      let z : false ≡ true = sym (ap is_some f) ∙ ap (λ i. is_some (find bits_cmp i cs)) (sym t ∙ b.first) ∙ l in
      cc)

  -- no node stands where there is no child
  stands_none : {vs : List (List Bool × X)} {cs : List (List Bool × Seen X)} (q x : List Bool) → IsNode vs cs → find bits_cmp (take 5 q) cs ≡ None → 5 ≤ length x → take 5 x ≡ take 5 q → stands (node_map vs cs) (spare_set cs) x ≡ false
  stands_none {vs} {cs} q x n f d t =
      let spare : get (spare_set cs) x ≡ None = set-long n x d ∙ (λ i. marked_get (find bits_cmp (t i) cs) (drop 5 x)) ∙ ap (λ o. marked_get o (drop 5 x)) f in
      λ i. none_begun q x n f d t i || is_some (spare i)

  -- no child on the way: the node alone
  pub visits_none : {vs : List (List Bool × X)} {cs : List (List Bool × Seen X)} (q : List Bool) → IsNode vs cs → find bits_cmp (take 5 q) cs ≡ None → node_visits (node_map vs cs) (spare_set cs) q ≡ 1
  unfolding node_visits
  visits_none {vs} {cs} q n f = ap (λ k. k + 1) (standing_none 0 (length q / 5) q (node_map vs cs) (spare_set cs) (omega arith) (λ x d t. stands_none q x n f d t))

  begun_below : {vs : List (List Bool × X)} {cs : List (List Bool × Seen X)} {w : Seen X} (b x : List Bool) → IsNode vs cs → length b ≡ 5 → find bits_cmp b cs ≡ Some w
      → is_some (get (begun (node_map vs cs)) (b ++ x)) ≡ ((some_entry (entries w.entries) && same (b ++ x) b) || is_some (get (begun w.entries) x))
  begun_below {vs} {cs} {w} b x n a f =
      ap is_some (get-entries (begun (node_map vs cs)) (b ++ x)) ∙ begun_by vs cs b w x n a f
      ∙ (λ i. (some_entry (entries w.entries) && same (b ++ x) b) || is_some (sym (get-entries (begun w.entries) x) i))

  -- below the child, where one stands below it
  stands_below : {vs : List (List Bool × X)} {cs : List (List Bool × Seen X)} {w : Seen X} (b x : List Bool) → IsNode vs cs → length b ≡ 5 → find bits_cmp b cs ≡ Some w → 5 ≤ length x → stands (node_map vs cs) (spare_set cs) (b ++ x) ≡ stands w.entries w.spares x
  stands_below b [] n a f l = absurd (omega arith)
  stands_below {w = w} b (y ∷ ys) n a f l =
      let x = y ∷ ys in
      let o : same (b ++ x) b ≡ false = same_false (b ++ x) b (λ e. omega (arith, ap length e, length-append b x, l)) in
      let e = ap (λ t. (some_entry (entries w.entries) && t) || is_some (get (begun w.entries) x)) o ∙ ap (λ t. t || is_some (get (begun w.entries) x)) (and-false (some_entry (entries w.entries))) in
      λ i. (begun_below b x n a f ∙ e) i || is_some ((set-below n b x a ∙ ap (λ o. marked_get o x) f ∙ marked-other w y ys) i)

  some_or_none : (es : List (List Bool × X)) (n : ℕ) (z : Bool) → n ≡ length es → (((some_entry es && true) || z) || is_some (root_if n)) ≡ true
  some_or_none [] zero true e = refl
  some_or_none [] zero false e = refl
  some_or_none [] (suc n) z e = absurd (omega arith)
  some_or_none (o ∷ es) n z e = refl

  -- the child itself, needed or spare
  stands_child : {vs : List (List Bool × X)} {cs : List (List Bool × Seen X)} {w : Seen X} (b : List Bool) → IsNode vs cs → length b ≡ 5 → find bits_cmp b cs ≡ Some w → stands (node_map vs cs) (spare_set cs) b ≡ true
  stands_child {vs} {cs} {w} b n a f =
      let z = is_some (get (begun w.entries) []) in
      ap (stands (node_map vs cs) (spare_set cs)) (sym (append-nil b))
      ∙ (λ i. begun_below b [] n a f i || is_some ((set-below n b [] a ∙ ap (λ o. marked_get o []) f ∙ marked-root w) i))
      ∙ ap (λ t. ((some_entry (entries w.entries) && t) || z) || is_some (root_if (len w.entries))) ((same-Decides (b ++ []) b).1 (append-nil b))
      ∙ some_or_none (entries w.entries) (len w.entries) z (len-entries w.entries)

  -- a child on the way: the node, and what is visited from the child on
  pub visits_some : {vs : List (List Bool × X)} {cs : List (List Bool × Seen X)} {w : Seen X} (b r : List Bool) → IsNode vs cs → length b ≡ 5 → find bits_cmp b cs ≡ Some w → node_visits (node_map vs cs) (spare_set cs) (b ++ r) ≡ node_visits w.entries w.spares r + 1
  unfolding node_visits
  visits_some {vs} {cs} {w} b r n a f =
      let m = node_map vs cs in
      let s = spare_set cs in
      let first : counted (stands m s b) ≡ 1 = ap counted (stands_child b n a f) in
      omega (arith, ap (standing_at m s) (fives_child b r a), first, standing_fives 0 (length r / 5) b r m s w (omega arith) (λ x l. stands_below b x n a f l))

  -- a string that ends in the node
  pub visits_short : (m : BitMap X) (b : BitSet) (q : List Bool) → length q < 5 → node_visits m b q ≡ 1
  unfolding node_visits
  visits_short m b q h = ap (λ es. standing_at m b es + 1) (fives_short q h)

  standing_tidy : (m : BitMap X) {b : BitSet} (es : List (List Bool × Unit {0})) → b ≡ empty → standing_at m b es ≡ found_in (begun m) es
  standing_tidy m [] e = refl
  standing_tidy m {b} (k ∷ es) e =
      let none : stands m b k.0 ≡ is_some (get (begun m) k.0) = (λ i. is_some (get (begun m) k.0) || is_some ((ap (λ b. get b k.0) e ∙ get-empty bits_cmp k.0) i)) ∙ or-false _ in
      λ i. cond (none i) 1 0 + standing_tidy m es e i

  -- where no spare node stands, the map alone says it
  pub visits_some_node : (m : BitMap X) (b : BitSet) (q : List Bool) → 0 < node_visits m b q
  unfolding node_visits
  visits_some_node m b q = omega arith

  pub visits_tidy : (m : BitMap X) {b : BitSet} (q : List Bool) → b ≡ empty → node_visits m b q ≡ visit_count m q
  unfolding node_visits
  visits_tidy m q e = ap (λ n. n + 1) (standing_tidy m (fives q) e)
