-- The nodes that a node's map needs are its own and those that its children's maps need.
use Rattle.std.proofs.Common.{◌≡◌, ℕ, zero, suc, ◌+◌, ◌*◌, ◌/◌, ◌<◌, ◌≤◌, Bool, true, false, cond, ◌||◌, ◌&&◌, List, [], ◌∷◌, ◌++◌, length, take, drop, refl, sym, ap, subst, ◌∙◌, inl, inr, T, Option, Some, None, is_some, Less, length-append, length-take, take-append-drop, append-nil, take_at, take-take, append_assoc, arith}
use Rattle.std.specs.FinMap.{entries, find, get, entries_sorted, get-entries, get-from_entries, from_entries, len, len-entries, len-empty, empty_of_len, empty}
use Rattle.std.specs.FinMap.Entries.{below_all, same_entries}
use Rattle.std.proofs.lemmas.Bool.{or_cases}
use Rattle.ipnet_addr.proofs.Basics.{T-and}
use Rattle.ipnet_blocks.specs.BitStrings.{bits_cmp}
use Rattle.trie_core.specs.Nodes.{BitMap, Seen}
use Rattle.trie_core.specs.InnerNodes.{under, node_map, IsNode}
use Rattle.trie_core.specs.Count.{fives_from, fives, fives_of, begun, nodes}
use Rattle.trie_core.specs.InnerCount.{nodes_if, spare_if, spare_count, spares_below, all_nodes, total, entry_count}
use Rattle.trie_core.proofs.Strings.{bits_total, bits_same, same, same-Decides, same-refl, front}
use Rattle.trie_core.proofs.Maps.{tail_rises, find-append_all, find-under, find-apart, node_map-none, get-short, get_none}
use Rattle.trie_core.proofs.Order.{StartsAfter, below_under, below_append, less_right, less_left, found_above, below_found, found_long, found_get, sorted_under, walk_value, walk_child, walk_none, without_child, each_node, later_found}
use Rattle.std.proofs.Math.Seq.{take-append-add}
use Rattle.std.proofs.Math.Bool.{or_assoc}

take_more : (b k : List Bool) (n : ℕ) → length b ≡ 5 → take (5 + n) (b ++ k) ≡ b ++ take n k
take_more b k n h = ap (λ m. take (m + n) (b ++ k)) (sym h) ∙ take-append-add b k n

fives_later : (i n : ℕ) (b k : List Bool) → length b ≡ 5 → fives_from (suc i) n (b ++ k) ≡ under b (fives_from i n k)
fives_later i zero b k h = refl
fives_later i (suc n) b k h =
    let z : 5 * suc i + 5 ≡ 5 + (5 * i + 5) = omega arith in
    λ j. ((ap (λ m. take m (b ++ k)) z ∙ take_more b k (5 * i + 5) h) j, tt) ∷ fives_later (suc i) n b k h j

pub fives_child : (b k : List Bool) → length b ≡ 5 → fives (b ++ k) ≡ (b, tt) ∷ under b (fives k)
fives_child b k h =
    let z : length (b ++ k) / 5 ≡ suc (length k / 5) = omega (arith, length-append b k, h) in
    ap (λ n. fives_from 0 n (b ++ k)) z ∙ (λ j. (take_at b k 5 h j, tt) ∷ fives_later 0 (length k / 5) b k h j)

pub fives_short : (q : List Bool) → length q < 5 → fives q ≡ []
fives_short q h = let z : length q / 5 ≡ 0 = omega arith in ap (λ n. fives_from 0 n q) z

pub under-append : {X : Type 0} (bs : List Bool) (es fs : List (List Bool × X)) → under bs (es ++ fs) ≡ under bs es ++ under bs fs
under-append bs [] fs = refl
under-append bs (e ∷ es) fs = ap (λ ws. (bs ++ e.0, e.1) ∷ ws) (under-append bs es fs)

-- ---- whether a string is in a list

abbrev pub has : {Y : Type 0} → List Bool → List (List Bool × Y) → Bool
has q es = is_some (find bits_cmp q es)

pub has-append : {Y : Type 0} (q : List Bool) (es fs : List (List Bool × Y)) → has q (es ++ fs) ≡ (has q es || has q fs)
has-append q es fs = grind (arith, find-append_all q es fs)

pub some_cond : {Y : Type 0} (b : Bool) (y : Y) (o : Option Y) → is_some (cond b (Some y) o) ≡ (b || is_some o)
some_cond b y o = grind arith

same_option : (o p : Option (Unit {0})) → is_some o ≡ is_some p → o ≡ p
same_option o p e = grind arith

or_twice : (s u v w : Bool) → (s || (u || (w && s || v))) ≡ (s || (u || v))
or_twice s u v w = grind arith

module _ {X : Type 0} where
  abbrev pub some_entry : List (List Bool × X) → Bool
  some_entry [] = false
  some_entry (e ∷ es) = true

  has_under : (b q : List Bool) (es : List (List Bool × X)) → length b ≡ 5 → has q (fives_of (under b es)) ≡ (some_entry es && same q b || has q (under b (fives_of es)))
  has_under b q [] h = refl
  has_under b q (e ∷ es) h =
      ap (has q) (ap (λ fs. fs ++ fives_of (under b es)) (fives_child b e.0 h))
      ∙ some_cond (same q b) tt (find bits_cmp q (under b (fives e.0) ++ fives_of (under b es)))
      ∙ ap (λ x. same q b || x) (has-append q (under b (fives e.0)) (fives_of (under b es)) ∙ ap (λ x. has q (under b (fives e.0)) || x) (has_under b q es h))
      ∙ or_twice (same q b) (has q (under b (fives e.0))) (has q (under b (fives_of es))) (some_entry es)
      ∙ ap (λ x. same q b || x) (sym (ap (has q) (under-append b (fives e.0) (fives_of es)) ∙ has-append q (under b (fives e.0)) (under b (fives_of es))))

  fives_of-append : (es fs : List (List Bool × X)) → fives_of (es ++ fs) ≡ fives_of es ++ fives_of fs
  fives_of-append [] fs = refl
  fives_of-append (e ∷ es) fs = ap (λ ws. fives e.0 ++ ws) (fives_of-append es fs) ∙ sym (append_assoc (fives e.0) (fives_of es) (fives_of fs))

  pub has-begun : (m : BitMap X) (q : List Bool) → has q (entries (begun m)) ≡ has q (fives_of (entries m))
  unfolding begun
  has-begun m q = ap is_some (sym (get-entries (begun m) q) ∙ get-from_entries bits_total (fives_of (entries m)) q)

fives_found : (i n : ℕ) (q k : List Bool) → 5 * i + 5 * n ≤ length k → has q (fives_from i n k) ≡ true → (take 5 q ≡ take 5 k) × (5 ≤ length q)
fives_found i zero q k h s = cc
fives_found i (suc n) q k h s = elim (or_cases (same q (take (5 * i + 5) k)) _ (sym (some_cond (same q (take (5 * i + 5) k)) tt (find bits_cmp q (fives_from (suc i) n k))) ∙ s)) [
  | inl e ↦
      let p : q ≡ take (5 * i + 5) k = (same-Decides q (take (5 * i + 5) k)).0 e in
      (ap (take 5) p ∙ take-take 5 (5 * i + 5) k (omega arith), omega (arith, ap length p, length-take (5 * i + 5) k, h))
  | inr t ↦ fives_found (suc i) n q k (omega (arith, h)) t
]

module _ {X : Type 0} where
  -- k is a key that begins with the first five bits of q
  pub record IsBegunBy (q : List Bool) (es : List (List Bool × X)) : Type 0 where
    pub key : List Bool
    pub found : has key es ≡ true
    pub first : take 5 q ≡ take 5 key
    pub long : 5 ≤ length q

  pub begun_by_key : (q : List Bool) (es : List (List Bool × X)) → has q (fives_of es) ≡ true → IsBegunBy q es
  begun_by_key q [] s = cc
  begun_by_key q (e ∷ es) s = elim (or_cases (has q (fives e.0)) (has q (fives_of es)) (sym (has-append q (fives e.0) (fives_of es)) ∙ s)) [
    | inl t ↦ let f = fives_found 0 (length e.0 / 5) q e.0 (omega arith) t in record { key = e.0; found = some_cond (same e.0 e.0) e.1 (find bits_cmp e.0 es) ∙ ap (λ b. b || has e.0 es) (same-refl e.0); first = f.0; long = f.1 }
    | inr t ↦ let b = begun_by_key q es t in record { key = b.key; found = later_found (same b.key e.0) e.1 (find bits_cmp b.key es) b.found; first = b.first; long = b.long }
  ]

  -- no beginning is empty
  not_none : (m : BitMap X) → T (below_all bits_cmp [] (entries (begun m)))
  not_none m = below_found [] (entries (begun m)) (λ q s. nonempty q (begun_by_key q (entries m) (sym (has-begun m q) ∙ s)).long)
    where
      nonempty : (q : List Bool) → 5 ≤ length q → bits_cmp [] q ≡ Less
      nonempty [] h = absurd (omega arith)
      nonempty (b ∷ q) h = refl

  -- the beginnings of the keys of what follows a child come after what is under it
  pub after_child : {vs : List (List Bool × X)} {cs : List (List Bool × Seen X)} {c : List Bool × Seen X} → IsNode vs (c ∷ cs) → T (below_all bits_cmp c.0 cs) → (x : List Bool) → T (below_all bits_cmp (c.0 ++ x) (entries (begun (node_map vs cs))))
  after_child {vs} {cs} {c} n a x = below_found (c.0 ++ x) (entries (begun (node_map vs cs))) (λ q s.
      let b = begun_by_key q (entries (node_map vs cs)) (sym (has-begun (node_map vs cs) q) ∙ s) in
      let w = front q b.long in
      let k : 5 ≤ length b.key = omega (arith, ap length b.first, length-take 5 q, length-take 5 b.key, b.long) in
      let f = found_above c.0 (take 5 b.key) cs a (found_long (without_child n) b.key k (found_get (node_map vs cs) b.key b.found)) in
      let l = ap (bits_cmp c.0) b.first ∙ f in
      ap (bits_cmp (c.0 ++ x)) (sym w.1) ∙ less_right (c.0 ++ x) (take 5 q) (drop 5 q) (less_left c.0 (take 5 q) x (omega (arith, n.children_long.0, w.0)) l))

has_under_by : {Y Z : Type 0} (b q : List Bool) (es : List (List Bool × Y)) (fs : List (List Bool × Z)) → length b ≡ 5 → ((x : List Bool) → has x es ≡ has x fs) → (d : Bool) → same (take 5 q) b ≡ d → has q (under b es) ≡ has q (under b fs)
has_under_by b q es fs h f true e =
    let p : b ++ drop 5 q ≡ q = ap (λ w. w ++ drop 5 q) (sym ((same-Decides (take 5 q) b).0 e)) ∙ take-append-drop 5 q in
    ap (λ w. has w (under b es)) (sym p) ∙ ap is_some (find-under b (drop 5 q) es) ∙ f (drop 5 q) ∙ sym (ap is_some (find-under b (drop 5 q) fs)) ∙ ap (λ w. has w (under b fs)) p
has_under_by b q es fs h f false e =
    let no : (k : List Bool) → q ≡ b ++ k → ⊥ = λ k p. let z : same (take 5 q) b ≡ true = (same-Decides (take 5 q) b).1 (ap (take 5) p ∙ take_at b k 5 h) in cc in
    ap is_some (find-apart b q no es) ∙ sym (ap is_some (find-apart b q no fs))

pub length-under : {Y : Type 0} (b : List Bool) (es : List (List Bool × Y)) → length (under b es) ≡ length es
length-under b [] = refl
length-under b (e ∷ es) = ap suc (length-under b es)

pub spare_pos : (n : ℕ) → spare_if n ≡ 0 → 1 ≤ n
spare_pos zero e = absurd (omega (arith, e))
spare_pos (suc n) e = omega arith

count_none : (X : Type 0) → len (begun (node_map {X = X} [] [])) ≡ 0
unfolding begun
count_none X = ap (λ es. len (from_entries {R = bits_cmp} (fives_of es))) (walk_none {X = X}) ∙ len-empty bits_cmp (Unit {0})

pub nodes_empty : (X : Type 0) → nodes (empty {X = X} {R = bits_cmp}) ≡ 1
nodes_empty X = ap nodes (sym (node_map-none {X = X})) ∙ ap (λ k. k + 1) (count_none X)

-- the children alone, without their five bits
abbrev pub things : {Y : Type 0} → List (List Bool × Y) → List Y
things [] = []
things (c ∷ cs) = c.1 ∷ things cs

module _ {X : Type 0} where
  -- the nodes of the children whose maps are not empty
  abbrev nodes_below : List (Seen X) → ℕ
  nodes_below cs = total (λ c. nodes_if (len c.entries) c.entries) cs

  pub nothing : (es : List (List Bool × X)) → some_entry es ≡ false → es ≡ []
  nothing [] e = refl
  nothing (x ∷ es) e = cc

  pub begun_value : {vs : List (List Bool × X)} {cs : List (List Bool × Seen X)} {e : List Bool × X} → IsNode (e ∷ vs) cs → StartsAfter e.0 cs → begun (node_map (e ∷ vs) cs) ≡ begun (node_map vs cs)
  unfolding begun
  begun_value {vs} {cs} {e} n h = ap (λ es. from_entries (fives_of es)) (walk_value n h) ∙ ap (λ fs. from_entries (fs ++ fives_of (entries (node_map vs cs)))) (fives_short e.0 n.values_short.0)

  pub begun_none : {vs : List (List Bool × X)} {cs : List (List Bool × Seen X)} {c : List Bool × Seen X} → IsNode vs (c ∷ cs) → StartsAfter c.0 vs → entries c.1.entries ≡ [] → begun (node_map vs (c ∷ cs)) ≡ begun (node_map vs cs)
  unfolding begun
  begun_none {vs} {cs} {c} n h e = ap (λ es. from_entries (fives_of es)) (walk_child n h ∙ ap (λ es. under c.0 es ++ entries (node_map vs cs)) e)

  -- what begins a key begins one of the first child, or of what follows it
  pub begun_has : {vs : List (List Bool × X)} {cs : List (List Bool × Seen X)} {c : List Bool × Seen X} → IsNode vs (c ∷ cs) → StartsAfter c.0 vs → (q : List Bool)
      → has q (entries (begun (node_map vs (c ∷ cs)))) ≡ (((some_entry (entries c.1.entries) && same q c.0) || has q (under c.0 (entries (begun c.1.entries)))) || has q (entries (begun (node_map vs cs))))
  begun_has {vs} {cs} {c} n h q =
      has-begun (node_map vs (c ∷ cs)) q
      ∙ ap (λ es. has q (fives_of es)) (walk_child n h)
      ∙ ap (has q) (fives_of-append (under c.0 (entries c.1.entries)) (entries (node_map vs cs)))
      ∙ has-append q (fives_of (under c.0 (entries c.1.entries))) (fives_of (entries (node_map vs cs)))
      ∙ (λ i. (has_under c.0 q (entries c.1.entries) n.children_long.0 i || sym (has-begun (node_map vs cs) q) i))
      ∙ ap (λ t. ((some_entry (entries c.1.entries) && same q c.0) || t) || has q (entries (begun (node_map vs cs)))) (has_under_by c.0 q (fives_of (entries c.1.entries)) (entries (begun c.1.entries)) n.children_long.0 (λ x. sym (has-begun c.1.entries x)) (same (take 5 q) c.0) refl)

  pub begun_child : {vs : List (List Bool × X)} {cs : List (List Bool × Seen X)} {c : List Bool × Seen X} → IsNode vs (c ∷ cs) → T (below_all bits_cmp c.0 cs) → StartsAfter c.0 vs → some_entry (entries c.1.entries) ≡ true
      → entries (begun (node_map vs (c ∷ cs))) ≡ (c.0, tt) ∷ under c.0 (entries (begun c.1.entries)) ++ entries (begun (node_map vs cs))
  begun_child {vs} {cs} {c} n a h e =
      let b = c.0 in
      let E = entries (begun c.1.entries) in
      let F = entries (begun (node_map vs cs)) in
      same_entries bits_cmp bits_total bits_same _ _ (entries_sorted (begun (node_map vs (c ∷ cs))))
      (T-and _ _
      (below_append b (under b E) F
      (subst (λ w. T (below_all bits_cmp w (under b E))) (append-nil b) (below_under b [] E (not_none c.1.entries)))
      (subst (λ w. T (below_all bits_cmp w F)) (append-nil b) (after_child n a [])))
      (sorted_under b E F (entries_sorted (begun c.1.entries)) (entries_sorted (begun (node_map vs cs))) (after_child n a)))
      (λ q. same_option _ _ (
      begun_has n h q
      ∙ ap (λ t. ((t && same q b) || has q (under b E)) || has q F) e
      ∙ or_assoc (same q b) (has q (under b E)) (has q F)
      ∙ ap (λ t. same q b || t) (sym (has-append q (under b E) F))
      ∙ sym (some_cond (same q b) tt (find bits_cmp q (under b E ++ F)))
      ))

  some_length : (es : List (List Bool × X)) → some_entry es ≡ true → 1 ≤ length es
  some_length [] e = cc
  some_length (x ∷ es) e = omega arith

  nodes_if_some : (n : ℕ) (m : BitMap X) → 1 ≤ n → nodes_if n m ≡ nodes m
  nodes_if_some zero m h = absurd (omega arith)
  nodes_if_some (suc n) m h = refl

  count_child_by : {vs : List (List Bool × X)} {cs : List (List Bool × Seen X)} {c : List Bool × Seen X} → IsNode vs (c ∷ cs) → StartsAfter c.0 vs → (b : Bool) → some_entry (entries c.1.entries) ≡ b → len (begun (node_map vs (c ∷ cs))) ≡ nodes_if (len c.1.entries) c.1.entries + len (begun (node_map vs cs))
  count_child_by {vs} {cs} {c} n h true e =
      let l = ap length (begun_child n (tail_rises c cs n.children_rise).1 h e) in
      let p = length-append (under c.0 (entries (begun c.1.entries))) (entries (begun (node_map vs cs))) in
      let u = length-under c.0 (entries (begun c.1.entries)) in
      let k = nodes_if_some (len c.1.entries) c.1.entries (omega (arith, len-entries c.1.entries, some_length (entries c.1.entries) e)) in
      omega (arith, l, p, u, k, len-entries (begun (node_map vs (c ∷ cs))), len-entries (begun c.1.entries), len-entries (begun (node_map vs cs)))
  count_child_by {vs} {cs} {c} n h false e =
      let z : entries c.1.entries ≡ [] = nothing (entries c.1.entries) e in
      let k : nodes_if (len c.1.entries) c.1.entries ≡ 0 = ap (λ l. nodes_if l c.1.entries) (len-entries c.1.entries ∙ ap length z) in
      omega (arith, k, ap len (begun_none n h z))

  -- the nodes that a map needs: one, and those that the children's maps need
  nodes_of_node : {vs : List (List Bool × X)} {cs : List (List Bool × Seen X)} → IsNode vs cs → nodes (node_map vs cs) ≡ nodes_below (things cs) + 1
  nodes_of_node {vs} {cs} n = ap (λ k. k + 1) (each_node (λ vs cs. len (begun (node_map vs cs)) ≡ nodes_below (things cs)) (count_none X) (λ e vs cs n h r. ap len (begun_value n h) ∙ r)
      (λ vs c cs n h r. omega (arith, count_child_by n h (some_entry (entries c.1.entries)) refl, r)) vs cs n)

  one_child_nodes : (n : ℕ) (m : BitMap X) (k : ℕ) → len m ≡ n → nodes_if n m + (spare_if n + k) ≡ nodes m + k
  one_child_nodes zero m k e = omega (arith, ap nodes (empty_of_len m e), nodes_empty X)
  one_child_nodes (suc n) m k e = omega arith

  -- the nodes that the children need and the spare ones are all nodes
  all_nodes_below : (cs : List (Seen X)) → nodes_below cs + spares_below cs ≡ total all_nodes cs
  all_nodes_below [] = omega arith
  all_nodes_below (c ∷ cs) = omega (arith, one_child_nodes (len c.entries) c.entries (spare_count c) refl, all_nodes_below cs)

  -- all nodes of a node, by its lists
  pub all_of_node : {vs : List (List Bool × X)} {cs : List (List Bool × Seen X)} → IsNode vs cs → nodes (node_map vs cs) + spares_below (things cs) ≡ total all_nodes (things cs) + 1
  all_of_node {vs} {cs} n = omega (arith, all_nodes_below (things cs), nodes_of_node n)

  found_first : (v : List Bool × X) (vs : List (List Bool × X)) → find bits_cmp v.0 (v ∷ vs) ≡ Some v.1
  found_first v vs = ap (λ b. cond b (Some v.1) (find bits_cmp v.0 vs)) (same-refl v.0)

  -- a node with no key and no spare node has neither values nor children
  pub bare_lists : (vs : List (List Bool × X)) (cs : List (List Bool × Seen X)) → IsNode vs cs → node_map vs cs ≡ empty → spares_below (things cs) ≡ 0 → (length vs ≡ 0) × (length (things cs) ≡ 0)
  bare_lists [] [] n e z = (refl, refl)
  bare_lists (v ∷ vs) cs n e z =
      let f : get (node_map (v ∷ vs) cs) v.0 ≡ Some v.1 = get-short n v.0 n.values_short.0 ∙ found_first v vs in
      let z : None ≡ Some v.1 = sym (ap (λ m. get m v.0) e ∙ get_none v.0) ∙ f in
      cc
  bare_lists [] (c ∷ cs) n e z =
      let w = walk_child n tt in
      let b = under c.0 (entries c.1.entries) in
      let r = entries (node_map [] cs) in
      let l : 1 ≤ len c.1.entries = spare_pos (len c.1.entries) (omega (arith, z)) in
      absurd (omega (arith, ap length w, length-append b r, length-under c.0 (entries c.1.entries), len-entries c.1.entries, len-entries (node_map [] (c ∷ cs)), ap len e, len-empty bits_cmp X, l))

-- ---- how many entries a node has

pub length-things : {Y : Type 0} (es : List (List Bool × Y)) → length (things es) ≡ length es
length-things [] = refl
length-things (e ∷ es) = ap suc (length-things es)

module _ {X : Type 0} where
  -- its values, and the entries of its children
  pub entries_of_node : {vs : List (List Bool × X)} {cs : List (List Bool × Seen X)} → IsNode vs cs → len (node_map vs cs) ≡ length vs + total entry_count (things cs)
  entries_of_node {vs} {cs} n = each_node (λ vs cs. len (node_map vs cs) ≡ length vs + total entry_count (things cs)) (omega (arith, ap length (walk_none {X = X}), len-entries (node_map {X = X} [] [])))
      (λ e vs cs n h r. omega (arith, ap length (walk_value n h), len-entries (node_map (e ∷ vs) cs), len-entries (node_map vs cs), r))
      (λ vs c cs n h r. omega (arith, ap length (walk_child n h), length-append (under c.0 (entries c.1.entries)) (entries (node_map vs cs)), length-under c.0 (entries c.1.entries), len-entries (node_map vs (c ∷ cs)), len-entries (node_map vs cs), len-entries c.1.entries, r))
      vs cs n
