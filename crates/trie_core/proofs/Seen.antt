-- What a node is seen as, from its words and lists, and what a change of them makes of it.
use Rattle.std.proofs.Common.{◌≡◌, ℕ, zero, suc, ◌+◌, ◌<◌, ◌≤◌, Bool, cond, List, [], ◌∷◌, ◌++◌, length, take, drop, get_or, set, sym, ap, ◌∙◌, inl, inr, count_ones, max, Some, None, Option, is_some, nat_cmp, arith}
use Rattle.std.specs.FinMap.{find, get, empty, empty_of_len, len, get-empty, len-remove}
use Rattle.std.proofs.lemmas.Nat.{zero_from_ones}
use Rattle.std.proofs.lemmas.List.{nil_from_length, set_split, take_more, take-append-drop, take_all}
use Rattle.ipnet_blocks.specs.BitStrings.{bits_cmp}
use Rattle.trie_core.specs.InnerPlaces.{place_of, child_of, at_places, value_list, child_list}
use Rattle.trie_core.specs.Nodes.{BitMap, Seen}
use Rattle.trie_core.specs.InnerNodes.{node_map, node_height, IsNode, HasSlots}
use Rattle.trie_core.specs.InnerCount.{spare_count, all_nodes, total, spares_below, spare_set, entry_count}
use Rattle.trie_core.specs.Count.{node_visits}
use Rattle.trie_core.specs.InnerSearch.{IsChild, HasNoChild}
use Rattle.trie_core.proofs.Strings.{same, front, bits_total}
use Rattle.trie_core.proofs.Maps.{node_map-none, child_get, get_none, get-short, get-long, get-below}
use Rattle.trie_core.proofs.Count.{things, all_of_node, bare_lists, length-things, entries_of_node}
use Rattle.trie_core.proofs.Visits.{visits_none, visits_some}
use Rattle.trie_core.proofs.Numbers.{ones_bit}
use Rattle.trie_core.proofs.Marks.{marked-other, marked_get, set-len, set-long, set-root, set-below}
use Rattle.trie_core.proofs.Named.{is_node, value_things, child_things, value_found, child_found}
use Rattle.std.proofs.lemmas.Bool.{cases_Bool}
use Rattle.std.proofs.lemmas.Option.{same_Some}
use Rattle.std.proofs.Math.Seq.{split_at}
use Rattle.std.specs.FinMap as map

module _ {X : Type 0} where
  -- ---- sums and heights of children

  pub total-append : (f : Seen X → ℕ) (cs ds : List (Seen X)) → total f (cs ++ ds) ≡ total f cs + total f ds
  total-append f [] ds = omega arith
  total-append f (c ∷ cs) ds = omega (arith, total-append f cs ds)

  pub total-set : (f : Seen X → ℕ) (cs : List (Seen X)) (i : ℕ) (c d : Seen X) → i < length cs → total f (set cs i c) + f (get_or cs i d) ≡ total f cs + f c
  total-set f cs i c d h = omega (arith, ap (total f) (set_split cs i c h), ap (total f) (split_at cs i d h), total-append f (take i cs) (c ∷ drop (suc i) cs), total-append f (take i cs) (get_or cs i d ∷ drop (suc i) cs))

  pub height-set : (cs : List (Seen X)) (i : ℕ) (c : Seen X) → node_height (set cs i c) ≤ max (node_height cs) c.levels
  height-set [] i c = omega arith
  height-set (e ∷ cs) zero c = omega arith
  height-set (e ∷ cs) (suc i) c = omega (arith, height-set cs i c)

  pub height-read : (cs : List (Seen X)) (i : ℕ) (d : Seen X) → i < length cs → (get_or cs i d).levels ≤ node_height cs
  height-read [] i d h = absurd (omega arith)
  height-read (e ∷ cs) zero d h = omega arith
  height-read (e ∷ cs) (suc i) d h = omega (arith, height-read cs i d (omega arith))

  found_height : (n : List Bool) (m : Seen X) (cs : List (List Bool × Seen X)) → find bits_cmp n cs ≡ Some m → m.levels ≤ node_height (things cs)
  found_height n m [] e = cc
  found_height n m (c ∷ cs) e = elim (cases_Bool (same n c.0)) [
    | inl t ↦ let p : Some c.1 ≡ Some m = ap (λ b. cond b (Some c.1) (find bits_cmp n cs)) (sym t) ∙ e in omega (arith, ap (λ x. x.levels) (same_Some c.1 m p))
    | inr t ↦ omega (arith, found_height n m cs (ap (λ b. cond b (Some c.1) (find bits_cmp n cs)) (sym t) ∙ e))
  ]

  -- ---- a node

  abbrev pub map_of : ℕ → List X → ℕ → List (Seen X) → BitMap X
  map_of vb vs cb cs = node_map (value_list vb vs) (child_list cb cs)

  -- what a node with these words and lists is seen as
  abbrev pub viewed : ℕ → List X → ℕ → List (Seen X) → Seen X
  viewed vb vs cb cs = record { entries = map_of vb vs cb cs; spares = spare_set (child_list cb cs); levels = node_height cs + 1 }

  -- the same, which is m
  pub record IsSeen (vb : ℕ) (vs : List X) (cb : ℕ) (cs : List (Seen X)) (m : Seen X) : Type 0 where
    pub slots : HasSlots vb vs cb cs
    pub node : IsNode (value_list vb vs) (child_list cb cs)
    pub map : map_of vb vs cb cs ≡ m.entries
    pub spares : spares_below cs ≡ spare_count m
    pub spare : spare_set (child_list cb cs) ≡ m.spares
    pub count : total all_nodes cs + 1 ≡ all_nodes m
    pub height : node_height cs + 1 ≡ m.levels

  -- all nodes of a node, by its words and lists
  pub counted : (vb : ℕ) (vs : List X) (cb : ℕ) (cs : List (Seen X)) → HasSlots vb vs cb cs → all_nodes (viewed vb vs cb cs) ≡ total all_nodes cs + 1
  counted vb vs cb cs s =
      let t = child_things cb cs s.children_below s.children_counted in
      let n = is_node vb vs cb cs s.values_below s.children_below in
      omega (arith, all_of_node n, set-len n, ap (total all_nodes) t)

  pub spares_counted : (vb : ℕ) (vs : List X) (cb : ℕ) (cs : List (Seen X)) → HasSlots vb vs cb cs → spare_count (viewed vb vs cb cs) ≡ spares_below cs
  spares_counted vb vs cb cs s = set-len (is_node vb vs cb cs s.values_below s.children_below) ∙ ap spares_below (child_things cb cs s.children_below s.children_counted)

  pub none_spare : (vb : ℕ) (vs : List X) (cb : ℕ) (cs : List (Seen X)) → HasSlots vb vs cb cs → spares_below cs ≡ 0 → spare_set (child_list cb cs) ≡ empty
  none_spare vb vs cb cs s z =
      let n = is_node vb vs cb cs s.values_below s.children_below in
      sym (set-root n) ∙ empty_of_len _ (spares_counted vb vs cb cs s ∙ z)

  pub seen : {vb : ℕ} {vs : List X} {cb : ℕ} {cs : List (Seen X)} {m : Seen X} → HasSlots vb vs cb cs → viewed vb vs cb cs ≡ m → IsSeen vb vs cb cs m
  seen {vb} {vs} {cb} {cs} {m} s v = record {
    slots = s;
    node = is_node vb vs cb cs s.values_below s.children_below;
    map = ap (λ m. m.entries) v;
    spares = sym (spares_counted vb vs cb cs s) ∙ ap (λ m. spare_count m) v;
    spare = ap (λ m. m.spares) v;
    count = omega (arith, counted vb vs cb cs s, ap (λ m. all_nodes m) v);
    height = ap (λ m. m.levels) v;
  }

  -- what a node has at a string, by its number
  pub value_at : {vb : ℕ} {vs : List X} {cb : ℕ} {cs : List (Seen X)} {m : Seen X} (q : List Bool) → IsSeen vb vs cb cs m → length q < 5 → find nat_cmp (place_of q) (at_places 32 0 vb vs) ≡ get m.entries q
  value_at {vb} {vs} q s h = sym (value_found q vb vs h s.slots.values_below) ∙ sym (get-short s.node q h) ∙ ap (λ m. get m q) s.map

  pub below_at : {vb : ℕ} {vs : List X} {cb : ℕ} {cs : List (Seen X)} {m : Seen X} (q : List Bool) → IsSeen vb vs cb cs m → 5 ≤ length q → child_get (find nat_cmp (child_of q) (at_places 32 0 cb cs)) (drop 5 q) ≡ get m.entries q
  below_at {cb = cb} {cs = cs} q s h = ap (λ o. child_get o (drop 5 q)) (sym (child_found q cb cs h s.slots.children_below)) ∙ sym (get-long s.node q h) ∙ ap (λ m. get m q) s.map

  -- the spare nodes at strings of five bits and more are those of the child on the way
  pub spare_at : {vb : ℕ} {vs : List X} {cb : ℕ} {cs : List (Seen X)} {m : Seen X} (q : List Bool) → IsSeen vb vs cb cs m → 5 ≤ length q → marked_get (find nat_cmp (child_of q) (at_places 32 0 cb cs)) (drop 5 q) ≡ get m.spares q
  spare_at {cb = cb} {cs = cs} q s h = ap (λ o. marked_get o (drop 5 q)) (sym (child_found q cb cs h s.slots.children_below)) ∙ sym (set-long s.node q h) ∙ ap (λ b. get b q) s.spare

  pub is_child : {vb : ℕ} {vs : List X} {cb : ℕ} {cs : List (Seen X)} {m : Seen X} (q : List Bool) (c : Seen X) → IsSeen vb vs cb cs m → 5 ≤ length q → find nat_cmp (child_of q) (at_places 32 0 cb cs) ≡ Some c → IsChild q m c
  is_child {vb} {vs} {cb} {cs} {m} q c s h e =
      let f = (front q h).0 in
      let g : find bits_cmp (take 5 q) (child_list cb cs) ≡ Some c = child_found q cb cs h s.slots.children_below ∙ e in
      let t = child_things cb cs s.slots.children_below s.slots.children_counted in
      record {
        gets = λ r. sym (ap (λ m. get m (take 5 q ++ r)) s.map) ∙ get-below s.node (take 5 q) r (front q h).0 ∙ ap (λ o. child_get o r) g;
        smaller = omega (arith, found_height (take 5 q) c (child_list cb cs) g, ap node_height t, s.height);
        spares = λ b r. sym (ap (λ m. get m (take 5 q ++ b ∷ r)) s.spare) ∙ set-below s.node (take 5 q) (b ∷ r) (front q h).0 ∙ ap (λ o. marked_get o (b ∷ r)) g ∙ marked-other c b r;
        visits = λ r. (λ i. node_visits (sym s.map i) (sym s.spare i) (take 5 q ++ r)) ∙ visits_some (take 5 q) r s.node f g;
      }

  pub has_no_child : {vb : ℕ} {vs : List X} {cb : ℕ} {cs : List (Seen X)} {m : Seen X} (q : List Bool) → IsSeen vb vs cb cs m → 5 ≤ length q → find nat_cmp (child_of q) (at_places 32 0 cb cs) ≡ None → HasNoChild q m
  has_no_child {vb} {vs} {cb} {cs} {m} q s h e =
      let g : find bits_cmp (take 5 q) (child_list cb cs) ≡ None = child_found q cb cs h s.slots.children_below ∙ e in
      record {
        gets = λ r. sym (ap (λ m. get m (take 5 q ++ r)) s.map) ∙ get-below s.node (take 5 q) r (front q h).0 ∙ ap (λ o. child_get o r) g ∙ get_none r;
        spares = λ r. sym (ap (λ m. get m (take 5 q ++ r)) s.spare) ∙ set-below s.node (take 5 q) r (front q h).0 ∙ ap (λ o. marked_get o r) g;
        visits = (λ i. node_visits (sym s.map i) (sym s.spare i) q) ∙ visits_none q s.node g;
      }

  -- ---- no values and no children

  empty_lists : (vb cb : ℕ) → map_of vb [] cb [] ≡ empty
  unfolding value_list child_list
  empty_lists vb cb = node_map-none

  pub new_map : (vb cb : ℕ) (vs : List X) (cs : List (Seen X)) → vs ≡ [] → cs ≡ [] → map_of vb vs cb cs ≡ empty
  new_map vb cb vs cs e f = (λ i. map_of vb (e i) cb (f i)) ∙ empty_lists vb cb

  pub new_set : (cb : ℕ) (cs : List (Seen X)) → cs ≡ [] → spare_set (child_list cb cs) ≡ empty
  unfolding spare_set child_list
  new_set cb cs e = ap (λ l. spare_set (child_list cb l)) e ∙ node_map-none

  pub bare : {vb : ℕ} {vs : List X} {cb : ℕ} {cs : List (Seen X)} {m : Seen X} → IsSeen vb vs cb cs m → length vs ≡ 0 → length cs ≡ 0 → (m.entries ≡ empty) × (spare_count m ≡ 0) × (all_nodes m ≡ 1)
  bare {vb} {vs} {cb} {cs} s e f =
      (sym s.map ∙ new_map vb cb vs cs (nil_from_length vs e) (nil_from_length cs f), sym s.spares ∙ ap spares_below (nil_from_length cs f), sym s.count ∙ ap (λ x. total all_nodes x + 1) (nil_from_length cs f))

  -- a node with no key and no spare node
  pub left_bare : {vb : ℕ} {vs : List X} {cb : ℕ} {cs : List (Seen X)} {m : Seen X} → IsSeen vb vs cb cs m → m.entries ≡ empty → spare_count m ≡ 0 → (length vs ≡ 0) × (length cs ≡ 0)
  left_bare {vb} {vs} {cb} {cs} s e z =
      let t = child_things cb cs s.slots.children_below s.slots.children_counted in
      let u = value_things vb vs s.slots.values_below s.slots.values_counted in
      let b = bare_lists (value_list vb vs) (child_list cb cs) s.node (s.map ∙ e) (ap spares_below t ∙ s.spares ∙ z) in
      (sym (ap length u) ∙ length-things (value_list vb vs) ∙ b.0, sym (ap length t) ∙ b.1)

-- a word with no bit set is 0
pub no_bits : (bits n : ℕ) → count_ones bits ≡ n → (bits ≡ 0 → n ≡ 0) × (n ≡ 0 → bits ≡ 0)
no_bits bits n e = (λ z. sym e ∙ ap count_ones z ∙ ones_bit 0 (omega arith), λ z. zero_from_ones bits (e ∙ z))

-- ---- how many entries a node has, by its lists

module _ {X : Type 0} where
  -- its values, and the entries of its children
  pub entries_at : (vb : ℕ) (vs : List X) (cb : ℕ) (cs : List (Seen X)) → HasSlots vb vs cb cs → len (map_of vb vs cb cs) ≡ length vs + total entry_count cs
  entries_at vb vs cb cs s =
      let u = value_things vb vs s.values_below s.values_counted in
      let t = child_things cb cs s.children_below s.children_counted in
      let n = is_node vb vs cb cs s.values_below s.children_below in
      omega (arith, entries_of_node n, ap length u, length-things (value_list vb vs), ap (total entry_count) t)

  pub entries_of : {vb : ℕ} {vs : List X} {cb : ℕ} {cs : List (Seen X)} {m : Seen X} → IsSeen vb vs cb cs m → len m.entries ≡ length vs + total entry_count cs
  entries_of {vb} {vs} {cb} {cs} s = ap len (sym s.map) ∙ entries_at vb vs cb cs s.slots

  -- ---- a sum, as far as it is taken

  total-more : (f : Seen X → ℕ) (cs : List (Seen X)) (i : ℕ) (d : Seen X) → i < length cs → total f (take (i + 1) cs) ≡ total f (take i cs) + f (get_or cs i d)
  total-more f cs i d h = omega (arith, ap (total f) (take_more cs i d h), total-append f (take i cs) (get_or cs i d ∷ []))

  total-part : (f : Seen X → ℕ) (cs : List (Seen X)) (i : ℕ) → total f (take i cs) ≤ total f cs
  total-part f cs i = omega (arith, ap (total f) (take-append-drop i cs), total-append f (take i cs) (drop i cs))

  -- one child more of a list ls that is cs
  pub total_step : (f : Seen X → ℕ) {cs ls : List (Seen X)} {i : ℕ} {d : Seen X} → ls ≡ cs → i < length ls → d ≡ get_or ls i d → (i < length cs) × (d ≡ get_or cs i d) × (total f (take (i + 1) ls) ≡ total f (take i ls) + f d) × (total f (take (i + 1) ls) ≤ total f cs)
  total_step f {cs} {ls} {i} {d} e h r = (
    omega (arith, ap length e, h),
    r ∙ ap (λ l. get_or l i d) e,
    omega (arith, total-more f ls i d h, ap f r),
    omega (arith, total-part f ls (i + 1), ap (total f) e),
  )

  pub total-all : (f : Seen X → ℕ) (cs : List (Seen X)) (i : ℕ) → length cs ≤ i → total f (take i cs) ≡ total f cs
  total-all f cs i h = ap (total f) (take_all i cs h)

  -- ---- a key goes

  pub removed : (m : BitMap X) (q : List Bool) (o : Option X) (b : Bool) → o ≡ get m q → is_some o ≡ b → len (map.remove m q) + cond b 1 0 ≡ len m
  removed m q o b e f = grind (arith, len-remove bits_total m q, empty_of_len m, get-empty {X = X} bits_cmp q)
