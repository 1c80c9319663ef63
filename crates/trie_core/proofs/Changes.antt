-- What a change of a node's words and lists makes of it.
use Rattle.std.proofs.Common.{◌≡◌, ℕ, zero, suc, ◌+◌, ◌-◌, ◌/◌, ◌^◌, ◌<◌, ◌≤◌, Bool, true, false, List, [], ◌∷◌, length, take, drop, get_or, set, refl, sym, ap, subst, ◌∙◌, max, Some, None, count_ones, remove, nat_cmp, length-drop, arith}
use Rattle.std.specs.FinMap.{find, get, put, empty, len, empty_of_len}
use Rattle.std.specs.FinMap as map
use Rattle.ipnet_blocks.specs.BitStrings.{bits_cmp}
use Rattle.trie_core.specs.InnerPlaces.{place_of, child_of, child_string, at_places, without, named, child_list, IsSlot, IsUnset}
use Rattle.trie_core.specs.Nodes.{BitMap, Seen}
use Rattle.trie_core.specs.InnerNodes.{node_height, child_map, HasSlots}
use Rattle.trie_core.specs.Count.{nodes}
use Rattle.trie_core.specs.InnerCount.{spare_count, all_nodes, total, spare_of, spare_if, spare_set, entry_count}
use Rattle.trie_core.proofs.Maps.{get_none, value_put, value_taken, child_put, child_taken, ListChanges, get-written}
use Rattle.trie_core.proofs.Count.{things, nodes_empty}
use Rattle.trie_core.proofs.Numbers.{number_bound}
use Rattle.trie_core.proofs.Taken.{IsTaken, taken, missing, taken_out}
use Rattle.trie_core.proofs.Named.{is_node, child_things, child_found, value_put_in, value_taken_out, child_put_in, child_taken_out}
use Rattle.trie_core.proofs.Marks.{marked_get, set-same}
use Rattle.trie_core.proofs.Seen.{IsSeen, map_of, viewed, counted, total-set, height-set, height-read, below_at, has_no_child, total-append, entries_at, entries_of}
use Rattle.trie_core.proofs.Searches.{no_child_get}
use Rattle.std.proofs.lemmas.Bool.Decides.{nat_tests}
use Rattle.std.proofs.Math.Seq.{split_at}
use Rattle.std.proofs.lemmas.Option.{none-some}

pub set_removed : {Y : Type 0} (xs : List Y) (i : ℕ) (y : Y) → remove (set xs i y) i ≡ remove xs i
set_removed [] i y = refl
set_removed (x ∷ xs) zero y = refl
set_removed (x ∷ xs) (suc i) y = ap (λ ys. x ∷ ys) (set_removed xs i y)

pub depth_rest : (q : List Bool) → 5 ≤ length q → length (drop 5 q) / 5 + 1 ≡ length q / 5
depth_rest q h = let e = length-drop 5 q in omega arith

spare_if_not : (n : ℕ) → (n ≡ 0 → ⊥) → spare_if n ≡ 0
spare_if_not zero h = absurd (h refl)
spare_if_not (suc n) h = refl

module _ {X : Type 0} where
  -- ---- sums and heights

  pub total-remove : (f : Seen X → ℕ) (cs : List (Seen X)) (i : ℕ) (d : Seen X) → i < length cs → total f (remove cs i) + f (get_or cs i d) ≡ total f cs
  total-remove f cs i d h = omega (arith, ap (total f) (split_at cs i d h), total-append f (take i cs) (get_or cs i d ∷ drop (suc i) cs), total-append f (take i cs) (drop (suc i) cs))

  pub height-remove : (cs : List (Seen X)) (i : ℕ) → node_height (remove cs i) ≤ node_height cs
  height-remove [] zero = omega arith
  height-remove [] (suc i) = omega arith
  height-remove (e ∷ cs) zero = omega arith
  height-remove (e ∷ cs) (suc i) = omega (arith, height-remove cs i)

  put_total : (f : Seen X → ℕ) (g : ℕ → List Bool) (n : ℕ) (d : Seen X) (es : List (ℕ × Seen X)) → find nat_cmp n es ≡ None → total f (things (named g (put nat_cmp n d es))) ≡ total f (things (named g es)) + f d
  put_total f g n d [] h = omega arith
  put_total f g n d (e ∷ es) h = grind (arith, nat_tests, put_total f g n d es)

  put_height : (g : ℕ → List Bool) (n : ℕ) (d : Seen X) (es : List (ℕ × Seen X)) → node_height (things (named g (put nat_cmp n d es))) ≤ max (node_height (things (named g es))) d.levels
  put_height g n d [] = omega arith
  put_height g n d (e ∷ es) = grind (arith, nat_tests, put_height g n d es)

  -- ---- spare children

  -- a map that got a key is not spare
  pub spare_insert : {d : BitMap X} (m : BitMap X) (q : List Bool) (v : X) → d ≡ map.insert m q v → spare_if (len d) ≡ 0
  spare_insert {d} m q v e = spare_if_not (len d) (λ z. none-some v (sym (ap (λ k. get k q) (empty_of_len d z) ∙ get_none q) ∙ ap (λ k. get k q) e ∙ get-written m q v))

  -- a node that is not bare has a key or a spare node
  pub not_bare : (d : Seen X) (b : Bool) → ((d.entries ≡ empty) × (spare_count d ≡ 0) → b ≡ true) → b ≡ false → spare_count d ≡ 0 → len d.entries ≡ 0 → ⊥
  not_bare d b h f s e = let z : true ≡ false = sym (h (empty_of_len d.entries e, s)) ∙ f in cc

  -- a child that is not bare, where none below it is spare
  pub spare_kept : (d : Seen X) (b : Bool) → spare_count d ≡ 0 → ((d.entries ≡ empty) × (spare_count d ≡ 0) → b ≡ true) → b ≡ false → spare_of d ≡ 0
  spare_kept d b s h f = omega (arith, s, spare_if_not (len d.entries) (not_bare d b h f s))

  pub new_nodes : (m : Seen X) → m.entries ≡ empty → spare_count m ≡ 0 → all_nodes m ≡ 1
  new_nodes m e z = omega (arith, ap nodes e, nodes_empty X, z)

  -- ---- values

  pub value_slots : {vb wb : ℕ} {vs ws : List X} {cb : ℕ} {cs : List (Seen X)} {m : Seen X} → IsSeen vb vs cb cs m → count_ones wb ≡ length ws → wb < 2 ^ 31 → HasSlots wb ws cb cs
  value_slots s e h = record { values_counted = e; values_below = h; children_counted = s.slots.children_counted; children_below = s.slots.children_below }

  pub child_slots : {vb cb db : ℕ} {vs : List X} {cs ds : List (Seen X)} → HasSlots vb vs cb cs → count_ones db ≡ length ds → db < 2 ^ 32 → HasSlots vb vs db ds
  child_slots s e h = record { values_counted = s.values_counted; values_below = s.values_below; children_counted = e; children_below = h }

  pub value_put_map : {vb wb n : ℕ} {vs ws : List X} {cb : ℕ} {cs : List (Seen X)} {m : Seen X} (q : List Bool) (v : X) → IsSeen vb vs cb cs m → HasSlots wb ws cb cs → length q < 5 → n ≡ place_of q → at_places 32 0 wb ws ≡ put nat_cmp n v (at_places 32 0 vb vs) → map_of wb ws cb cs ≡ map.insert m.entries q v
  value_put_map {vb} {wb} {n} {vs} {ws} {cb} {cs} q v s t h k e =
      value_put q v s.node (is_node wb ws cb cs t.values_below t.children_below) h (value_put_in q v vb wb vs ws h s.slots.values_below (e ∙ ap (λ i. put nat_cmp i v (at_places 32 0 vb vs)) k)) ∙ ap (λ x. map.insert x q v) s.map

  pub value_taken_map : {vb wb n : ℕ} {vs ws : List X} {cb : ℕ} {cs : List (Seen X)} {m : Seen X} (q : List Bool) → IsSeen vb vs cb cs m → HasSlots wb ws cb cs → length q < 5 → n ≡ place_of q → at_places 32 0 wb ws ≡ without n (at_places 32 0 vb vs) → map_of wb ws cb cs ≡ map.remove m.entries q
  value_taken_map {vb} {wb} {n} {vs} {ws} {cb} {cs} q s t h k e =
      value_taken q s.node (is_node wb ws cb cs t.values_below t.children_below) h (value_taken_out q vb wb vs ws h s.slots.values_below (e ∙ ap (λ i. without i (at_places 32 0 vb vs)) k)) ∙ ap (λ x. map.remove x q) s.map

  -- a change of the values alone leaves all nodes
  pub value_count : {vb wb : ℕ} {vs ws : List X} {cb : ℕ} {cs : List (Seen X)} {m : Seen X} → IsSeen vb vs cb cs m → HasSlots wb ws cb cs → all_nodes (viewed wb ws cb cs) ≡ all_nodes m
  value_count {vb} {wb} {vs} {ws} {cb} {cs} s t = counted wb ws cb cs t ∙ s.count

  -- ---- the child on the way to q, which is e and becomes d

  pub way : {vb n at : ℕ} {vs : List X} {cb : ℕ} {cs : List (Seen X)} {m : Seen X} (q : List Bool) → IsSeen vb vs cb cs m → n ≡ child_of q → IsSlot n cb at → IsTaken (child_of q) at cb cs
  way {at = at} {cb = cb} {cs = cs} q s k t = taken (child_of q) at cb cs (number_bound 5 q) (subst (λ i. IsSlot i cb at) k t) s.slots.children_counted

  pub was_found : {vb at : ℕ} {vs : List X} {cb : ℕ} {cs : List (Seen X)} {m : Seen X} (q : List Bool) (e : Seen X) → IsSeen vb vs cb cs m → 5 ≤ length q → IsTaken (child_of q) at cb cs → e ≡ get_or cs at e → find bits_cmp (take 5 q) (child_list cb cs) ≡ Some e
  was_found {cb = cb} {cs = cs} q e s h t r = child_found q cb cs h s.slots.children_below ∙ t.read e ∙ ap Some (sym r)

  pub was : {vb at : ℕ} {vs : List X} {cb : ℕ} {cs : List (Seen X)} {m : Seen X} (q : List Bool) (e : Seen X) → IsSeen vb vs cb cs m → 5 ≤ length q → IsTaken (child_of q) at cb cs → e ≡ get_or cs at e → get e.entries (drop 5 q) ≡ get m.entries q
  was q e s h t r = sym (ap (λ o. get (child_map o) (drop 5 q)) (t.read e ∙ ap Some (sym r))) ∙ below_at q s h

  pub set_slots : {vb at : ℕ} {vs : List X} {cb : ℕ} {cs : List (Seen X)} {m : Seen X} (q : List Bool) (d : Seen X) → IsSeen vb vs cb cs m → IsTaken (child_of q) at cb cs → HasSlots vb vs cb (set cs at d)
  set_slots q d s t = record { values_counted = s.slots.values_counted; values_below = s.slots.values_below; children_counted = t.same_ones d; children_below = s.slots.children_below }

  pub set_put : {vb at : ℕ} {vs : List X} {cb : ℕ} {cs : List (Seen X)} {m : Seen X} (q : List Bool) (v : X) (e d : Seen X) → IsSeen vb vs cb cs m → 5 ≤ length q → IsTaken (child_of q) at cb cs → e ≡ get_or cs at e → d.entries ≡ map.insert e.entries (drop 5 q) v → map_of vb vs cb (set cs at d) ≡ map.insert m.entries q v
  set_put {vb} {at} {vs} {cb} {cs} q v e d s h t r f =
      child_put q v d s.node (is_node vb vs cb (set cs at d) s.slots.values_below s.slots.children_below) h (child_put_in q d cb cb cs (set cs at d) h s.slots.children_below (t.written d))
      (f ∙ ap (λ o. map.insert (child_map o) (drop 5 q) v) (sym (was_found q e s h t r))) ∙ ap (λ x. map.insert x q v) s.map

  pub set_taken : {vb at : ℕ} {vs : List X} {cb : ℕ} {cs : List (Seen X)} {m : Seen X} (q : List Bool) (e d : Seen X) → IsSeen vb vs cb cs m → 5 ≤ length q → IsTaken (child_of q) at cb cs → e ≡ get_or cs at e → d.entries ≡ map.remove e.entries (drop 5 q) → map_of vb vs cb (set cs at d) ≡ map.remove m.entries q
  set_taken {vb} {at} {vs} {cb} {cs} q e d s h t r f =
      child_taken q (Some d) s.node (is_node vb vs cb (set cs at d) s.slots.values_below s.slots.children_below) h (child_put_in q d cb cb cs (set cs at d) h s.slots.children_below (t.written d))
      (f ∙ ap (λ o. map.remove (child_map o) (drop 5 q)) (sym (was_found q e s h t r))) ∙ ap (λ x. map.remove x q) s.map

  pub set_count : {vb at : ℕ} {vs : List X} {cb : ℕ} {cs : List (Seen X)} {m : Seen X} (q : List Bool) (e d : Seen X) → IsSeen vb vs cb cs m → IsTaken (child_of q) at cb cs → e ≡ get_or cs at e → all_nodes (viewed vb vs cb (set cs at d)) + all_nodes e ≡ all_nodes m + all_nodes d
  set_count {vb} {at} {vs} {cb} {cs} q e d s t r = omega (arith, counted vb vs cb (set cs at d) (set_slots q d s t), total-set all_nodes cs at d e t.within, ap all_nodes r, s.count)

  pub set_spare : {vb at : ℕ} {vs : List X} {cb : ℕ} {cs : List (Seen X)} {m : Seen X} (q : List Bool) (d : Seen X) → IsSeen vb vs cb cs m → 5 ≤ length q → IsTaken (child_of q) at cb cs → ((r : List Bool) → marked_get (Some d) r ≡ marked_get (find bits_cmp (take 5 q) (child_list cb cs)) r)
      → spare_set (child_list cb (set cs at d)) ≡ m.spares
  set_spare {vb} {at} {vs} {cb} {cs} q d s h t f =
      set-same q (Some d) s.node (is_node vb vs cb (set cs at d) s.slots.values_below s.slots.children_below) h (child_put_in q d cb cb cs (set cs at d) h s.slots.children_below (t.written d)) f ∙ s.spare

  pub set_height : {vb : ℕ} {vs : List X} {cb : ℕ} {cs : List (Seen X)} {m : Seen X} (at : ℕ) (d : Seen X) → IsSeen vb vs cb cs m → node_height (set cs at d) + 1 ≤ max m.levels (d.levels + 1)
  set_height {cs = cs} at d s = omega (arith, height-set cs at d, s.height)

  pub was_lower : {vb at : ℕ} {vs : List X} {cb : ℕ} {cs : List (Seen X)} {m : Seen X} (q : List Bool) (e : Seen X) → IsSeen vb vs cb cs m → IsTaken (child_of q) at cb cs → e ≡ get_or cs at e → e.levels < m.levels
  was_lower {at = at} {cs = cs} q e s t r = omega (arith, height-read cs at e t.within, ap (λ x. x.levels) r, s.height)

  -- ---- no child on the way

  pub absent : {vb n : ℕ} {vs : List X} {cb : ℕ} {cs : List (Seen X)} {m : Seen X} (q : List Bool) → IsSeen vb vs cb cs m → 5 ≤ length q → n ≡ child_of q → IsUnset n cb → get m.entries q ≡ None
  absent {cb = cb} {cs = cs} q s h k u = no_child_get (has_no_child q s h (sym (missing (child_of q) cb cs (subst (λ i. IsUnset i cb) k u))))

  -- a node with a new child, which has v at the rest of q alone
  pub record IsHung (q : List Bool) (v : X) (m : Seen X) (vb : ℕ) (vs : List X) (cb : ℕ) (cs : List (Seen X)) (d : Seen X) : Type 0 where
    pub slots : HasSlots vb vs cb cs
    pub map : map_of vb vs cb cs ≡ map.insert m.entries q v
    pub count : all_nodes (viewed vb vs cb cs) ≡ all_nodes m + all_nodes d
    pub height : node_height cs + 1 ≤ max m.levels (d.levels + 1)

  sums : (g : Seen X → ℕ) (cb db : ℕ) (cs ds : List (Seen X)) (n : ℕ) (d : Seen X) → things (child_list cb cs) ≡ cs → things (child_list db ds) ≡ ds → at_places 32 0 db ds ≡ put nat_cmp n d (at_places 32 0 cb cs) → find nat_cmp n (at_places 32 0 cb cs) ≡ None → total g ds ≡ total g cs + g d
  unfolding child_list
  sums g cb db cs ds n d old new w none =
      ap (total g) (sym new) ∙ ap (λ es. total g (things (named child_string es))) w ∙ put_total g child_string n d (at_places 32 0 cb cs) none ∙ ap (λ es. total g es + g d) old

  heights : (cb db : ℕ) (cs ds : List (Seen X)) (n : ℕ) (d : Seen X) → things (child_list cb cs) ≡ cs → things (child_list db ds) ≡ ds → at_places 32 0 db ds ≡ put nat_cmp n d (at_places 32 0 cb cs) → node_height ds ≤ max (node_height cs) d.levels
  unfolding child_list
  heights cb db cs ds n d old new w =
      omega (arith, ap node_height (sym new), ap (λ es. node_height (things (named child_string es))) w, put_height child_string n d (at_places 32 0 cb cs), ap node_height old)

  pub hung : {vb n db : ℕ} {vs : List X} {cb : ℕ} {cs ls ds : List (Seen X)} {m : Seen X} (q : List Bool) (v : X) (d : Seen X) → IsSeen vb vs cb cs m → 5 ≤ length q → n ≡ child_of q → IsUnset n cb → ls ≡ cs → at_places 32 0 db ds ≡ put nat_cmp n d (at_places 32 0 cb ls) → count_ones db ≡ length ds → db < 2 ^ 32
      → d.entries ≡ map.insert empty (drop 5 q) v → IsHung q v m vb vs db ds d
  hung {vb} {n} {db} {vs} {cb} {cs} {ls} {ds} {m} q v d s h k u l e c b f =
      let w : at_places 32 0 db ds ≡ put nat_cmp (child_of q) d (at_places 32 0 cb cs) = e ∙ (λ i. put nat_cmp (k i) d (at_places 32 0 cb (l i))) in
      let none : find nat_cmp (child_of q) (at_places 32 0 cb cs) ≡ None = sym (missing (child_of q) cb cs (subst (λ i. IsUnset i cb) k u)) in
      let t : HasSlots vb vs db ds = record { values_counted = s.slots.values_counted; values_below = s.slots.values_below; children_counted = c; children_below = b } in
      let old = child_things cb cs s.slots.children_below s.slots.children_counted in
      let new = child_things db ds b c in
      record {
        slots = t;
        map = child_put q v d s.node (is_node vb vs db ds s.slots.values_below b) h (child_put_in q d cb db cs ds h s.slots.children_below w) (f ∙ ap (λ o. map.insert (child_map o) (drop 5 q) v) (sym (child_found q cb cs h s.slots.children_below ∙ none))) ∙ ap (λ x. map.insert x q v) s.map;
        count = omega (arith, counted vb vs db ds t, sums all_nodes cb db cs ds (child_of q) d old new w none, s.count);
        height = omega (arith, heights cb db cs ds (child_of q) d old new w, s.height);
      }

  -- ---- the child on the way goes

  pub record IsChildless (q : List Bool) (m : Seen X) (vb : ℕ) (vs : List X) (cb : ℕ) (cs : List (Seen X)) (db : ℕ) (ds : List (Seen X)) (e : Seen X) : Type 0 where
    pub slots : HasSlots vb vs db ds
    pub changes : ListChanges (child_list cb cs) (take 5 q) None (child_list db ds)
    pub entries : len (map_of vb vs db ds) + len e.entries ≡ len m.entries
    pub count : all_nodes (viewed vb vs db ds) + all_nodes e ≡ all_nodes m
    pub height : node_height ds + 1 ≤ m.levels

  pub childless : {vb at b : ℕ} {vs : List X} {cb : ℕ} {cs ds : List (Seen X)} {m : Seen X} (q : List Bool) (e : Seen X) → IsSeen vb vs cb cs m → 5 ≤ length q → IsTaken (child_of q) at cb cs → e ≡ get_or cs at e → b ≡ 2 ^ child_of q → ds ≡ remove cs at → IsChildless q m vb vs cb cs (cb - b) ds e
  childless {vb} {at} {b} {vs} {cb} {cs} {ds} q e s h t r k l =
      let o = taken_out (child_of q) at cb b cs ds t k l in
      let c = child_slots s.slots o.1 (omega (arith, s.slots.children_below)) in
      record {
        slots = c;
        changes = child_taken_out q cb (cb - b) cs ds h s.slots.children_below o.0;
        entries = omega (arith, entries_at vb vs (cb - b) ds c, ap (total entry_count) l, total-remove entry_count cs at e t.within, ap entry_count r, entries_of s);
        count = omega (arith, counted vb vs (cb - b) ds c, ap (total all_nodes) l, total-remove all_nodes cs at e t.within, ap all_nodes r, s.count);
        height = omega (arith, ap node_height l, height-remove cs at, s.height);
      }

  -- once the key is out of it, with which it is empty
  pub pruned : {vb at db : ℕ} {vs : List X} {cb : ℕ} {cs ds : List (Seen X)} {m : Seen X} (q : List Bool) (e d : Seen X) → IsSeen vb vs cb cs m → 5 ≤ length q → IsTaken (child_of q) at cb cs → e ≡ get_or cs at e → IsChildless q m vb vs cb cs db ds e → d.entries ≡ map.remove e.entries (drop 5 q) → d.entries ≡ empty
      → map_of vb vs db ds ≡ map.remove m.entries q
  pruned {vb} {db = db} {vs = vs} {ds = ds} q e d s h t r p f z =
      child_taken q None s.node (is_node vb vs db ds p.slots.values_below p.slots.children_below) h p.changes (sym z ∙ f ∙ ap (λ o. map.remove (child_map o) (drop 5 q)) (sym (was_found q e s h t r))) ∙ ap (λ x. map.remove x q) s.map
