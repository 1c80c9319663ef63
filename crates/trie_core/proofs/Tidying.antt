-- Spare nodes taken out of a node, child by child from the lowest number on.
use Rattle.std.proofs.Common.{◌≡◌, ℕ, zero, suc, ◌+◌, ◌-◌, ◌/◌, ◌%◌, ◌^◌, ◌<◌, ◌≤◌, Bool, List, [], ◌∷◌, length, take, get_or, set, remove, refl, sym, ap, ◌∙◌, drop, Option, Some, None, count_ones, arith}
use Rattle.std.specs.FinMap.{get, find, empty, same_map}
use Rattle.ipnet_addr.proofs.Basics.{no_ones}
use Rattle.ipnet_blocks.specs.BitStrings.{bits_cmp}
use Rattle.trie_core.specs.InnerPlaces.{child_of, child_string, child_list, IsSlot, IsUnset}
use Rattle.trie_core.proofs.Strings.{bits_total, bits_same}
use Rattle.trie_core.proofs.Numbers.{ones_bit, child_of-string, length-child_string}
use Rattle.trie_core.specs.Nodes.{Seen}
use Rattle.trie_core.specs.InnerNodes.{child_map, node_map, node_height, IsNode, HasSlots}
use Rattle.trie_core.specs.InnerCount.{all_nodes, total, spare_of, spare_set}
use Rattle.trie_core.proofs.Places.{ones_below_suc}
use Rattle.trie_core.proofs.Edits.{half_less, low_less, higher_bit, bit_within}
use Rattle.trie_core.proofs.Maps.{ListChanges, child_get, get-short, get-long, child_changes}
use Rattle.trie_core.proofs.Named.{is_node, child_put_in}
use Rattle.trie_core.proofs.Taken.{IsTaken, taken}
use Rattle.trie_core.proofs.Seen.{IsSeen, seen, map_of, viewed, counted, none_spare, total-set, height-set, height-read, total-append, total-all}
use Rattle.trie_core.proofs.Changes.{way, was_found, set_slots, set_removed, total-remove, childless}
use Rattle.std.proofs.lemmas.List.{take_more_set, take_at, length-take-le}

-- ---- the bits below a place

-- one place more
ones_next : (k bits : ℕ) → count_ones (bits % 2 ^ suc k) ≡ count_ones (bits % 2 ^ k) + bits / 2 ^ k % 2
ones_next zero bits = omega (arith, ones_below_suc 0 bits, no_ones bits, no_ones (bits / 2))
ones_next (suc k) bits =
    omega (arith, ones_below_suc (suc k) bits, ones_next k (bits / 2), ones_below_suc k bits, higher_bit bits k (bits / 2 ^ suc k % 2) refl)

-- the bit at the place is cleared
ones_cleared : (k bits : ℕ) → bits / 2 ^ k % 2 ≡ 1 → count_ones ((bits - 2 ^ k) % 2 ^ suc k) ≡ count_ones (bits % 2 ^ k)
ones_cleared zero bits h =
    let z : (bits - 2 ^ 0) % 2 ^ 1 ≡ 0 = omega (arith, h) in
    ap count_ones z ∙ ones_bit 0 (omega arith) ∙ sym (no_ones bits)
ones_cleared (suc k) bits h =
    let b = bit_within bits (suc k) h in
    let r = ones_cleared k (bits / 2) (higher_bit bits k 1 h) in
    let e = ap (λ n. count_ones (n % 2 ^ suc k)) (half_less bits k b) in
    omega (arith, ones_below_suc (suc k) (bits - 2 ^ suc k), e, low_less bits k b, r, ones_below_suc k bits)

module _ {X : Type 0} where
  -- ---- sums over the first children

  total_set : (f : Seen X → ℕ) (cs : List (Seen X)) (i : ℕ) (d : Seen X) → i < length cs → total f (take (i + 1) (set cs i d)) ≡ total f (take i cs) + f d
  total_set f cs i d h = omega (arith, ap (total f) (take_more_set cs i d h), total-append f (take i cs) (d ∷ []))

  -- ---- a child with the same map, or none for an empty one

  -- the map stays
  child_same : {vs : List (List Bool × X)} {cs ds : List (List Bool × Seen X)} (q : List Bool) (o : Option (Seen X)) → IsNode vs cs → IsNode vs ds → 5 ≤ length q → ListChanges cs (take 5 q) o ds → child_map o ≡ child_map (find bits_cmp (take 5 q) cs)
      → node_map vs ds ≡ node_map vs cs
  child_same {vs} {cs} {ds} q o n k h f g = same_map bits_total bits_same _ _ (child_changes child_get (λ x p. p) cs ds q o (get (node_map vs cs)) (get (node_map vs ds)) (get-long n) (get-long k) h f (λ x l. get-short k x l ∙ sym (get-short n x l)) (λ r. ap (λ m. get m r) g) (λ x p l e. refl))

  -- ---- a node that was seen as m

  -- its map is that of m, `gone` nodes went, and no child at a number below k is or holds a spare node
  pub record IsTidyBelow (m : Seen X) (k gone vb : ℕ) (vs : List X) (cb : ℕ) (cs : List (Seen X)) : Type 0 where
    pub slots : HasSlots vb vs cb cs
    pub map : map_of vb vs cb cs ≡ m.entries
    pub tidy : total spare_of (take (count_ones (cb % 2 ^ k)) cs) ≡ 0
    pub count : total all_nodes cs + gone + 1 ≡ all_nodes m
    pub height : node_height cs + 1 ≤ m.levels

  pub tidy_start : {vb : ℕ} {vs : List X} {cb : ℕ} {cs : List (Seen X)} {m : Seen X} → IsSeen vb vs cb cs m → IsTidyBelow m 0 0 vb vs cb cs
  tidy_start {cb = cb} {cs = cs} s = record {
    slots = s.slots;
    map = s.map;
    tidy = ap (λ n. total spare_of (take n cs)) (no_ones cb);
    count = omega (arith, s.count);
    height = omega (arith, s.height);
  }

  -- no child there
  pub tidy_past : {m : Seen X} {k gone vb : ℕ} {vs : List X} {cb : ℕ} {cs : List (Seen X)} → IsTidyBelow m k gone vb vs cb cs → IsUnset k cb → IsTidyBelow m (k + 1) gone vb vs cb cs
  tidy_past {k = k} {cb = cb} {cs = cs} t u =
      let e : k + 1 ≡ suc k = omega arith in
      let o : count_ones (cb % 2 ^ suc k) ≡ count_ones (cb % 2 ^ k) = omega (arith, ones_next k cb, u) in
      rw e (record { slots = t.slots; map = t.map; tidy = ap (λ n. total spare_of (take n cs)) o ∙ t.tidy; count = t.count; height = t.height })

  -- ---- the child there, which is e and becomes d with the same map

  pub slot_within : {m : Seen X} {k gone vb at : ℕ} {vs : List X} {cb : ℕ} {cs : List (Seen X)} → IsTidyBelow m k gone vb vs cb cs → k < 32 → IsSlot k cb at → at < length cs
  slot_within {k = k} {at = at} {cb = cb} {cs = cs} t l u = (taken k at cb cs l u t.slots.children_counted).within

  module _ {m : Seen X} {k gone vb at : ℕ} {vs : List X} {cb : ℕ} {cs : List (Seen X)} (e : Seen X) (t : IsTidyBelow m k gone vb vs cb cs) (l : k < 32) (u : IsSlot k cb at) (r : e ≡ get_or cs at e) where
    now : IsSeen vb vs cb cs (viewed vb vs cb cs)
    now = seen t.slots refl

    there : IsTaken (child_of (child_string k)) at cb cs
    there = way (child_string k) now (sym (child_of-string k l)) u

    five : 5 ≤ length (child_string k)
    five = omega (arith, length-child_string k)

    pub child_fewer : all_nodes e + gone < all_nodes m
    child_fewer = omega (arith, total-remove all_nodes cs at e there.within, ap all_nodes r, t.count)

    pub child_lower : e.levels < m.levels
    child_lower = omega (arith, height-read cs at e there.within, ap (λ c. c.levels) r, t.height)

    was_map : child_map (Some e) ≡ child_map (find bits_cmp (take 5 (child_string k)) (child_list cb cs))
    was_map = ap child_map (sym (was_found (child_string k) e now five there r))

    pub tidy_stays : (d : Seen X) (more : ℕ) → d.entries ≡ e.entries → spare_of d ≡ 0 → more + all_nodes d ≡ gone + all_nodes e → d.levels ≤ e.levels → IsTidyBelow m (k + 1) more vb vs cb (set cs at d)
    tidy_stays d more f z a h =
        let p : k + 1 ≡ suc k = omega arith in
        let o : count_ones (cb % 2 ^ suc k) ≡ at + 1 = omega (arith, ones_next k cb, u.0, u.1) in
        rw p (record {
          slots = set_slots (child_string k) d now there;
          map = child_same (child_string k) (Some d) now.node (is_node vb vs cb (set cs at d) t.slots.values_below t.slots.children_below) five (child_put_in (child_string k) d cb cb cs (set cs at d) five t.slots.children_below (there.written d)) (f ∙ was_map) ∙ t.map;
          tidy = omega (arith, ap (λ n. total spare_of (take n (set cs at d))) o, total_set spare_of cs at d there.within, ap (λ n. total spare_of (take n cs)) u.1, t.tidy, z);
          count = omega (arith, total-set all_nodes cs at d e there.within, ap all_nodes r, t.count, a);
          height = omega (arith, height-set cs at d, child_lower, h, t.height);
        })

    pub tidy_goes : {b : ℕ} {ds : List (Seen X)} (d : Seen X) (more : ℕ) → d.entries ≡ e.entries → d.entries ≡ empty → more ≡ gone + all_nodes e → b ≡ 2 ^ k → ds ≡ remove (set cs at d) at → IsTidyBelow m (k + 1) more vb vs (cb - b) ds
    tidy_goes {b} {ds} d more f z a p w =
        let n : k + 1 ≡ suc k = omega arith in
        let m = w ∙ set_removed cs at d in
        let q = childless (child_string k) e now five there r (p ∙ ap (λ j. 2 ^ j) (sym (child_of-string k l))) m in
        let o : count_ones ((cb - b) % 2 ^ suc k) ≡ at = ap (λ j. count_ones ((cb - j) % 2 ^ suc k)) p ∙ ones_cleared k cb u.0 ∙ sym u.1 in
        let kept = take_at (take at cs) (drop (suc at) cs) at (length-take-le at cs (omega (arith, there.within))) in
        rw n (record {
          slots = q.slots;
          map = child_same (child_string k) None now.node (is_node vb vs (cb - b) ds q.slots.values_below q.slots.children_below) five q.changes (sym z ∙ f ∙ was_map) ∙ t.map;
          tidy = omega (arith, ap (λ i. total spare_of (take i ds)) o, ap (λ es. total spare_of (take at es)) m, ap (total spare_of) kept, ap (λ i. total spare_of (take i cs)) u.1, t.tidy);
          count = omega (arith, ap (total all_nodes) m, total-remove all_nodes cs at e there.within, ap all_nodes r, t.count, a);
          height = omega (arith, q.height, t.height);
        })

  -- no child has a higher number
  pub record IsTidied (m : Seen X) (gone vb : ℕ) (vs : List X) (cb : ℕ) (cs : List (Seen X)) : Type 0 where
    pub spares : spare_set (child_list cb cs) ≡ empty
    pub count : all_nodes (viewed vb vs cb cs) + gone ≡ all_nodes m

  pub tidied : {m : Seen X} {k gone vb : ℕ} {vs : List X} {cb : ℕ} {cs : List (Seen X)} → IsTidyBelow m k gone vb vs cb cs → k ≡ 32 → IsTidied m gone vb vs cb cs
  tidied {k = k} {vb = vb} {vs = vs} {cb = cb} {cs = cs} t h =
      let w : cb % 2 ^ 32 ≡ cb = omega (arith, t.slots.children_below) in
      record {
        spares = none_spare vb vs cb cs t.slots (sym (total-all spare_of cs (count_ones (cb % 2 ^ k)) (omega (arith, ap (λ i. count_ones (cb % 2 ^ i)) h, ap count_ones w, t.slots.children_counted))) ∙ t.tidy);
        count = omega (arith, counted vb vs cb cs t.slots, t.count);
      }
