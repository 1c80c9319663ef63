-- What is left of a node: what stands first in it, and what a search leaves of it.
use Rattle.std.proofs.Common.{◌≡◌, ℕ, ◌+◌, ◌-◌, ◌*◌, ◌/◌, ◌^◌, leb, ◌<◌, ◌≤◌, Bool, true, false, cond, not, ◌&&◌, List, [], ◌∷◌, ◌++◌, length, take, drop, refl, sym, ap, subst, ◌∙◌, inl, inr, Ordering, Equal, nat_cmp, append_assoc, take-take, length-append, arith}
use Rattle.std.specs.Prelude.{Option, None, MatchOption, is_some, max, nat_lt, ⊤}
use Rattle.std.proofs.lemmas.Bool.Decides.{nat_tests}
use Rattle.std.specs.FinMap.{find, entries, get, get-entries, entries_sorted}
use Rattle.std.specs.FinMap.Entries.{where_key, find-where_key, is_sorted-where_key, same_entries}
use Rattle.ipnet_addr.proofs.Basics.{T-parts}
use Rattle.trie_core.specs.Bits.{is_from}
use Rattle.ipnet_blocks.specs.BitStrings.{bits_cmp, begins}
use Rattle.trie_core.specs.InnerPlaces.{place_of, child_of, place_string, child_string, AllBelow, named, placed, value_list, child_list, first_place_of, place_first}
use Rattle.ipnet_blocks.specs.Blocks.{digits}
use Rattle.trie_core.specs.Prefixes.{prefix_bits}
use Rattle.trie_core.specs.Nodes.{Seen, BitMap}
use Rattle.trie_core.specs.InnerNodes.{under, node_height, IsNode}
use Rattle.trie_core.specs.InnerCount.{all_nodes, total}
use Rattle.trie_core.specs.InnerWalks.{first_value, is_past, KeysWithin, levels_of, nodes_of, part_map, AreInOrder, AreParts, Left}
use Rattle.trie_core.proofs.Strings.{bits_total, bits_same, front}
use Rattle.trie_core.proofs.Maps.{child_get, get_none, get-short, get-long}
use Rattle.trie_core.proofs.Order.{walk_value, walk_child, walk_none, starts_after, values_after}
use Rattle.trie_core.proofs.Count.{things, under-append}
use Rattle.trie_core.proofs.Numbers.{place_string-place_of, child_string-child_of, place_bound, number_bound, child_of-string, length-child_string, number-take, place_strings}
use Rattle.trie_core.proofs.PlaceTables.{inside_short, inside_long, past_short, past_long, from_short, from_long, value_before}
use Rattle.trie_core.proofs.Named.{IsNaming, named_find, named_sorted, places_named, children_named, values_short, children_long, values_below, at_below, child_things}
use Rattle.trie_core.proofs.Edits.{at_sorted}
use Rattle.trie_core.proofs.Seen.{IsSeen}
use Rattle.std.proofs.lemmas.Bool.{cases_lt, cond_both}

pub under-under : {X : Type 0} (bs cs : List Bool) (es : List (List Bool × X)) → under bs (under cs es) ≡ under (bs ++ cs) es
under-under bs cs [] = refl
under-under bs cs (e ∷ es) = λ i. (sym (append_assoc bs cs e.0) i, e.1) ∷ under-under bs cs es i

pub under_none : {X : Type 0} (es : List (List Bool × X)) → under [] es ≡ es
under_none [] = refl
under_none (e ∷ es) = ap (λ ws. (e.0, e.1) ∷ ws) (under_none es)

-- nothing stands where there is no first place
pub none_first : {Y : Type 0} {ys : List (ℕ × Y)} {p : Option ℕ} → p ≡ first_place_of ys → is_some p ≡ false → ys ≡ []
none_first {ys = []} e n = refl
none_first {ys = y ∷ ys} e n = let z : is_some (first_place_of (y ∷ ys)) ≡ false = ap is_some (sym e) ∙ n in cc

module _ {X : Type 0} where
  pub keys_split : (n : ℕ) (es fs : List (List Bool × X)) → KeysWithin n (es ++ fs) → KeysWithin n es × KeysWithin n fs
  keys_split n [] fs k = (tt, k)
  keys_split n (e ∷ es) fs k = let r = keys_split n es fs k.1 in ((k.0, r.0), r.1)

  -- ---- the parts of a node

  levels_by : (cs : List (ℕ × Seen X)) → levels_of cs ≡ node_height (things (named child_string cs))
  levels_by [] = refl
  levels_by (c ∷ cs) = ap (max c.1.levels) (levels_by cs)

  nodes_by : (cs : List (ℕ × Seen X)) → nodes_of cs ≡ total all_nodes (things (named child_string cs))
  nodes_by [] = refl
  nodes_by (c ∷ cs) = ap (λ n. all_nodes c.1 + n) (nodes_by cs)

  pub are_parts : {vb : ℕ} {vs : List X} {cb : ℕ} {cs : List (Seen X)} {m : Seen X} → IsSeen vb vs cb cs m → AreParts m (placed vb vs) (placed cb cs)
  unfolding placed value_list child_list
  are_parts {vb} {vs} {cb} {cs} {m} s =
      let t = child_things cb cs s.slots.children_below s.slots.children_counted in
      record {
        order = record {
          values_rise = at_sorted 32 0 vb vs;
          values_below = values_below vb vs s.slots.values_below;
          children_rise = at_sorted 32 0 cb cs;
          children_below = at_below 32 0 32 cb cs s.slots.children_below;
        };
        map = s.map;
        levels = omega (arith, levels_by (placed cb cs), ap node_height t, s.height);
        nodes = omega (arith, nodes_by (placed cb cs), ap (total all_nodes) t, s.count);
      }

  pub same_parts : {m : Seen X} {vs ws : List (ℕ × X)} {cs ds : List (ℕ × Seen X)} → vs ≡ ws → cs ≡ ds → AreParts m ws ds → AreParts m vs cs
  same_parts {m} e f p = subst (λ (l : List (ℕ × X) × List (ℕ × Seen X)). AreParts m l.0 l.1) (λ i. (sym e i, sym f i)) p

  pub part_node : {vs : List (ℕ × X)} {cs : List (ℕ × Seen X)} → AreInOrder vs cs → IsNode (named place_string vs) (named child_string cs)
  part_node {vs} {cs} o = record {
    values_rise = named_sorted place_string 31 vs places_named o.values_below o.values_rise;
    values_short = values_short vs o.values_below;
    children_rise = named_sorted child_string 32 cs children_named o.children_below o.children_rise;
    children_long = children_long cs;
  }

  -- its entries, where the way to the node is the trail
  abbrev pub part_rest : List (ℕ × X) → List (ℕ × Seen X) → List Bool → List (List Bool × X)
  part_rest vs cs trail = under trail (entries (part_map vs cs))

  -- no key of some values and children of a node, nor the way to one of the nodes below, is longer than 128 bits
  pub record IsFrame (vs : List (ℕ × X)) (cs : List (ℕ × Seen X)) (trail : List Bool) : Type 0 where
    pub order : AreInOrder vs cs
    pub levels : length trail + 5 * levels_of cs ≤ 125
    pub keys : KeysWithin 128 (part_rest vs cs trail)

  pub is_frame : {vs : List (ℕ × X)} {cs : List (ℕ × Seen X)} {s : Left X} {w b : ℕ} (trail : List Bool) → AreInOrder vs cs → (entries (part_map vs cs), levels_of cs + 1, w, b) ≡ s → length trail + 5 * s.1 ≤ 130 → KeysWithin 128 (under trail s.0) → IsFrame vs cs trail
  is_frame trail o e l k = record { order = o; levels = omega (arith, l, ap (λ s. s.1) e); keys = subst (λ es. KeysWithin 128 (under trail es)) (sym (ap (λ s. s.0) e)) k }

  -- ---- what stands first

  -- the first value is next
  pub record IsValueNext (vs ws : List (ℕ × X)) (cs : List (ℕ × Seen X)) (trail : List Bool) (place : ℕ) (value : X) : Type 0 where
    pub within : length trail + length (place_string place) ≤ 128
    pub frame : IsFrame ws cs trail
    pub rest : part_rest vs cs trail ≡ (trail ++ place_string place, value) ∷ part_rest ws cs trail

  pub value_next : {vs ws : List (ℕ × X)} {cs : List (ℕ × Seen X)} {trail : List Bool} {place : ℕ} {value : X} → IsFrame vs cs trail → vs ≡ (place, value) ∷ ws → first_value (named place_string vs) (named child_string cs) ≡ true → IsValueNext vs ws cs trail place value
  value_next {vs} {ws} {cs} {trail} {place} {value} f e h =
      let o : AreInOrder ((place, value) ∷ ws) cs = subst (λ us. AreInOrder us cs) e f.order in
      let n = part_node o in
      let b = ap (λ us. first_value (named place_string us) (named child_string cs)) (sym e) ∙ h in
      let r : part_rest vs cs trail ≡ (trail ++ place_string place, value) ∷ part_rest ws cs trail =
      ap (λ us. part_rest us cs trail) e ∙ ap (under trail) (walk_value n (starts_after (place_string place, value) (named place_string ws) (named child_string cs) b)) in
      let k = subst (KeysWithin 128) r f.keys in
      record {
        within = omega (arith, k.0, length-append trail (place_string place));
        frame = record {
          order = record { values_rise = (T-parts _ _ o.values_rise).1; values_below = o.values_below.1; children_rise = o.children_rise; children_below = o.children_below };
          levels = f.levels;
          keys = k.1;
        };
        rest = r;
      }

  -- the first child is next
  pub record IsChildNext (vs : List (ℕ × X)) (cs ds : List (ℕ × Seen X)) (trail : List Bool) (child : ℕ) (m : Seen X) : Type 0 where
    pub within : length trail + 5 ≤ 128
    pub frame : IsFrame vs ds trail
    pub rest : part_rest vs cs trail ≡ under (trail ++ child_string child) (entries m.entries) ++ part_rest vs ds trail
    pub less : (m.levels ≤ levels_of cs) × (levels_of ds ≤ levels_of cs) × (all_nodes m + nodes_of ds ≡ nodes_of cs)

  pub child_next : {vs : List (ℕ × X)} {cs ds : List (ℕ × Seen X)} {trail : List Bool} {child : ℕ} {m : Seen X} → IsFrame vs cs trail → cs ≡ (child, m) ∷ ds → first_value (named place_string vs) (named child_string cs) ≡ false → 1 ≤ m.levels → IsChildNext vs cs ds trail child m
  child_next {vs} {cs} {ds} {trail} {child} {m} f e h l =
      let o : AreInOrder vs ((child, m) ∷ ds) = subst (λ us. AreInOrder vs us) e f.order in
      let n = part_node o in
      let b = ap (λ us. first_value (named place_string vs) (named child_string us)) (sym e) ∙ h in
      let r : part_rest vs cs trail ≡ under (trail ++ child_string child) (entries m.entries) ++ part_rest vs ds trail =
      ap (λ us. part_rest vs us trail) e
      ∙ ap (under trail) (walk_child n (values_after (named place_string vs) (child_string child, m) (named child_string ds) n b))
      ∙ under-append trail (under (child_string child) (entries m.entries)) (entries (part_map vs ds))
      ∙ ap (λ es. es ++ part_rest vs ds trail) (under-under trail (child_string child) (entries m.entries)) in
      let k = keys_split 128 (under (trail ++ child_string child) (entries m.entries)) (part_rest vs ds trail) (subst (KeysWithin 128) r f.keys) in
      let levels : levels_of cs ≡ max m.levels (levels_of ds) = ap levels_of e in
      record {
        within = omega (arith, f.levels, levels, l);
        frame = record {
          order = record { values_rise = o.values_rise; values_below = o.values_below; children_rise = (T-parts _ _ o.children_rise).1; children_below = o.children_below.1 };
          levels = omega (arith, f.levels, levels);
          keys = k.1;
        };
        rest = r;
        less = (omega (arith, levels), omega (arith, levels), sym (ap nodes_of e));
      }

  no_values : (vs : List (ℕ × X)) → first_value {Y = Seen X} (named place_string vs) [] ≡ false → vs ≡ []
  no_values [] h = refl
  no_values (e ∷ vs) h = cc

  pub nothing_next : (vs : List (ℕ × X)) {cs : List (ℕ × Seen X)} (trail : List Bool) → cs ≡ [] → first_value (named place_string vs) (named child_string cs) ≡ false → part_rest vs cs trail ≡ []
  nothing_next vs {cs} trail e h =
      let v = no_values vs (ap (λ us. first_value (named place_string vs) (named child_string us)) (sym e) ∙ h) in
      (λ i. part_rest (v i) (e i) trail) ∙ ap (under trail) walk_none

-- ---- what a search leaves

pub nat_alike : (p : ℕ → Bool) (n x : ℕ) → nat_cmp n x ≡ Equal → p x ≡ p n
nat_alike p n x e = let z : x ≡ n = grind (arith, nat_tests) in ap p z

pub bits_alike : (p : List Bool → Bool) (q x : List Bool) → bits_cmp q x ≡ Equal → p x ≡ p q
bits_alike p q x e = ap p (sym (bits_same q x e))

pub found_where : {X : Type 0} (m : BitMap X) (f : List Bool → Bool) (x : List Bool) → find bits_cmp x (where_key bits_cmp f (entries m)) ≡ cond (f x) (get m x) None
found_where m f x = find-where_key bits_cmp f x (bits_alike f x) (entries m) ∙ ap (λ o. cond (f x) o None) (sym (get-entries m x))

-- p tells of a key what f tells of its place in the node, or g of the child on its way
pub record IsTold (p : List Bool → Bool) (f g : ℕ → Bool) : Type 0 where
  pub short : (q : List Bool) → length q < 5 → p q ≡ f (place_of q)
  pub long : (q : List Bool) → 5 ≤ length q → p q ≡ g (child_of q)

pub where_twice : {K Y : Type 0} (R : K → K → Ordering) (p q : K → Bool) (es : List (K × Y)) → where_key R p (where_key R q es) ≡ where_key R (λ k. q k && p k) es
where_twice R p q [] = refl
where_twice R p q (e ∷ es) = grind (arith, where_twice R p q es)

module _ {Y : Type 0} where
  below_where : (w : ℕ) (p : ℕ → Bool) (es : List (ℕ × Y)) → AllBelow w es → AllBelow w (where_key nat_cmp p es)
  below_where w p [] b = tt
  below_where w p (e ∷ es) b = cond_both (p e.0) _ _ (AllBelow w) (λ _. (b.0, below_where w p es b.1)) (λ _. below_where w p es b.1)

  named_where : (f : ℕ → List Bool) (w n : ℕ) (p : ℕ → Bool) (es : List (ℕ × Y)) → IsNaming f w → n < w → AllBelow w es → find bits_cmp (f n) (named f (where_key nat_cmp p es)) ≡ cond (p n) (find bits_cmp (f n) (named f es)) None
  named_where f w n p es a h b =
      named_find f w n (where_key nat_cmp p es) a h (below_where w p es b) ∙ find-where_key nat_cmp p n (nat_alike p n) es
      ∙ ap (λ o. cond (p n) o None) (sym (named_find f w n es a h b))

  pub keys_where : (n : ℕ) (trail : List Bool) (p : List Bool → Bool) (es : List (List Bool × Y)) → KeysWithin n (under trail es) → KeysWithin n (under trail (where_key bits_cmp p es))
  keys_where n trail p [] k = tt
  keys_where n trail p (e ∷ es) k = cond_both (p e.0) _ _ (λ ys. KeysWithin n (under trail ys)) (λ _. (k.0, keys_where n trail p es k.1)) (λ _. keys_where n trail p es k.1)

pub inside_told : (q : List Bool) → length q < 5 → IsTold (begins q) (λ k. not (nat_lt k (place_of q)) && nat_lt k (place_of q + 31 / 2 ^ length q)) (λ k. not (nat_lt k (child_of q)) && nat_lt k (child_of q + 32 / 2 ^ length q))
inside_told q h = record { short = λ r s. inside_short q r h s; long = λ r s. inside_long q r h s }

module _ {X : Type 0} where
  levels_where : (p : ℕ → Bool) (cs : List (ℕ × Seen X)) → levels_of (where_key nat_cmp p cs) ≤ levels_of cs
  levels_where p [] = omega arith
  levels_where p (c ∷ cs) = grind (arith, levels_where p cs)

  pub order_where : (f g : ℕ → Bool) {vs : List (ℕ × X)} {cs : List (ℕ × Seen X)} → AreInOrder vs cs → AreInOrder (where_key nat_cmp f vs) (where_key nat_cmp g cs)
  order_where f g {vs} {cs} o = record {
    values_rise = is_sorted-where_key nat_cmp f vs o.values_rise;
    values_below = below_where 31 f vs o.values_below;
    children_rise = is_sorted-where_key nat_cmp g cs o.children_rise;
    children_below = below_where 32 g cs o.children_below;
  }

  kept_child : (b : Bool) (o : Option (Seen X)) (r : List Bool) → child_get (cond b o None) r ≡ cond b (child_get o r) None
  kept_child true o r = refl
  kept_child false o r = get_none r

  part_get : {p : List Bool → Bool} (f g : ℕ → Bool) {vs : List (ℕ × X)} {cs : List (ℕ × Seen X)} → AreInOrder vs cs → IsTold p f g → (q : List Bool) → get (part_map (where_key nat_cmp f vs) (where_key nat_cmp g cs)) q ≡ cond (p q) (get (part_map vs cs) q) None
  part_get {p} f g {vs} {cs} o t q = elim (cases_lt (length q) 5) [
    | inl l ↦
        let e = place_string-place_of q l in
        get-short (part_node (order_where f g o)) q l
        ∙ ap (λ s. find bits_cmp s (named place_string (where_key nat_cmp f vs))) (sym e)
        ∙ named_where place_string 31 (place_of q) f vs places_named (omega (arith, place_bound 5 q l)) o.values_below
        ∙ (λ i. cond (sym (t.short q l) i) (find bits_cmp (e i) (named place_string vs)) None)
        ∙ ap (λ r. cond (p q) r None) (sym (get-short (part_node o) q l))
    | inr l ↦
        let e = child_string-child_of q l in
        get-long (part_node (order_where f g o)) q l
        ∙ ap (λ s. child_get (find bits_cmp s (named child_string (where_key nat_cmp g cs))) (drop 5 q)) (sym e)
        ∙ ap (λ r. child_get r (drop 5 q)) (named_where child_string 32 (child_of q) g cs children_named (number_bound 5 q) o.children_below)
        ∙ kept_child (g (child_of q)) (find bits_cmp (child_string (child_of q)) (named child_string cs)) (drop 5 q)
        ∙ (λ i. cond (sym (t.long q l) i) (child_get (find bits_cmp (e i) (named child_string cs)) (drop 5 q)) None)
        ∙ ap (λ r. cond (p q) r None) (sym (get-long (part_node o) q l))
  ]

  -- the entries of some values and children are those of the keys that p tells
  pub part_where : {p : List Bool → Bool} (f g : ℕ → Bool) {vs : List (ℕ × X)} {cs : List (ℕ × Seen X)} → AreInOrder vs cs → IsTold p f g → entries (part_map (where_key nat_cmp f vs) (where_key nat_cmp g cs)) ≡ where_key bits_cmp p (entries (part_map vs cs))
  part_where {p} f g {vs} {cs} o t =
      same_entries bits_cmp bits_total bits_same _ _ (entries_sorted (part_map (where_key nat_cmp f vs) (where_key nat_cmp g cs)))
      (is_sorted-where_key bits_cmp p (entries (part_map vs cs)) (entries_sorted (part_map vs cs)))
      (λ q. sym (get-entries (part_map (where_key nat_cmp f vs) (where_key nat_cmp g cs)) q) ∙ part_get f g o t q ∙ sym (found_where (part_map vs cs) p q))

  -- the values and children of the keys that p tells of the node that is seen as m
  pub record IsPart (p : List Bool → Bool) (m : Seen X) (vs : List (ℕ × X)) (cs : List (ℕ × Seen X)) : Type 0 where
    pub order : AreInOrder vs cs
    pub rest : entries (part_map vs cs) ≡ where_key bits_cmp p (entries m.entries)
    pub levels : levels_of cs + 1 ≤ m.levels

  pub part_left : {p : List Bool → Bool} (f g : ℕ → Bool) {m : Seen X} {vs : List (ℕ × X)} {cs : List (ℕ × Seen X)} → AreParts m vs cs → IsTold p f g → IsPart p m (where_key nat_cmp f vs) (where_key nat_cmp g cs)
  part_left {p} f g {cs = cs} a t = record {
    order = order_where f g a.order;
    rest = part_where f g a.order t ∙ ap (λ n. where_key bits_cmp p (entries n)) a.map;
    levels = omega (arith, levels_where g cs, a.levels);
  }

  -- ---- the keys that begin with a short string

  pub inside_part : {m : Seen X} {vs : List (ℕ × X)} {cs : List (ℕ × Seen X)} (q : List Bool) {len place child : ℕ} {vs1 vs2 : List (ℕ × X)} {cs1 cs2 : List (ℕ × Seen X)}
      → AreParts m vs cs → length q < 5 → len ≡ length q → place ≡ place_of q → child ≡ child_of q
      → vs1 ≡ where_key nat_cmp (λ k. not (nat_lt k place)) vs → vs2 ≡ where_key nat_cmp (λ k. nat_lt k (place + 31 / 2 ^ len)) vs1
      → cs1 ≡ where_key nat_cmp (λ k. not (nat_lt k child)) cs → cs2 ≡ where_key nat_cmp (λ k. nat_lt k (child + 32 / 2 ^ len)) cs1 → IsPart (begins q) m vs2 cs2
  inside_part {m} {vs} {cs} q {len} {place} {child} {vs1} {vs2} {cs1} {cs2} a h e ep ec v1 v2 c1 c2 =
      let f : ℕ → Bool = λ k. not (nat_lt k (place_of q)) && nat_lt k (place_of q + 31 / 2 ^ length q) in
      let g : ℕ → Bool = λ k. not (nat_lt k (child_of q)) && nat_lt k (child_of q + 32 / 2 ^ length q) in
      let v : vs2 ≡ where_key nat_cmp f vs =
      v2 ∙ ap (where_key nat_cmp (λ k. nat_lt k (place + 31 / 2 ^ len))) v1 ∙ where_twice nat_cmp (λ k. nat_lt k (place + 31 / 2 ^ len)) (λ k. not (nat_lt k place)) vs
      ∙ (λ i. where_key nat_cmp (λ k. not (nat_lt k (ep i)) && nat_lt k (ep i + 31 / 2 ^ e i)) vs) in
      let d : cs2 ≡ where_key nat_cmp g cs =
      c2 ∙ ap (where_key nat_cmp (λ k. nat_lt k (child + 32 / 2 ^ len))) c1 ∙ where_twice nat_cmp (λ k. nat_lt k (child + 32 / 2 ^ len)) (λ k. not (nat_lt k child)) cs
      ∙ (λ i. where_key nat_cmp (λ k. not (nat_lt k (ec i)) && nat_lt k (ec i + 32 / 2 ^ e i)) cs) in
      subst (λ (x : List (ℕ × X) × List (ℕ × Seen X)). IsPart (begins q) m x.0 x.1) (λ i. (sym v i, sym d i))
      (part_left f g a (inside_told q h))

  -- ---- the keys after those that begin with five bits, and those from a short string on

  pub past_part : {m : Seen X} {vs ws : List (ℕ × X)} {cs ds : List (ℕ × Seen X)} (q : List Bool) {place five : ℕ}
      → AreParts m vs cs → 5 ≤ length q → place ≡ place_of (take 4 q) + 1 → five ≡ child_of q
      → ws ≡ where_key nat_cmp (λ k. not (nat_lt k place)) vs → ds ≡ where_key nat_cmp (λ k. not (nat_lt k (five + 1))) cs → IsPart (is_past (take 5 q)) m ws ds
  past_part {m} {vs} {cs = cs} q a h ep ec w d =
      let b = take 5 q in
      let five : length b ≡ 5 = (front q h).0 in
      let f : ℕ → Bool = λ k. not (nat_lt k (place_of (take 4 b) + 1)) in
      let g : ℕ → Bool = λ k. not (nat_lt k (child_of b + 1)) in
      let v = w ∙ (λ i. where_key nat_cmp (λ k. not (nat_lt k ((ep ∙ ap (λ s. place_of s + 1) (sym (take-take 4 5 q (omega arith)))) i))) vs) in
      let c = d ∙ (λ i. where_key nat_cmp (λ k. not (nat_lt k ((ec ∙ sym (number-take 5 q)) i + 1))) cs) in
      subst (λ (x : List (ℕ × X) × List (ℕ × Seen X)). IsPart (is_past b) m x.0 x.1) (λ i. (sym v i, sym c i))
      (part_left f g a (record { short = λ r s. past_short b r five s; long = λ r s. past_long b r five s }))

  pub onwards_part : {m : Seen X} {vs ws : List (ℕ × X)} {cs ds : List (ℕ × Seen X)} (q : List Bool) (inclusive : Bool) {place five : ℕ}
      → AreParts m vs cs → length q < 5 → place ≡ cond inclusive (place_of q) (place_of q + 1) → five ≡ child_of q
      → ws ≡ where_key nat_cmp (λ k. not (nat_lt k place)) vs → ds ≡ where_key nat_cmp (λ k. not (nat_lt k five)) cs → IsPart (is_from q inclusive) m ws ds
  onwards_part {m} {vs} {cs = cs} q inclusive a h ep ec w d =
      let f : ℕ → Bool = λ k. not (nat_lt k (cond inclusive (place_of q) (place_of q + 1))) in
      let g : ℕ → Bool = λ k. not (nat_lt k (child_of q)) in
      let v = w ∙ (λ i. where_key nat_cmp (λ k. not (nat_lt k (ep i))) vs) in
      let c = d ∙ (λ i. where_key nat_cmp (λ k. not (nat_lt k (ec i))) cs) in
      subst (λ (x : List (ℕ × X) × List (ℕ × Seen X)). IsPart (is_from q inclusive) m x.0 x.1) (λ i. (sym v i, sym c i))
      (part_left f g a (record { short = λ r s. from_short inclusive q r h s; long = λ r s. from_long inclusive q r h s }))

  -- ---- which comes first

  value_is_first : {Y : Type 0} (v : ℕ × X) (c : ℕ × Y) → v.0 < 31 → c.0 < 32 → leb (child_of (place_string v.0)) c.0 ≡ first_value (named place_string (v ∷ [])) (named child_string (c ∷ []))
  value_is_first v c l h =
      let z : child_of (child_string c.0) ≡ c.0 = child_of-string c.0 h in
      ap (leb (child_of (place_string v.0))) (sym z) ∙ value_before (place_string v.0) (child_string c.0) (place_strings v.0 l).short (length-child_string c.0)

  first_by_places : {Y : Type 0} (vs : List (ℕ × X)) (cs : List (ℕ × Y)) → AllBelow 31 vs → AllBelow 32 cs → first_value (named place_string vs) (named child_string cs) ≡ place_first (first_place_of vs) (first_place_of cs)
  first_by_places [] cs b d = refl
  first_by_places (v ∷ vs) [] b d = refl
  first_by_places (v ∷ vs) (c ∷ cs) b d = sym (value_is_first v c b.0 d.0)

  pub first_told : {vs : List (ℕ × X)} {cs : List (ℕ × Seen X)} {p q : Option ℕ} {b : Bool} → AreInOrder vs cs → p ≡ first_place_of vs → q ≡ first_place_of cs → b ≡ place_first p q → first_value (named place_string vs) (named child_string cs) ≡ b
  first_told {vs} {cs} o e f h = first_by_places vs cs o.values_below o.children_below ∙ (λ i. place_first (sym e i) (sym f i)) ∙ sym h

  pub place_within : (vs : List (ℕ × X)) {p : Option ℕ} → AllBelow 31 vs → p ≡ first_place_of vs → MatchOption p ⊤ (λ n. n < 31)
  place_within [] b e = subst (λ o. MatchOption o ⊤ (λ n. n < 31)) (sym e) tt
  place_within (v ∷ vs) b e = subst (λ o. MatchOption o ⊤ (λ n. n < 31)) (sym e) b.0

  -- the only value of a node without children
  pub record IsOnly (vs : List (ℕ × X)) (cs : List (ℕ × Seen X)) (trail : List Bool) (place : ℕ) (value : X) : Type 0 where
    pub within : length trail + length (place_string place) ≤ 128
    pub rest : part_rest vs cs trail ≡ (trail ++ place_string place, value) ∷ []

  pub only_value : {vs : List (ℕ × X)} {cs : List (ℕ × Seen X)} {trail : List Bool} {place : ℕ} {value : X} → IsFrame vs cs trail → vs ≡ (place, value) ∷ [] → cs ≡ [] → IsOnly vs cs trail place value
  only_value {vs} {cs} {trail} {place} {value} f e n =
      let first : first_value (named place_string vs) (named child_string cs) ≡ true = λ i. first_value (named place_string (e i)) (named child_string (n i)) in
      let none : first_value {X = X} (named place_string []) (named child_string cs) ≡ false = refl in
      let v = value_next f e first in
      record { within = v.within; rest = v.rest ∙ ap (λ es. (trail ++ place_string place, value) ∷ es) (nothing_next [] trail n none) }

pub child_bits : (child : ℕ) → prefix_bits 5 child 5 ≡ child_string child
unfolding child_string
child_bits child = let z : child / 2 ^ (5 - 5) ≡ child = omega arith in ap (digits 5) z

pub value_key : {key : List Bool} (trail : List Bool) (place number : ℕ) {len : ℕ} → key ≡ trail ++ prefix_bits 5 number len → len ≡ length (place_string place) → prefix_bits 5 number (length (place_string place)) ≡ place_string place → key ≡ trail ++ place_string place
value_key trail place number e l b = e ∙ ap (λ n. trail ++ prefix_bits 5 number n) l ∙ ap (λ s. trail ++ s) b
