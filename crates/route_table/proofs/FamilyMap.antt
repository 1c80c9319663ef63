-- The entries of a map of bit strings, and the networks of the map of one side.
use Rattle.std.proofs.Common.{◌≡◌, inl, inr, Bool, List, [], ◌∷◌, length, ◌≤◌, map, Some, refl, sym, ap, ◌∙◌, subst, Less, ⊎_elim, true, false, cond, ◌++◌, Option, None, T, is_lt, is_eq, length-append, arith}
use Rattle.std.specs.FinMap.{empty, entries, entries_sorted, get, get-empty, find, is_sorted, entries-from_sorted, from_sorted, get-entries, get-from_sorted, same_map}
use Rattle.ipnet_addr.specs.Addresses.{Family, width}
use Rattle.ipnet_blocks.specs.BitStrings.{bits_cmp, begins}
use Rattle.ipnet_blocks.specs.Blocks.{IsBlock, IsBefore, bit_string}
use Rattle.ipnet_addr.proofs.Members.{In}
use Rattle.ipnet_addr.proofs.Ascending.{Rising, All-from_In, same_rising, Rising-from_pairs}
use Rattle.ipnet_blocks.proofs.BlockLaws.{strict}
use Rattle.ipnet_blocks.proofs.Order.{order_of_strings}
use Rattle.trie_core.specs.Nodes.{BitMap}
use Rattle.route_choices.specs.Choices.{Choice}
use Rattle.route_choices.proofs.Kept.{In-map, map_In}
use Rattle.route_table.specs.InnerFamilyTables.{block_at, route_at, stored_at, stored_in, IsStored, IsFamilyTable}
use Rattle.route_laws.specs.Networks.{Stored, IsStoredTable, routes_of}
use Rattle.route_laws.proofs.Matches.{Earlier}
use Rattle.route_table.proofs.Strings.{string_of_block, block_at_is_block, block_of_string, string_or_not}
use Rattle.std.specs.FinMap.Entries.{below_all, find-where_key, is_sorted-where_key, where_key}
use Rattle.std.proofs.lemmas.Option.{same_Some}
use Rattle.ipnet_addr.proofs.Basics.{T-parts, less_from_T}
use Rattle.ipnet_blocks.proofs.BitStrings.{begins_on}
use Rattle.trie_core.specs.Inside.{NothingInside}
use Rattle.trie_core.proofs.Leaves.{goes_on}
use Rattle.trie_core.proofs.Strings.{bits_same, bits_total, same, same-Decides, same-refl, same_false}
use Rattle.route_laws.proofs.Networks.{stored_table_of}

apart : (s : List Bool) → bits_cmp s s ≡ Less → ⊥
apart s e = let f = sym (ap is_eq e) ∙ same-refl s in cc

module _ {X : Type 0} where
  abbrev pub KeysRise : List Bool × X → List Bool × X → Type 0
  KeysRise d e = bits_cmp d.0 e.0 ≡ Less

  below : (x : List Bool) (es : List (List Bool × X)) → T (below_all bits_cmp x es) → (e : List Bool × X) → In e es → bits_cmp x e.0 ≡ Less
  below x [] h e i = absurd i
  below x (d ∷ es) h e i =
      let p = T-parts (is_lt (bits_cmp x d.0)) (below_all bits_cmp x es) h in
      ⊎_elim (λ q. ap (λ (c : List Bool × X). bits_cmp x c.0) q ∙ less_from_T (bits_cmp x d.0) p.0) (λ j. below x es p.1 e j) i

  pub rising : (es : List (List Bool × X)) → T (is_sorted bits_cmp es) → Rising KeysRise es
  rising [] h = tt
  rising (e ∷ es) h =
      let p = T-parts (below_all bits_cmp e.0 es) (is_sorted bits_cmp es) h in
      (below e.0 es p.0, rising es p.1)

  pub in_from_find : (q : List Bool) (v : X) (es : List (List Bool × X)) → find bits_cmp q es ≡ Some v → In (q, v) es
  in_from_find q v [] e = absurd (cc)
  in_from_find q v (d ∷ es) e = go (same q d.0) refl e (in_from_find q v es)
    where
      go : (b : Bool) → same q d.0 ≡ b → cond b (Some d.1) (find bits_cmp q es) ≡ Some v → (find bits_cmp q es ≡ Some v → In (q, v) es) → In (q, v) (d ∷ es)
      go true t f more = let k = (same-Decides q d.0).0 t in let w = same_Some d.1 v f in inl (λ i. (k i, sym w i))
      go false t f more = inr (more f)

  pub find_from_in : (q : List Bool) (v : X) (es : List (List Bool × X)) → Rising KeysRise es → In (q, v) es → find bits_cmp q es ≡ Some v
  find_from_in q v [] h i = absurd i
  find_from_in q v (d ∷ es) h i = ⊎_elim
      (λ e. ap (λ b. cond b (Some d.1) (find bits_cmp q es)) ((same-Decides q d.0).1 (ap (λ (c : List Bool × X). c.0) e)) ∙ ap (λ (c : List Bool × X). Some c.1) (sym e))
      (λ j. ap (λ b. cond b (Some d.1) (find bits_cmp q es)) (same_false q d.0 (λ e. apart q (ap (λ s. bits_cmp s q) e ∙ h.0 (q, v) j))) ∙ find_from_in q v es h.1 j)
      i

  -- the entries are what `get` answers
  pub in_entries : (m : BitMap X) (q : List Bool) (v : X) → get m q ≡ Some v → In (q, v) (entries m)
  in_entries m q v e = in_from_find q v (entries m) (sym (get-entries m q) ∙ e)

  pub get_of : (m : BitMap X) (q : List Bool) (v : X) → In (q, v) (entries m) → get m q ≡ Some v
  get_of m q v i = get-entries m q ∙ find_from_in q v (entries m) (rising (entries m) (entries_sorted m)) i

  -- nothing is strictly inside s
  pub only_itself : (m : BitMap X) (s : List Bool) → NothingInside m s → (e : List Bool × X) → In e (entries m) → begins s e.0 ≡ true → e.0 ≡ s
  only_itself m s none e i b = ⊎_elim
      (λ q. q)
      (λ q. let g = goes_on s e.0 b (λ z. q (sym z)) in absurd (let z = sym (get_of m e.0 e.1 i) ∙ ap (get m) (sym g.2) ∙ none g.0 g.1 in cc))
      (string_or_not e.0 s)

  pub nothing_inside : (m : BitMap X) (s : List Bool) → ((e : List Bool × X) → In e (entries m) → begins s e.0 ≡ true → e.0 ≡ s) → NothingInside m s
  nothing_inside m s only b k = go (get m (s ++ b ∷ k)) refl
    where
      go : (o : Option X) → get m (s ++ b ∷ k) ≡ o → o ≡ None
      go None e = refl
      go (Some v) e = absurd (omega (arith, ap length (only (s ++ b ∷ k, v) (in_entries m (s ++ b ∷ k) v e) (begins_on s (b ∷ k))), length-append s (b ∷ k)))

  -- a map that keeps the keys that pass a test
  pub kept_entries : (m n : BitMap X) (p : List Bool → Bool) → ((s : List Bool) → get n s ≡ cond (p s) (get m s) None) → entries n ≡ where_key bits_cmp p (entries m)
  kept_entries m n p at =
      let sorted = is_sorted-where_key bits_cmp p (entries m) (entries_sorted m) in
      ap entries (same_map bits_total bits_same n (from_sorted (where_key bits_cmp p (entries m))) (λ s.
      at s ∙ ap (λ o. cond (p s) o None) (get-entries m s) ∙ sym (find-where_key bits_cmp p s (λ x e. ap p (sym (bits_same s x e))) (entries m)) ∙ sym (get-from_sorted bits_cmp (where_key bits_cmp p (entries m)) s sorted)))
      ∙ entries-from_sorted bits_cmp (where_key bits_cmp p (entries m)) sorted

-- ---- the networks of a side

-- the map has the network
pub record HasStored (f : Family) (m : BitMap (List Choice)) (s : Stored) : Type 0 where
  pub family : s.block.family ≡ f
  pub block : IsBlock s.block
  pub stored : get m (bit_string s.block) ≡ Some s.choices

pub stored_path : (s t : Stored) → s.block ≡ t.block → s.choices ≡ t.choices → s ≡ t
stored_path s t p q = λ i. record { block = p i; choices = q i }

-- the best routes of entries
pub routes_at : (f : Family) (es : List (List Bool × List Choice)) → map (route_at f) es ≡ routes_of (map (stored_at f) es)
routes_at f [] = refl
routes_at f (e ∷ es) = ap (λ rs. route_at f e ∷ rs) (routes_at f es)

module _ (f : Family) (m : BitMap (List Choice)) (ok : IsStored f m) where
  pub has_stored : (s : Stored) → In s (stored_in f m) → HasStored f m s
  has_stored s i =
      let t = In-map (stored_at f) (entries m) s i in
      let g : get m t.0.0 ≡ Some t.0.1 = get_of m t.0.0 t.0.1 t.1 in
      subst (λ (u : Stored). HasStored f m u) (sym t.2) (record { family = refl; block = block_at_is_block f t.0.0 (ok.within t.0.0 t.0.1 g); stored = ap (get m) (string_of_block f t.0.0) ∙ g })

  pub in_side : (s : Stored) → HasStored f m s → In s (stored_in f m)
  in_side s h =
      subst (λ (u : Stored). In u (stored_in f m)) (stored_path (stored_at f (bit_string s.block, s.choices)) s (ap (λ g. block_at g (bit_string s.block)) (sym h.family) ∙ block_of_string s.block h.block) refl)
      (map_In (stored_at f) (entries m) (bit_string s.block, s.choices) (in_entries m (bit_string s.block) s.choices h.stored))

  networks_rise : (es : List (List Bool × List Choice)) → ((e : List Bool × List Choice) → In e es → length e.0 ≤ width f) → Rising KeysRise es → Rising (Earlier Stored.block) (map (stored_at f) es)
  networks_rise [] w h = tt
  networks_rise (e ∷ es) w h = (
    (λ s i. let t = In-map (stored_at f) es s i in
        subst (λ (u : Stored). IsBefore (block_at f e.0) u.block) (sym t.2)
        ((order_of_strings (block_at f e.0) (block_at f t.0.0) (block_at_is_block f e.0 (w e (inl refl))) (block_at_is_block f t.0.0 (w t.0 (inr t.1))) refl).1
        (subst (λ s. bits_cmp s (bit_string (block_at f t.0.0)) ≡ Less) (sym (string_of_block f e.0))
        (subst (λ s. bits_cmp e.0 s ≡ Less) (sym (string_of_block f t.0.0)) (h.0 t.0 t.1))))),
    networks_rise es (λ d i. w d (inr i)) h.1,
  )

  side_rises : Rising (Earlier Stored.block) (stored_in f m)
  side_rises = networks_rise (entries m) (λ e i. ok.within e.0 e.1 (get_of m e.0 e.1 i)) (rising (entries m) (entries_sorted m))

  -- the list of networks is a table of the family
  pub is_side : IsFamilyTable f (stored_in f m)
  is_side = record {
    table = stored_table_of (stored_in f m) (λ s i. let h = has_stored s i in (h.block, ok.some (bit_string s.block) s.choices h.stored, ok.choices (bit_string s.block) s.choices h.stored)) side_rises;
    family = All-from_In (λ s. s.block.family ≡ f) (stored_in f m) (λ s i. (has_stored s i).family);
  }

  pub seen_side : (T : List Stored) → stored_in f m ≡ T → IsFamilyTable f T
  seen_side T is = subst (IsFamilyTable f) is is_side

  -- it is the one table with these members
  pub side_is : (N : List Stored) → IsStoredTable N → ((s : Stored) → HasStored f m s → In s N) → ((s : Stored) → In s N → HasStored f m s) → stored_in f m ≡ N
  side_is N t to from = same_rising (Earlier Stored.block) (λ r s. strict r.block s.block) (stored_in f m) N side_rises (Rising-from_pairs (Earlier Stored.block) N t.ascending)
      (λ s i. to s (has_stored s i)) (λ s i. in_side s (from s i))

pub no_networks : IsStoredTable []
no_networks = stored_table_of [] (λ s i. absurd i) tt

module _ (f : Family) (m : BitMap (List Choice)) (e : m ≡ empty) where
  no_entry : (s : List Bool) (cs : List Choice) → get m s ≡ Some cs → ⊥
  no_entry s cs g = let h = sym g ∙ ap (λ n. get n s) e ∙ get-empty bits_cmp s in cc

  pub empty_is_stored : IsStored f m
  empty_is_stored = record { within = λ s k g. absurd (no_entry s k g); choices = λ s k g. absurd (no_entry s k g); some = λ s k g. absurd (no_entry s k g) }

  pub empty_side : stored_in f m ≡ []
  empty_side = side_is f m empty_is_stored [] no_networks
      (λ s h. absurd (no_entry (bit_string s.block) s.choices h.stored))
      (λ s i. absurd i)
