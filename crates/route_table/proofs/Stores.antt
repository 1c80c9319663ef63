-- Changes of a side's map, as changes of its networks.
use Rattle.std.proofs.Common.{◌≡◌, ◌≤◌, ◌⊎◌, inl, inr, ⊎_elim, Bool, true, false, cond, not, List, [], ◌∷◌, filter, length, map, Option, Some, None, IsSome, refl, sym, ap, ◌∙◌, subst, ℕ, take, take_all, arith}
use Rattle.std.specs.FinMap.{entries, get, insert, remove, get-insert, get-remove, get-retain_keys}
use Rattle.std.proofs.lemmas.Option.{same_Some}
use Rattle.ipnet_addr.specs.Addresses.{Family, width}
use Rattle.ipnet_blocks.specs.BitStrings.{begins}
use Rattle.ipnet_blocks.specs.Blocks.{Block, IsBlock, bit_string, is_inside, same_block}
use Rattle.ipnet_addr.proofs.Members.{In}
use Rattle.ipnet_blocks.proofs.BlockTests.{same_from_test, test_from_same}
use Rattle.trie_core.specs.Inside.{outside}
use Rattle.trie_core.specs.Nodes.{BitMap}
use Rattle.trie_core.proofs.Strings.{bits_same, bits_total, not_same, same, same-Decides, same-refl, same_false}
use Rattle.route_choices.specs.Choices.{Choice, AreChoices, best_hop}
use Rattle.route_choices.proofs.Kept.{filter_map_swap, same_kept}
use Rattle.route_table.specs.InnerFamilyTables.{IsStored, stored_at, stored_in}
use Rattle.route_laws.specs.Networks.{Stored, IsStoredTable, choices_at, networks_outside, with_choices, with_stored, without_stored, routes_of}
use Rattle.route_table.proofs.Searches.{at_key}
use Rattle.route_laws.proofs.Matches.{bools_same, put_back, put_itself, put_other}
use Rattle.route_laws.proofs.Networks.{with_is, put_same, number_of_choices}
use Rattle.route_table.proofs.FamilyMap.{get_of, kept_entries, HasStored, has_stored, in_side, is_side, side_is, stored_path}
use Rattle.route_table.proofs.Strings.{block_at_is_block, inside_is, same_string, string_of_block, string_within}
use Rattle.route_choices.specs.Hops.{number_of}
use Rattle.route_laws.specs.Tables.{match_number, match_of}

-- a map that keeps the keys that pass a test
module _ (f : Family) (m : BitMap (List Choice)) (ok : IsStored f m) (n : BitMap (List Choice)) (p : List Bool → Bool) (at : (s : List Bool) → get n s ≡ cond (p s) (get m s) None) where
  kept_is_stored : IsStored f n
  kept_is_stored = record { within = λ s k g. ok.within s k (was s k g); choices = λ s k g. ok.choices s k (was s k g); some = λ s k g. ok.some s k (was s k g) }
    where
      was : (s : List Bool) (k : List Choice) → get n s ≡ Some k → get m s ≡ Some k
      was s k g = elim (p s) as (λ c. cond c (get m s) None ≡ Some k → get m s ≡ Some k) [ true ↦ λ e. e | false ↦ λ e. absurd (cc) ] (sym (at s) ∙ g)

  kept_side : (q : Stored → Bool) → ((e : List Bool × List Choice) → In e (entries m) → q (stored_at f e) ≡ p e.0) → stored_in f n ≡ filter q (stored_in f m)
  kept_side q h = ap (map (stored_at f)) (kept_entries m n p at ∙ sym (same_kept (λ e. q (stored_at f e)) (λ e. p e.0) (entries m) h)) ∙ sym (filter_map_swap (stored_at f) q (entries m))

module _ (b : Block) (okb : IsBlock b) (m : BitMap (List Choice)) (ok : IsStored b.family m) where
  abbrev side : List Stored
  side = stored_in b.family m

  key_is_block : (e : List Bool × List Choice) → In e (entries m) → IsBlock (stored_at b.family e).block
  key_is_block e i = block_at_is_block b.family e.0 (ok.within e.0 e.1 (get_of m e.0 e.1 i))

  -- choices at the key of the block
  module _ (n : BitMap (List Choice)) (cs : List Choice) (are : AreChoices cs) (some : cs ≡ [] → ⊥) (key : List Bool) (bits : key ≡ bit_string b) (e : n ≡ insert m key cs) where
    put_at : (s : List Bool) → get n s ≡ cond (same s (bit_string b)) (Some cs) (get m s)
    put_at s = ap (λ x. get x s) (e ∙ ap (λ k. insert m k cs) bits) ∙ get-insert bits_total m (bit_string b) cs s

    new_or_old : (s : List Bool) (k : List Choice) → get n s ≡ Some k → ((s ≡ bit_string b) × (k ≡ cs)) ⊎ ((s ≡ bit_string b → ⊥) × (get m s ≡ Some k))
    new_or_old s k g = go (same s (bit_string b)) refl (sym (put_at s) ∙ g)
      where
        go : (c : Bool) → same s (bit_string b) ≡ c → cond c (Some cs) (get m s) ≡ Some k → ((s ≡ bit_string b) × (k ≡ cs)) ⊎ ((s ≡ bit_string b → ⊥) × (get m s ≡ Some k))
        go true t q = inl ((same-Decides s (bit_string b)).0 t, sym (same_Some cs k q))
        go false t q = inr (not_same t, q)

    pub put_is_stored : IsStored b.family n
    put_is_stored = record {
      within = λ s k g. ⊎_elim (λ h. subst (λ (z : List Bool). length z ≤ width b.family) (sym h.0) (string_within b okb)) (λ h. ok.within s k h.1) (new_or_old s k g);
      choices = λ s k g. ⊎_elim (λ h. subst (λ (z : List Choice). AreChoices z) (sym h.1) are) (λ h. ok.choices s k h.1) (new_or_old s k g);
      some = λ s k g z. ⊎_elim (λ h. some (sym h.1 ∙ z)) (λ h. ok.some s k h.1 z) (new_or_old s k g);
    }

    abbrev r : Stored
    r = record { block = b; choices = cs }

    pub put_side : stored_in b.family n ≡ with_stored side r
    put_side = side_is b.family n put_is_stored (with_stored side r) (with_is side (is_side b.family m ok).table r okb some are)
        (λ s h. ⊎_elim
        (λ q. subst (λ (t : Stored). In t (with_stored side r)) (sym (stored_path s r (same_string s.block b h.block okb h.family q.0) q.1)) (put_itself Stored.block side r))
        (λ q. put_other Stored.block side r s (in_side b.family m ok s (record { family = h.family; block = h.block; stored = q.1 })) (λ z. q.0 (ap (λ (d : Block). bit_string d) z)))
        (new_or_old (bit_string s.block) s.choices h.stored))
        (λ s i. ⊎_elim
        (λ q. subst (λ (t : Stored). HasStored b.family n t) (sym q) (record { family = refl; block = okb; stored = put_at (bit_string b) ∙ ap (λ c. cond c (Some cs) (get m (bit_string b))) (same-refl (bit_string b)) }))
        (λ t. let h = has_stored b.family m ok s t.0 in
        let apart = same_false (bit_string s.block) (bit_string b) (λ z. t.1 (same_string s.block b h.block okb h.family z)) in
        record { family = h.family; block = h.block; stored = put_at (bit_string s.block) ∙ ap (λ c. cond c (Some cs) (get m (bit_string s.block))) apart ∙ h.stored })
        (put_back Stored.block side r s i))

  -- the key taken out
  module _ (T : List Stored) (is : side ≡ T) (n : BitMap (List Choice)) (key : List Bool) (bits : key ≡ bit_string b) (e : n ≡ remove m key) where
    gone : (s : List Bool) → get n s ≡ cond (not (same s (bit_string b))) (get m s) None
    gone s = ap (λ x. get x s) (e ∙ ap (remove m) bits) ∙ get-remove bits_total m (bit_string b) s
        ∙ elim (same s (bit_string b)) as (λ c. cond c None (get m s) ≡ cond (not c) (get m s) None) [ true ↦ refl | false ↦ refl ]

    pub taken_is_stored : IsStored b.family n
    taken_is_stored = kept_is_stored b.family m ok n (λ s. not (same s (bit_string b))) gone

    pub taken_side : stored_in b.family n ≡ without_stored T b
    taken_side = kept_side b.family m ok n (λ s. not (same s (bit_string b))) gone (λ s. not (same_block s.block b)) (λ d i. ap not (bools_same _ _
        (λ t. (same-Decides d.0 (bit_string b)).1 (sym (string_of_block b.family d.0) ∙ ap (λ (k : Block). bit_string k) (same_from_test (stored_at b.family d).block b t)))
        (λ t. test_from_same (stored_at b.family d).block b (same_string (stored_at b.family d).block b (key_is_block d i) okb refl (string_of_block b.family d.0 ∙ (same-Decides d.0 (bit_string b)).0 t)))))
        ∙ ap (λ U. without_stored U b) is

  -- the keys inside the block taken out
  module _ (T : List Stored) (is : side ≡ T) (n : BitMap (List Choice)) (key : List Bool) (bits : key ≡ bit_string b) (e : n ≡ outside m key) where
    left : (s : List Bool) → get n s ≡ cond (not (begins (bit_string b) s)) (get m s) None
    left s = ap (λ x. get x s) (e ∙ ap (outside m) bits)
        ∙ get-retain_keys m (λ k. not (begins (bit_string b) k)) s (λ x q. ap (λ k. not (begins (bit_string b) k)) (sym (bits_same s x q)))

    pub outside_is_stored : IsStored b.family n
    outside_is_stored = kept_is_stored b.family m ok n (λ s. not (begins (bit_string b) s)) left

    pub outside_side : stored_in b.family n ≡ networks_outside T b
    outside_side = kept_side b.family m ok n (λ s. not (begins (bit_string b) s)) left (λ s. not (is_inside s.block b))
        (λ d i. ap not (inside_is (stored_at b.family d).block b (key_is_block d i) okb refl ∙ ap (begins (bit_string b)) (string_of_block b.family d.0)))
        ∙ ap (λ U. networks_outside U b) is

  -- choices put at the key, as a change of the choices of the block
  pub put_choices : (n : BitMap (List Choice)) (cs : List Choice) → AreChoices cs → (cs ≡ [] → ⊥) → (key : List Bool) → key ≡ bit_string b → n ≡ insert m key cs → stored_in b.family n ≡ with_choices side b cs
  put_choices n [] are some key bits e = absurd (some refl)
  put_choices n (c ∷ cs) are some key bits e = put_side n (c ∷ cs) are some key bits e

-- ---- choices changed in place

-- the key is the first bits of a string, as many as it has
module _ (b : Block) (okb : IsBlock b) (m : BitMap (List Choice)) (ok : IsStored b.family m) (T : List Stored) (is : stored_in b.family m ≡ T)
    (len : ℕ) (s : List Bool) (all : len ≡ length s) (bits : s ≡ bit_string b) where
  key : take len s ≡ bit_string b
  key = take_all len s (omega (arith, all)) ∙ bits

  pub stored_at_key : (choices_at T b ≡ [] → ⊥) → IsSome (get m (take len s))
  stored_at_key some = go (get m (take len s)) refl
    where
      go : (o : Option (List Choice)) → get m (take len s) ≡ o → IsSome o
      go None e = absurd (some (at_key b okb m ok T is (take len s) key None (sym e)))
      go (Some cs) e = refl

  module _ (old new : List Choice) (was : get m (take len s) ≡ Some old) where
    pub old_at : choices_at T b ≡ old
    old_at = at_key b okb m ok T is (take len s) key (Some old) (sym was)

    module _ (are : AreChoices new) (some : new ≡ [] → ⊥) where
      pub written_is_stored : IsStored b.family (insert m (take len s) new)
      written_is_stored = put_is_stored b okb m ok (insert m (take len s) new) new are some (take len s) key refl

      pub written_side : stored_in b.family (insert m (take len s) new) ≡ with_choices T b new
      written_side = put_choices b okb m ok (insert m (take len s) new) new are some (take len s) key refl ∙ ap (λ U. with_choices U b new) is

      pub written_number : number_of (best_hop new) ≡ match_number (match_of (routes_of (stored_in b.family (insert m (take len s) new))) b)
      written_number = number_of_choices (stored_in b.family m) (is_side b.family m ok).table b okb new are some
          ∙ ap (λ U. match_number (match_of (routes_of U) b)) (sym (put_choices b okb m ok (insert m (take len s) new) new are some (take len s) key refl))

    -- where nothing changed
    module _ (e : new ≡ old) where
      are_same : AreChoices new
      are_same = subst (λ (cs : List Choice). AreChoices cs) (sym e) (ok.choices (take len s) old was)

      some_same : new ≡ [] → ⊥
      some_same z = ok.some (take len s) old was (sym e ∙ z)

      pub same_is_stored : IsStored b.family (insert m (take len s) new)
      same_is_stored = written_is_stored are_same some_same

      pub same_side : stored_in b.family (insert m (take len s) new) ≡ T
      same_side = written_side are_same some_same ∙ ap (with_choices T b) (e ∙ sym old_at)
          ∙ put_same T (subst IsStoredTable is (is_side b.family m ok).table) b okb
