-- The best match of a search so far.
use Rattle.std.proofs.Common.{◌≡◌, ℕ, zero, suc, ◌+◌, ◌-◌, ◌*◌, ◌<◌, ◌≤◌, List, [], ◌∷◌, Bool, length, drop, get_or, refl, sym, ap, subst, ◌∙◌, Option, Some, None, MatchOption, bit_and, count_ones, ◌%◌, ◌^◌, nat_cmp, arith}
use Rattle.std.specs.FinMap.{find, get}
use Rattle.trie_core.specs.Nodes.{BitMap, Seen}
use Rattle.trie_core.specs.Search.{NoBeginning, IsLongest}
use Rattle.trie_core.specs.InnerPlaces.{place_string, at_places, IsBeginMask, IsLastPlace}
use Rattle.trie_core.specs.InnerChains.{chain, skipped, Starts}
use Rattle.trie_core.specs.InnerSearch.{NoneBelow, IsLongestBelow, IsLongestAt, IsChild, HasNoChild}
use Rattle.trie_core.specs.InnerMatches.{IsMatch}
use Rattle.trie_core.specs.declared.node.Best.{Best}
use Rattle.trie_core.proofs.Taken.{taken}
use Rattle.trie_core.proofs.Seen.{IsSeen, value_at}
use Rattle.trie_core.proofs.Searches.{IsAt, IsBest, met_place, longest_here, at_child, way_left, found_deeper, best_whole, best_stop}
use Rattle.trie_core.proofs.Skipped.{at_branch, best_past, none_on, none_off}

module _ {X : Type 0} where
  -- the item at an index of a list
  item_at : (xs : List X) (at : ℕ) → at < length xs → (x : X) × (x ≡ get_or xs at x)
  item_at [] at h = absurd (omega (arith, h))
  item_at (x ∷ xs) zero h = (x, refl)
  item_at (x ∷ xs) (suc at) h = item_at xs at (omega (arith, h))

  -- the last key of a branch that the path goes on with
  pub longest_at : {vb : ℕ} {vs : List X} {cb : ℕ} {cs : List (Seen X)} {m : Seen X} (q : List Bool) (mask n : ℕ) → IsSeen vb vs cb cs m → IsBeginMask q mask → IsLastPlace (bit_and vb mask) n → IsLongestAt m.entries q n
  longest_at {vb} {vs} {m = m} q mask n s f e =
      let t = met_place vb mask q s.slots.values_below f n e.taken in
      let at = count_ones (vb % 2 ^ n) in
      let k = taken n at vb vs (omega (arith, t.below)) (t.stored, refl) s.slots.values_counted in
      let v = item_at vs at k.within in
      record {
        value = v.0;
        below = t.below;
        found = sym (value_at (place_string n) s t.short) ∙ ap (λ i. find nat_cmp i (at_places 32 0 vb vs)) t.place ∙ k.read v.0 ∙ ap Some (sym v.1);
        longest = longest_here q mask n at (length (place_string n)) v.0 s f e refl refl v.1;
      }

  -- the key at place n of the best match is the longest prefix of q of fewer than `high` bits that is a key
  pub record IsHeld (m : BitMap X) (q : List Bool) (high : ℕ) (b : Best X) (n : ℕ) : Type 0 where
    pub value : X
    pub below : n < 31
    pub stored : get b.branch.now.entries (place_string n) ≡ Some value
    pub longest : IsLongestBelow m q high (length q - b.left + length (place_string n)) value

  -- b is the best match of fewer than `high` bits
  pub record IsBestSoFar (m : BitMap X) (q : List Bool) (high : ℕ) (b : Best X) : Type 0 where
    pub none : b.found ≡ 0 → NoneBelow m q high
    pub within : b.left ≤ length q
    pub some : (n : ℕ) → IsLastPlace b.found n → IsHeld m q high b n

  past_so_far : {m n : Seen X} {q p : List Bool} {b : Best X} (d k : ℕ) → IsAt m q d n p → IsBestSoFar m.entries q d b → NoneBelow n.entries p k → IsBestSoFar m.entries q (d + k) b
  past_so_far {b = b} d k a f g = record {
    none = λ z. best_past {S = X} (λ x. x) d k None a (f.none z) g;
    within = f.within;
    some = λ i l.
        let h = f.some i l in
        record { value = h.value; below = h.below; stored = h.stored; longest = best_past {S = X} (λ x. x) d k (Some (_, h.value)) a h.longest g };
  }

  better_so_far : {m n : Seen X} {q p : List Bool} {b : Best X} (d w : ℕ) (after : Best X) → IsAt m q d n p → IsBestSoFar m.entries q d b → (w ≡ 0 → NoneBelow n.entries p 5) → ((i : ℕ) → IsLastPlace w i → IsLongestAt n.entries p i) → (w ≡ 0 → after ≡ b)
      → (0 < w → (after.branch.now ≡ n) × ((after.found ≡ w) × (after.left ≡ length p))) → IsBestSoFar m.entries q (d + 5) after
  better_so_far {m} {q = q} d zero after a f none last same better = subst (IsBestSoFar m.entries q (d + 5)) (sym (same refl)) (past_so_far d 5 a f (none refl))
  better_so_far {m} {n} {q} {p} d (suc w) after a f none last same better =
      let t = better (omega arith) in
      let l = way_left d a in
      record {
        none = λ z. absurd (omega (arith, z, t.1.0));
        within = omega (arith, t.1.1, l);
        some = λ i h.
            let k = last i (subst (λ v. IsLastPlace v i) t.1.0 h) in
            let j : d + length (place_string i) ≡ length q - after.left + length (place_string i) = omega (arith, t.1.1, l) in
            record {
              value = k.value;
              below = k.below;
              stored = ap (λ s. get s.entries (place_string i)) t.0 ∙ k.found;
              longest = subst (λ j. IsLongestBelow m.entries q (d + 5) j k.value) j (found_deeper d (length (place_string i)) a k.longest);
            };
      }

  -- the search for q in m has come to the node n with p left, and b is the best match above it
  pub record IsOnWay (m : Seen X) (q : List Bool) (n : Seen X) (p : List Bool) (b : Best X) : Type 0 where
    pub depth : ℕ
    pub place : IsAt m q depth n p
    pub best : IsBestSoFar m.entries q depth b

  -- the search has come to the branch n with p left, and b is the best match in it or above it
  pub record IsInBranch (m : Seen X) (q : List Bool) (n : Seen X) (p : List Bool) (b : Best X) : Type 0 where
    pub depth : ℕ
    pub place : IsAt m q depth n p
    pub best : IsBestSoFar m.entries q (depth + 5) b

  pub in_branch : {m w e : Seen X} {q p r : List Bool} {b : Best X} (k skip found : ℕ) (after : Best X) → IsOnWay m q w p b → chain k (skipped k skip) e ≡ w → Starts k skip p → r ≡ drop (5 * k) p → (found ≡ 0 → NoneBelow e.entries r 5)
      → ((i : ℕ) → IsLastPlace found i → IsLongestAt e.entries r i) → (found ≡ 0 → after ≡ b) → (0 < found → (after.branch.now ≡ e) × ((after.found ≡ found) × (after.left ≡ length r))) → IsInBranch m q e r after
  in_branch {m} {w} {e} {q} {p} k skip found after o v s f none last same better =
      let a = at_branch o.depth k skip o.place v s f in
      record {
        depth = o.depth + 5 * k;
        place = a;
        best = better_so_far (o.depth + 5 * k) found after a (past_so_far o.depth (5 * k) o.place o.best (none_on k skip p e w v)) none last same better;
      }

  pub to_child : {m e c : Seen X} {q p r : List Bool} {b : Best X} → IsInBranch m q e p b → 5 ≤ length p → IsChild p e c → r ≡ drop 5 p → IsOnWay m q c r b
  to_child o h e f = record { depth = o.depth + 5; place = at_child o.depth o.place h e f; best = o.best }

  -- ---- at the end of the search

  module _ {S : Type 0} (v : S → X) where
    told : {m : BitMap X} {q : List Bool} {high len : ℕ} {b : Best X} (o : Option (ℕ × S)) → ((o : Option (ℕ × X)) → IsBest (λ x. x) m q high o → MatchOption o (NoBeginning m q) (λ r. IsLongest m q r.0 r.1)) → IsBestSoFar m q high b → len ≡ length q
        → MatchOption o (b.found ≡ 0) (λ r. IsMatch b len r.0 (v r.1)) → MatchOption o (NoBeginning m q) (λ r. IsLongest m q r.0 (v r.1))
    told None f g l e = f None (g.none e)
    told {m} {q} {b = b} (Some r) f g l e =
        let h = g.some e.place e.last in
        let same : Some h.value ≡ Some (v r.1) = sym h.stored ∙ e.value in
        let w : h.value ≡ v r.1 = cc in
        let n : length q - b.left + length (place_string e.place) ≡ r.0 = omega (arith, e.bits, l) in
        subst (IsLongest m q r.0) w (subst (λ n. IsLongest m q n h.value) n (f (Some (_, h.value)) h.longest))

    -- the path ends in the branch
    pub told_short : {m n : Seen X} {q p : List Bool} {len : ℕ} {b : Best X} (o : Option (ℕ × S)) → IsInBranch m q n p b → length p < 5 → len ≡ length q
        → MatchOption o (b.found ≡ 0) (λ r. IsMatch b len r.0 (v r.1)) → MatchOption o (NoBeginning m.entries q) (λ r. IsLongest m.entries q r.0 (v r.1))
    told_short {m} {q = q} o i h l e = told o (λ o f. best_whole {S = X} (λ x. x) m.entries q (i.depth + 5) o (omega (arith, way_left i.depth i.place, h)) f) i.best l e

    -- the branch has no child on the way
    pub told_end : {m n : Seen X} {q p : List Bool} {len : ℕ} {b : Best X} (o : Option (ℕ × S)) → IsInBranch m q n p b → 5 ≤ length p → HasNoChild p n → len ≡ length q
        → MatchOption o (b.found ≡ 0) (λ r. IsMatch b len r.0 (v r.1)) → MatchOption o (NoBeginning m.entries q) (λ r. IsLongest m.entries q r.0 (v r.1))
    told_end o i h t l e = told o (λ o f. best_stop {S = X} (λ x. x) i.depth o i.place h t f) i.best l e

    -- the path leaves the skipped levels of the node
    pub told_off : {m w : Seen X} {q p : List Bool} {len : ℕ} {b : Best X} (k skip : ℕ) (n : Seen X) (o : Option (ℕ × S)) → IsOnWay m q w p b → chain k (skipped k skip) n ≡ w → (Starts k skip p → ⊥) → len ≡ length q
        → MatchOption o (b.found ≡ 0) (λ r. IsMatch b len r.0 (v r.1)) → MatchOption o (NoBeginning m.entries q) (λ r. IsLongest m.entries q r.0 (v r.1))
    told_off {m} {w} {q} {p} k skip n o i c f l e =
        let high = length q + 1 in
        told o (λ o f. best_whole {S = X} (λ x. x) m.entries q (i.depth + high) o (omega arith) f) (past_so_far i.depth high i.place i.best (none_off k skip p n w high c f)) l e
