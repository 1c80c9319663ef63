-- A walk over the prefixes of a path goes over skipped levels at once.
use Rattle.std.proofs.Common.{◌≡◌, ℕ, zero, suc, ◌+◌, ◌-◌, ◌*◌, ◌≤◌, ◌<◌, Bool, true, cond, List, [], ◌++◌, length, take, drop, sym, ap, ◌∙◌, Option, None, append_assoc, append-nil, length-drop, drop-drop, take-add, arith}
use Rattle.std.specs.FinMap.{entries, get, entries_sorted}
use Rattle.std.specs.FinMap.Entries.{where_key, is_sorted-where_key, same_entries}
use Rattle.ipnet_blocks.specs.BitStrings.{bits_cmp, begins}
use Rattle.ipnet_blocks.proofs.BitStrings.{begins_take}
use Rattle.trie_core.specs.InnerPlaces.{child_of, place_string}
use Rattle.trie_core.specs.Nodes.{Seen}
use Rattle.trie_core.specs.InnerNodes.{under}
use Rattle.trie_core.specs.InnerCovers.{is_left, NoneFrom}
use Rattle.trie_core.specs.InnerCovers.{IsRest}
use Rattle.trie_core.specs.InnerChains.{over, chain, skipped, Starts}
use Rattle.trie_core.proofs.Strings.{bits_total, bits_same}
use Rattle.trie_core.proofs.Numbers.{number_bound}
use Rattle.trie_core.proofs.Frames.{under-under, found_where}
use Rattle.trie_core.proofs.Walks.{where_below}
use Rattle.trie_core.proofs.Covers.{left_true, where_rest, left_below}
use Rattle.trie_core.proofs.Chains.{over_child, nothing_short, chain_along, chain_step, more}
use Rattle.trie_core.proofs.Skipped.{none_off}

kept_none : {X : Type 0} (b : Bool) (o : Option X) → (b ≡ true → o ≡ None) → cond b o None ≡ None
kept_none b o f = grind arith

-- ---- the way to a branch below

pub rest_below : {q p r : List Bool} {i : ℕ} (n : ℕ) → IsRest q p i → n ≤ length p → r ≡ drop n p → IsRest q r 0
rest_below {q} {p} {r} n w h e =
    let l : length r ≡ length p - n = omega (arith, ap length e, length-drop n p) in
    let z : length q - length p + n ≡ length q - length r = omega (arith, l, w.within, h) in
    record {
      within = omega (arith, l, w.within);
      fits = w.fits;
      rest = ap (λ i. drop i q) (sym z) ∙ sym (drop-drop n (length q - length p) q) ∙ ap (drop n) w.rest ∙ sym e;
      place = omega arith;
    }

pub way_below : {q p r : List Bool} {i : ℕ} (n : ℕ) → IsRest q p i → n ≤ length p → r ≡ drop n p → take (length q - length r) q ≡ take (length q - length p) q ++ take n p
way_below {q} {p} {r} n w h e =
    let l : length r ≡ length p - n = omega (arith, ap length e, length-drop n p) in
    let z : length q - length p + n ≡ length q - length r = omega (arith, l, w.within, h) in
    ap (λ i. take i q) (sym z) ∙ take-add (length q - length p) n q ∙ ap (λ s. take (length q - length p) q ++ take n s) w.rest

-- the key of a place whose string begins the rest
pub key_on : {q r key : List Bool} {n len : ℕ} (p : ℕ) → IsRest q r n → begins (place_string p) r ≡ true → len ≡ length q - length r + length (place_string p) → key ≡ take len q → take (length q - length r) q ++ place_string p ≡ key
key_on {q} {r} {key} p w b l e =
    let s = place_string p in
    let d = length q - length r in
    sym (e ∙ ap (λ i. take i q) l ∙ take-add d (length s) q ∙ ap (λ x. take d q ++ take (length s) x) w.rest ∙ ap (λ x. take d q ++ x) (begins_take s r b).1)

module _ {X : Type 0} where
  -- ---- the entries below skipped levels

  over_none : (q : List Bool) (n : ℕ) (m : Seen X) → n < 32 → NoneFrom (over n m).entries q 0
  over_none q n m l s h b i = nothing_short s n m l h

  cover_chain : (k : ℕ) (trail p : List Bool) {r way : List Bool} (m : Seen X) → 5 * k ≤ length p → r ≡ drop (5 * k) p → way ≡ trail ++ take (5 * k) p
      → under trail (where_key bits_cmp (is_left p 0) (entries (chain k p m).entries)) ≡ under way (where_key bits_cmp (is_left r 0) (entries m.entries))
  cover_chain zero trail p {r} {way} m h d e =
      let w : trail ≡ way = sym (append-nil trail) ∙ sym e in
      let x : p ≡ r = sym d in
      λ i. under (w i) (where_key bits_cmp (is_left (x i) 0) (entries m.entries))
  cover_chain (suc k) trail p {r} {way} m h d e =
      let c = chain k (drop 5 p) m in
      let n = child_of p in
      let l = (more k p h).0 in
      let t = chain_step k p r h d in
      let z : 5 + 5 * k ≡ 5 * suc k = omega arith in
      ap (under trail) (where_rest (over n c).entries (over_none p n c (number_bound 5 p)) ∙ where_below (left_below p l (over_child p c l).gets))
      ∙ under-under trail (take 5 p) (where_key bits_cmp (is_left (drop 5 p) 0) (entries c.entries))
      ∙ cover_chain k (trail ++ take 5 p) (drop 5 p) m t.0 t.1
      (e ∙ ap (λ s. trail ++ s) (ap (λ i. take i p) (sym z) ∙ take-add 5 (5 * k) p) ∙ sym (append_assoc trail (take 5 p) (take (5 * k) (drop 5 p))))

  pub cover_on : {q p r : List Bool} {i : ℕ} (k skip : ℕ) (b w : Seen X) → chain k (skipped k skip) b ≡ w → Starts k skip p → IsRest q p i → r ≡ drop (5 * k) p
      → under (take (length q - length r) q) (where_key bits_cmp (is_left r 0) (entries b.entries)) ≡ under (take (length q - length p) q) (where_key bits_cmp (is_left p 0) (entries w.entries))
  cover_on {q} {p} {r} k skip b w v s a e =
      let trail = take (length q - length p) q in
      sym (cover_chain k trail p b s.0 e (way_below (5 * k) a s.0 e))
      ∙ ap (λ m. under trail (where_key bits_cmp (is_left p 0) (entries m.entries))) (sym (chain_along k p (skipped k skip) b s.0 s.1) ∙ v)

  -- and none off their way
  pub cover_off : (k skip : ℕ) (p : List Bool) (b w : Seen X) → chain k (skipped k skip) b ≡ w → (Starts k skip p → ⊥) → where_key bits_cmp (is_left p 0) (entries w.entries) ≡ []
  cover_off k skip p b w v f =
      same_entries bits_cmp bits_total bits_same _ _ (is_sorted-where_key bits_cmp (is_left p 0) (entries w.entries) (entries_sorted w.entries)) tt
      (λ x. found_where w.entries (is_left p 0) x ∙ kept_none (is_left p 0 x) (get w.entries x) (λ e.
      let t = begins_take x p (left_true p 0 x e).0 in
      ap (get w.entries) (sym t.1) ∙ none_off k skip p b w (length x + 1) v f (length x) (omega arith) t.0))
