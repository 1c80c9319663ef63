-- The longest match of what a bit string governs.
use Rattle.std.proofs.Common.{◌≡◌, ◌<◌, ◌≤◌, ◌+◌, ℕ, Bool, List, length, take, None, sym, ap, ◌∙◌, length-take-le, take-take, arith}
use Rattle.std.specs.FinMap.{get}
use native.Mathlib.Decide.{dec_le}
use Rattle.ipnet_blocks.proofs.BitStrings.{begins_take, take_begins}
use Rattle.trie_core.specs.Nodes.{BitMap}
use Rattle.trie_core.specs.Search.{IsLongest}
use Rattle.prefix_trie.specs.Laws.{GovernedMatch, IsGoverned}

module _ {X : Type 0} (m : BitMap X) (q s : List Bool) (g : IsGoverned m q s) where
  shorter : length q ≤ length s
  shorter = (begins_take q s g.inside).0

  -- up to the length of q both have the same beginnings
  same : (k : ℕ) → k ≤ length q → get m (take k s) ≡ get m (take k q)
  same k h = ap (get m) (sym (take-take k (length q) s h) ∙ ap (take k) (begins_take q s g.inside).1)

  -- no longer one is a key
  longer : (k : ℕ) → length q < k → k ≤ length s → get m (take k s) ≡ None
  longer k l h = g.free (take k s) (omega (arith, l, length-take-le k s h)) (take_begins k s)

  none_longer : (n : ℕ) (v : X) → IsLongest m s n v → Dec (n ≤ length q) → n ≤ length q
  none_longer n v l (yes h) = h
  none_longer n v l (no h) = absurd (let e = l.found in let f = longer n (grind (arith, h)) l.within in cc)

  -- what holds of the beginnings of q holds of those of s
  none_after : (n : ℕ) → ((k : ℕ) → n ≤ k → k ≤ length q → get m (take k q) ≡ None) → (k : ℕ) → n ≤ k → k ≤ length s → get m (take k s) ≡ None
  none_after n none k l h = go (dec_le k (length q))
    where
      go : Dec (k ≤ length q) → get m (take k s) ≡ None
      go (yes y) = same k y ∙ none k l y
      go (no y) = longer k (grind (arith, y)) h

  to_whole : (n : ℕ) (v : X) → IsLongest m s n v → IsLongest m q n v
  to_whole n v l =
      let within = none_longer n v l (dec_le n (length q)) in
      record { within = within; found = sym (same n within) ∙ l.found; longest = λ k lt le. sym (same k le) ∙ l.longest k lt (omega (arith, le, shorter)) }

  from_whole : (n : ℕ) (v : X) → IsLongest m q n v → IsLongest m s n v
  from_whole n v l = record {
    within = omega (arith, l.within, shorter);
    found = same n l.within ∙ l.found;
    longest = λ k lt le. none_after (n + 1) (λ j a b. l.longest j (omega (arith, a)) b) k (omega (arith, lt)) le;
  }

pub governed_match : {X : Type 0} → GovernedMatch X
governed_match m q s g = (
  (λ n v. (to_whole m q s g n v, from_whole m q s g n v)),
  ((λ none k h. sym (same m q s g k h) ∙ none k (omega (arith, h, shorter m q s g))), (λ none k h. none_after m q s g 0 (λ j a b. none j b) k (omega arith) h)),
)
