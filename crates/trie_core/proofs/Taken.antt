-- The places of a bitmap: one that is free, and one that is taken.
use Rattle.std.proofs.Common.{◌≡◌, ℕ, ◌+◌, ◌-◌, ◌%◌, ◌^◌, ◌<◌, ◌≤◌, List, length, get_or, set, sym, ap, ◌∙◌, Some, None, count_ones, insert, remove, nat_cmp, length-set, arith}
use Rattle.std.specs.FinMap.{find, put}
use Rattle.std.proofs.lemmas.List.Edits.{length-insert, length-remove}
use Rattle.trie_core.specs.InnerPlaces.{at_places, without, IsUnset, IsSlot}
use Rattle.trie_core.proofs.Places.{at_set, at_unset, ones_below_lt, ones_split}
use Rattle.trie_core.proofs.Edits.{set_is_put, insert_is_put, remove_is_without, set_fits, ones_set, ones_clear, bit_within}

pub ones_below_le : (i n : ℕ) → count_ones (n % 2 ^ i) ≤ count_ones n
ones_below_le i n = omega (arith, ones_split i n)

from_zero : (i : ℕ) → 0 + i ≡ i
from_zero i = omega arith

module _ {X : Type 0} where
  -- nothing stands at place i, and k things before it
  pub record IsFree (i k bits : ℕ) (xs : List X) : Type 0 where
    pub within : k ≤ length xs
    pub fits : bits + 2 ^ i < 2 ^ 32
    pub absent : find nat_cmp i (at_places 32 0 bits xs) ≡ None
    pub ones : (v : X) → count_ones (bits + 2 ^ i) ≡ length (insert xs k v)
    pub stored : (v : X) → at_places 32 0 (bits + 2 ^ i) (insert xs k v) ≡ put nat_cmp i v (at_places 32 0 bits xs)

  -- the k-th thing stands at place i
  pub record IsTaken (i k bits : ℕ) (xs : List X) : Type 0 where
    pub within : k < length xs
    pub fits : 2 ^ i ≤ bits
    pub read : (d : X) → find nat_cmp i (at_places 32 0 bits xs) ≡ Some (get_or xs k d)
    pub same_ones : (v : X) → count_ones bits ≡ length (set xs k v)
    pub written : (v : X) → at_places 32 0 bits (set xs k v) ≡ put nat_cmp i v (at_places 32 0 bits xs)
    pub ones : count_ones (bits - 2 ^ i) ≡ length (remove xs k)
    pub removed : at_places 32 0 (bits - 2 ^ i) (remove xs k) ≡ without i (at_places 32 0 bits xs)

  pub free : (i k bits : ℕ) (xs : List X) → i < 32 → bits < 2 ^ 32 → IsUnset i bits → k ≡ count_ones (bits % 2 ^ i) → count_ones bits ≡ length xs → IsFree i k bits xs
  free i k bits xs l b h c e =
      let m : k ≤ length xs = omega (arith, ones_below_le i bits, e, c) in
      record {
        within = m;
        fits = set_fits 32 i bits l b h;
        absent = ap (λ j. find nat_cmp j (at_places 32 0 bits xs)) (sym (from_zero i)) ∙ at_unset 32 0 i bits xs h;
        ones = λ v. ones_set i bits h ∙ omega (arith, e, length-insert xs k v m);
        stored = λ v. insert_is_put 32 0 i bits xs k v l h c m ∙ ap (λ j. put nat_cmp j v (at_places 32 0 bits xs)) (from_zero i);
      }

  pub taken : (i k bits : ℕ) (xs : List X) → i < 32 → IsSlot i bits k → count_ones bits ≡ length xs → IsTaken i k bits xs
  taken i k bits xs l h e =
      let m : k < length xs = omega (arith, ones_below_lt i bits h.0, e, h.1) in
      record {
        within = m;
        fits = bit_within bits i h.0;
        read = λ d. ap (λ j. find nat_cmp j (at_places 32 0 bits xs)) (sym (from_zero i)) ∙ at_set 32 0 i bits xs d l h.0 (omega (arith, m, h.1)) ∙ ap (λ j. Some (get_or xs j d)) (sym h.1);
        same_ones = λ v. e ∙ sym (length-set xs k v);
        written = λ v. set_is_put 32 0 i bits xs k v l h.0 h.1 m ∙ ap (λ j. put nat_cmp j v (at_places 32 0 bits xs)) (from_zero i);
        ones = omega (arith, ones_clear i bits h.0, e, length-remove xs k m);
        removed = remove_is_without 32 0 i bits xs k l h.0 h.1 m ∙ ap (λ j. without j (at_places 32 0 bits xs)) (from_zero i);
      }

  pub missing : (i bits : ℕ) (xs : List X) → IsUnset i bits → None ≡ find nat_cmp i (at_places 32 0 bits xs)
  missing i bits xs h = sym (at_unset 32 0 i bits xs h) ∙ ap (λ k. find nat_cmp k (at_places 32 0 bits xs)) (from_zero i)

  -- the word and the list after the thing is taken out, and after one is put in
  pub taken_out : (i k bits b : ℕ) (xs ys : List X) → IsTaken i k bits xs → b ≡ 2 ^ i → ys ≡ remove xs k → (at_places 32 0 (bits - b) ys ≡ without i (at_places 32 0 bits xs)) × (count_ones (bits - b) ≡ length ys)
  taken_out i k bits b xs ys t e f = rw (e, f) (t.removed, t.ones)

  pub put_in : (i k bits b : ℕ) (v : X) (xs ys : List X) → IsFree i k bits xs → b ≡ 2 ^ i → ys ≡ insert xs k v → (at_places 32 0 (bits + b) ys ≡ put nat_cmp i v (at_places 32 0 bits xs)) × (count_ones (bits + b) ≡ length ys)
  put_in i k bits b v xs ys t e f = rw (e, f) (t.stored v, t.ones v)
