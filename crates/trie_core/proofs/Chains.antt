-- What stands below skipped levels, and what a change there makes of the whole.
use Rattle.std.proofs.Common.{◌≡◌, ℕ, zero, suc, ◌+◌, ◌*◌, ◌/◌, ◌%◌, ◌^◌, ◌<◌, ◌≤◌, Bool, List, [], ◌∷◌, ◌++◌, length, take, drop, refl, sym, ap, subst, ◌∙◌, inl, inr, Option, None, count_ones, IsSome, nat_cmp, one-mul, length-drop, drop-drop, take_at, drop_at, length-take-le, take-append-drop, take-add, arith}
use Rattle.std.specs.FinMap.{find, get}
use Rattle.std.proofs.lemmas.Nat.{shl-shr, shr_split}
use Rattle.std.proofs.lemmas.Nat.Bits.{bit_at-zero, bit_at-pow_other}
use Rattle.std.proofs.lemmas.Bool.Decides.{nat_tests}
use Rattle.std.proofs.lemmas.Bool.{cases_lt, cases_order}
use Rattle.trie_core.specs.InnerPlaces.{child_of, child_string, at_places}
use Rattle.trie_core.specs.Bits.{number_from}
use Rattle.trie_core.specs.Nodes.{Seen}
use Rattle.trie_core.specs.InnerNodes.{HasSlots}
use Rattle.trie_core.specs.InnerSearch.{IsChild, HasNoChild}
use Rattle.trie_core.specs.InnerInsertedBelow.{IsInsertedBelow}
use Rattle.trie_core.specs.InnerChains.{over, chain}
use Rattle.trie_core.proofs.Numbers.{ones_bit, number_bound, number-take, child_string-child_of}
use Rattle.trie_core.proofs.Taken.{IsFree, IsTaken, free, taken}
use Rattle.trie_core.proofs.Seen.{IsSeen, seen, is_child, has_no_child, value_at}
use Rattle.trie_core.proofs.Searches.{no_child_get}
use Rattle.trie_core.proofs.Changes.{was}
use Rattle.trie_core.proofs.InsertedBelow.{exchanged_below}

-- no other bit is set
pub over_free : (i n : ℕ) → (n ≡ i → ⊥) → 2 ^ n / 2 ^ i % 2 ≡ 0
over_free i n f = bit_at-pow_other n i (λ e. f (sym e))

div_self : (n : ℕ) → 2 ^ n / 2 ^ n ≡ 1
div_self n = ap (λ k. k / 2 ^ n) (sym (one-mul (2 ^ n))) ∙ shl-shr 1 n

mod_self : (n : ℕ) → 2 ^ n % 2 ^ n ≡ 0
mod_self n = omega (arith, shr_split (2 ^ n) n, ap (λ k. k * 2 ^ n) (div_self n), one-mul (2 ^ n))

zero_mod : (n : ℕ) → 0 % 2 ^ n ≡ 0
zero_mod n = omega arith

no_ones : count_ones 0 ≡ 0
no_ones = ones_bit 0 (omega arith)

from_nothing : (n : ℕ) → 0 + 2 ^ n ≡ 2 ^ n
from_nothing n = omega arith

pub more : (k : ℕ) (q : List Bool) → 5 * suc k ≤ length q → (5 ≤ length q) × (5 * k ≤ length (drop 5 q))
more k q h = (omega (arith, h), omega (arith, h, length-drop 5 q))

below : (k : ℕ) (q r : List Bool) → r ≡ drop (5 * suc k) q → r ≡ drop (5 * k) (drop 5 q)
below k q r e = let z : 5 + 5 * k ≡ 5 * suc k = omega arith in e ∙ ap (λ i. drop i q) (sym z) ∙ sym (drop-drop (5 * k) 5 q)

pub chain_step : (k : ℕ) (q r : List Bool) → 5 * suc k ≤ length q → r ≡ drop (5 * suc k) q → (5 * k ≤ length (drop 5 q)) × (r ≡ drop (5 * k) (drop 5 q))
chain_step k q r h e = ((more k q h).1, below k q r e)

at_once : (q r : List Bool) → r ≡ drop (5 * 0) q → r ≡ q
at_once q r e = e

-- ---- one item

alone : {Y : Type 0} (n : ℕ) → n < 32 → IsFree {X = Y} n 0 0 []
alone n l = free n 0 0 [] l (omega arith) (bit_at-zero n) (sym (ap count_ones (zero_mod n) ∙ no_ones)) no_ones

pub alone_counted : {Y : Type 0} (n : ℕ) (m : Y) → n < 32 → count_ones (2 ^ n) ≡ length (m ∷ [])
alone_counted n m l = ap count_ones (sym (from_nothing n)) ∙ (alone n l).ones m

pub alone_places : {Y : Type 0} (n : ℕ) (m : Y) → n < 32 → at_places 32 0 (2 ^ n) (m ∷ []) ≡ (n, m) ∷ []
alone_places n m l = ap (λ k. at_places 32 0 k (m ∷ [])) (sym (from_nothing n)) ∙ (alone n l).stored m

module _ {X : Type 0} where
  -- ---- one level

  pub over_slots : (n : ℕ) (m : Seen X) → n < 32 → HasSlots {X = X} 0 [] (2 ^ n) (m ∷ [])
  over_slots n m l = record {
    values_counted = no_ones;
    values_below = omega arith;
    children_counted = alone_counted n m l;
    children_below = omega (arith, (alone {Y = Seen X} n l).fits);
  }

  pub over_taken : (n : ℕ) (m : Seen X) → n < 32 → IsTaken n 0 (2 ^ n) (m ∷ [])
  over_taken n m l = taken n 0 (2 ^ n) (m ∷ []) l (ap (λ k. k % 2) (div_self n), sym (ap count_ones (mod_self n) ∙ no_ones)) (over_slots n m l).children_counted

  pub over_seen : (n : ℕ) (m : Seen X) → n < 32 → IsSeen {X = X} 0 [] (2 ^ n) (m ∷ []) (over n m)
  over_seen n m l = seen (over_slots n m l) refl

  pub over_child : (q : List Bool) (m : Seen X) → 5 ≤ length q → IsChild q (over (child_of q) m) m
  over_child q m h = let n = child_of q in is_child q m (over_seen n m (number_bound 5 q)) h ((over_taken n m (number_bound 5 q)).read m)

  pub over_places : (n : ℕ) (m : Seen X) → n < 32 → at_places 32 0 (2 ^ n) (m ∷ []) ≡ (n, m) ∷ []
  over_places n m l = alone_places n m l

  not_found : (i n : ℕ) (m : Seen X) → (n ≡ i → ⊥) → find nat_cmp i ((n, m) ∷ []) ≡ None
  not_found i n m f = grind (arith, nat_tests)

  pub over_other : (q : List Bool) (n : ℕ) (m : Seen X) → n < 32 → 5 ≤ length q → (n ≡ child_of q → ⊥) → HasNoChild q (over n m)
  over_other q n m l h f = has_no_child q (over_seen n m l) h (ap (find nat_cmp (child_of q)) (over_places n m l) ∙ not_found (child_of q) n m f)

  pub over_get : (q : List Bool) (m : Seen X) → 5 ≤ length q → get (over (child_of q) m).entries q ≡ get m.entries (drop 5 q)
  over_get q m h = let n = child_of q in sym (was q m (over_seen n m (number_bound 5 q)) h (over_taken n m (number_bound 5 q)) refl)

  -- ---- more levels

  pub chain_get : (k : ℕ) (q r : List Bool) (m : Seen X) → 5 * k ≤ length q → r ≡ drop (5 * k) q → get (chain k q m).entries q ≡ get m.entries r
  chain_get zero q r m h e = ap (get m.entries) (sym (at_once q r e))
  chain_get (suc k) q r m h e = over_get q (chain k (drop 5 q) m) (more k q h).0 ∙ chain_get k (drop 5 q) r m (more k q h).1 (below k q r e)

  -- what is stored below is stored in the whole
  pub chain_exchanged : {h out : Option X} {may_grow : Bool} {room made : ℕ} (k : ℕ) (q r : List Bool) (e d : Seen X) → 5 * k ≤ length q → r ≡ drop (5 * k) q → IsSome h → IsInsertedBelow r h may_grow room e made out d → IsInsertedBelow q h may_grow room (chain k q e) made out (chain k q d)
  chain_exchanged {h} {out} {may_grow} {room} {made} zero q r e d l f g x = subst (λ p. IsInsertedBelow p h may_grow room e made out d) (at_once q r f) x
  chain_exchanged (suc k) q r e d l f g x =
      let n = child_of q in
      let c = chain k (drop 5 q) e in
      exchanged_below q c (chain k (drop 5 q) d) (over_seen n c (number_bound 5 q)) (more k q l).0 (over_taken n c (number_bound 5 q)) refl refl g
      (chain_exchanged k (drop 5 q) r e d (more k q l).1 (below k q r f) g x)

  -- ---- the node is split

  pub chain_split : (i j : ℕ) (s : List Bool) (m : Seen X) → chain (i + suc j) s m ≡ chain i s (over (child_of (drop (5 * i) s)) (chain j (drop (5 * i + 5) s) m))
  chain_split zero j s m = let z : 0 + suc j ≡ suc j = omega arith in ap (λ k. chain k s m) z
  chain_split (suc i) j s m =
      let e : drop (5 * i) (drop 5 s) ≡ drop (5 * suc i) s = let z : 5 + 5 * i ≡ 5 * suc i = omega arith in drop-drop (5 * i) 5 s ∙ ap (λ n. drop n s) z in
      let f : drop (5 * i + 5) (drop 5 s) ≡ drop (5 * suc i + 5) s = let z : 5 + (5 * i + 5) ≡ 5 * suc i + 5 = omega arith in drop-drop (5 * i + 5) 5 s ∙ ap (λ n. drop n s) z in
      let y : suc i + suc j ≡ suc (i + suc j) = omega arith in
      ap (λ k. chain k s m) y ∙ ap (over (child_of s)) (chain_split i j (drop 5 s) m ∙ (λ t. chain i (drop 5 s) (over (child_of (e t)) (chain j (f t) m))))

-- ---- the string of the skipped levels

-- the first five bits and more of a string that begins with s
begun : (k : ℕ) (q s : List Bool) → 5 * suc k ≤ length q → take (5 * suc k) q ≡ s → (child_of s ≡ child_of q) × (take (5 * k) (drop 5 q) ≡ drop 5 s)
begun k q s h e =
    let z : 5 + 5 * k ≡ 5 * suc k = omega arith in
    let l : length (take 5 q) ≡ 5 = length-take-le 5 q (omega (arith, h)) in
    let f : s ≡ take 5 q ++ take (5 * k) (drop 5 q) = sym e ∙ ap (λ i. take i q) (sym z) ∙ take-add 5 (5 * k) q in (
      sym (number-take 5 s) ∙ ap (λ x. number_from 5 (take 5 x)) f ∙ ap (number_from 5) (take_at (take 5 q) (take (5 * k) (drop 5 q)) 5 l) ∙ number-take 5 q,
      sym (drop_at (take 5 q) (take (5 * k) (drop 5 q)) 5 l) ∙ sym (ap (drop 5) f),
    )

-- a string that begins with the same five bits and goes on as s
pub begun_on : (k : ℕ) (q s : List Bool) → length s ≡ 5 * suc k → 5 ≤ length q → child_of s ≡ child_of q → take (5 * k) (drop 5 q) ≡ drop 5 s → take (5 * suc k) q ≡ s
begun_on k q s l h e f =
    let z : 5 + 5 * k ≡ 5 * suc k = omega arith in
    ap (λ i. take i q) (sym z) ∙ take-add 5 (5 * k) q ∙ (λ i. (sym (child_string-child_of q h) ∙ ap child_string (sym e) ∙ child_string-child_of s (omega (arith, l))) i ++ f i) ∙ take-append-drop 5 s

module _ {X : Type 0} where
  -- the way may be told by any string that begins with it
  pub chain_along : (k : ℕ) (q s : List Bool) (m : Seen X) → 5 * k ≤ length q → take (5 * k) q ≡ s → chain k s m ≡ chain k q m
  chain_along zero q s m h e = refl
  chain_along (suc k) q s m h e =
      let b = begun k q s h e in
      (λ i. over (b.0 i) (chain k (drop 5 s) m)) ∙ ap (over (child_of q)) (chain_along k (drop 5 q) (drop 5 s) m (more k q h).1 b.1)

  pub nothing_short : (q : List Bool) (n : ℕ) (m : Seen X) → n < 32 → length q < 5 → get (over n m).entries q ≡ None
  nothing_short q n m l h = sym (value_at q (over_seen n m l) h)

  -- off the way there is nothing
  pub chain_none : (k : ℕ) (q s : List Bool) (m : Seen X) → length s ≡ 5 * k → ((5 * k ≤ length q) × (take (5 * k) q ≡ s) → ⊥) → get (chain k s m).entries q ≡ None
  chain_none zero q [] m l f = absurd (f (omega arith, refl))
  chain_none zero q (b ∷ s) m l f = absurd (omega (arith, l))
  chain_none (suc k) q s m l f =
      let c = chain k (drop 5 s) m in
      let n = child_of s in
      elim (cases_lt (length q) 5) [
        | inl h ↦ nothing_short q n c (number_bound 5 s) h
        | inr h ↦ elim (cases_order n (child_of q)) [
          | inl e ↦
              let off : (5 * k ≤ length (drop 5 q)) × (take (5 * k) (drop 5 q) ≡ drop 5 s) → ⊥ = λ t. f (omega (arith, t.0, length-drop 5 q, h), begun_on k q s l h e t.1) in
              (λ i. get (over (e i) c).entries q) ∙ over_get q c h ∙ chain_none k (drop 5 q) (drop 5 s) m (omega (arith, l, length-drop 5 s)) off
          | inr (inl p) ↦ no_child_get (over_other q n c (number_bound 5 s) h (λ e. omega (arith, e, p)))
          | inr (inr p) ↦ no_child_get (over_other q n c (number_bound 5 s) h (λ e. omega (arith, e, p)))
        ]
      ]
