-- How many entries a map has, and how long its keys are, after a change.
use Rattle.std.proofs.Common.{◌≡◌, ℕ, ◌+◌, ◌-◌, ◌≤◌, Bool, true, false, cond, not, List, [], ◌∷◌, length, refl, sym, ap, ◌∙◌, Option, Some, None, is_some, IsSome, arith}
use Rattle.std.specs.FinMap.{len, get, insert, remove, empty, len-insert, len-remove, empty_of_len, get-empty, get-insert, get-remove}
use Rattle.ipnet_blocks.specs.BitStrings.{bits_cmp, begins}
use Rattle.trie_core.specs.Nodes.{BitMap}
use Rattle.trie_core.proofs.Strings.{bits_total, same, same-Decides}
use Rattle.trie_core.specs.Inside.{outside}
use Rattle.trie_core.proofs.Inside.{get-outside, outside_all}
use Rattle.prefix_trie.specs.InnerRoots.{KeysUpTo}

module _ {X : Type 0} where
  pub one_less : (m : BitMap X) (q : List Bool) (o : Option X) (b : Bool) → o ≡ get m q → is_some o ≡ b → len (remove m q) ≡ cond b (len m - 1) (len m)
  one_less m q o b e f = len-remove bits_total m q ∙ ap (λ x. cond x (len m - 1) (len m)) (sym (ap is_some e) ∙ f)

  pub one_more : (m : BitMap X) (q : List Bool) (v : X) (o : Option X) (b : Bool) → o ≡ get m q → is_some o ≡ b → len (insert m q v) ≡ cond b (len m) (len m + 1)
  one_more m q v o b e f = len-insert bits_total m q v ∙ ap (λ x. cond x (len m) (len m + 1)) (sym (ap is_some e) ∙ f)

  -- a map with a key has an entry
  pub not_empty : (m : BitMap X) (q : List Bool) (o : Option X) → o ≡ get m q → is_some o ≡ true → 1 ≤ len m
  not_empty m q o e f = grind (arith, empty_of_len m, get-empty {X = X} bits_cmp q)

  pub kept_some : (b : Bool) (o : Option X) → is_some (cond b o None) ≡ true → is_some o ≡ true
  kept_some b o e = grind arith

  -- a write at a key that is there
  pub len_kept : (m : BitMap X) (q : List Bool) (v : X) → IsSome (get m q) → len (insert m q v) ≡ len m
  len_kept m q v h = one_more m q v (get m q) true refl h

  keys_by : (n : ℕ) (m : BitMap X) (q x : List Bool) (o : Option X) → KeysUpTo n m → length q ≤ n → (b : Bool) → same x q ≡ b → is_some (cond b o (get m x)) ≡ true → length x ≤ n
  keys_by n m q x o k h true e s = omega (arith, h, ap length ((same-Decides x q).0 e))
  keys_by n m q x o k h false e s = k x s

  pub keys_insert : (n : ℕ) (m w : BitMap X) (q : List Bool) (v : X) → KeysUpTo n m → length q ≤ n → w ≡ insert m q v → KeysUpTo n w
  keys_insert n m w q v k h e x s = keys_by n m q x (Some v) k h (same x q) refl (sym (ap is_some (ap (λ y. get y x) e ∙ get-insert bits_total m q v x)) ∙ s)

  pub keys_remove : (n : ℕ) (m w : BitMap X) (q : List Bool) → KeysUpTo n m → length q ≤ n → w ≡ remove m q → KeysUpTo n w
  keys_remove n m w q k h e x s = keys_by n m q x None k h (same x q) refl (sym (ap is_some (ap (λ y. get y x) e ∙ get-remove bits_total m q x)) ∙ s)

  pub keys_empty : (n : ℕ) (m : BitMap X) → m ≡ empty → KeysUpTo n m
  keys_empty n m e x s = let z = ap is_some (ap (λ w. get w x) e ∙ get-empty bits_cmp x) in cc

  pub keys_kept : (n : ℕ) (m : BitMap X) (q : List Bool) (v : X) → KeysUpTo n m → IsSome (get m q) → KeysUpTo n (insert m q v)
  keys_kept n m q v k h = keys_insert n m (insert m q v) q v k (k q h) refl

  pub keys_outside : (n : ℕ) (m w : BitMap X) (q : List Bool) → KeysUpTo n m → w ≡ outside m q → KeysUpTo n w
  keys_outside n m w q k e x s = k x (kept_some (not (begins q x)) (get m x) (sym (ap is_some (ap (λ y. get y x) e ∙ get-outside m q x)) ∙ s))

  -- an empty string has no bits, and nothing lies outside it
  pub outside_none : (m : BitMap X) (q : List Bool) → length q ≡ 0 → empty ≡ outside m q
  outside_none m [] h = sym (outside_all m)
  outside_none m (b ∷ q) h = absurd (omega (arith, h))
