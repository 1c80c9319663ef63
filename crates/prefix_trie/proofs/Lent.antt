-- The key that comes next, and what a write leaves of it.
use Rattle.std.proofs.Common.{◌≡◌, ℕ, ◌≤◌, Bool, true, cond, List, [], ◌∷◌, length, refl, sym, ap, subst, ◌∙◌, Option, Some, None, is_some, IfSome, IsSome, arith}
use Rattle.std.specs.Ordering.{eq_by_cmp}
use Rattle.std.specs.FinMap.{find, get, insert, entries, get-entries, get-insert}
use Rattle.std.specs.FinMap.Entries.{where_key, find-where_key}
use Rattle.trie_core.specs.Bits.{is_from}
use Rattle.ipnet_blocks.specs.BitStrings.{bits_cmp}
use Rattle.trie_core.proofs.Strings.{bits_total, same-refl}
use Rattle.trie_core.specs.Nodes.{BitMap}
use Rattle.trie_core.specs.InnerWalks.{KeysWithin}
use Rattle.trie_core.proofs.Frames.{bits_alike}
use Rattle.prefix_trie.proofs.Entries.{kept_some}
use Rattle.prefix_trie.proofs.KeyLengths.{keys_where}

from_none : (k : List Bool) → is_from [] true k ≡ true
from_none [] = refl
from_none (b ∷ k) = refl

module _ {X : Type 0} where
  -- all entries are those from the empty string on
  pub all_from : (es : List (List Bool × X)) → where_key bits_cmp (is_from [] true) es ≡ es
  all_from [] = refl
  all_from (e ∷ es) = ap (λ b. cond b (e ∷ where_key bits_cmp (is_from [] true) es) (where_key bits_cmp (is_from [] true) es)) (from_none e.0) ∙ ap (λ l. e ∷ l) (all_from es)

  -- the first of some entries of a map is stored, and no longer than its keys
  pub first_within : (n : ℕ) (p : List Bool → Bool) (m : BitMap X) (q : List Bool) (v : X) (es : List (List Bool × X)) → where_key bits_cmp p (entries m) ≡ (q, v) ∷ es → KeysWithin n (entries m) → length q ≤ n
  first_within n p m q v es e k = (subst (KeysWithin n) e (keys_where n p (entries m) k)).0

  pub first_stored : (p : List Bool → Bool) (m : BitMap X) (q : List Bool) (v : X) (es : List (List Bool × X)) → where_key bits_cmp p (entries m) ≡ (q, v) ∷ es → IsSome (get m q)
  first_stored p m q v es e =
      let f : find bits_cmp q (where_key bits_cmp p (entries m)) ≡ Some v = ap (find bits_cmp q) e ∙ ap (λ b. cond b (Some v) (find bits_cmp q es)) (same-refl q) in
      let g : cond (p q) (find bits_cmp q (entries m)) None ≡ Some v = sym (find-where_key bits_cmp p q (bits_alike p q) (entries m)) ∙ f in
      ap is_some (get-entries m q) ∙ kept_some (p q) (find bits_cmp q (entries m)) (ap is_some g)

  written_some : (b : Bool) (w : X) (o : Option X) → IsSome o → IsSome (cond b (Some w) o)
  written_some b w o h = grind arith

  -- a write at one key leaves another where it is
  pub still : (m : BitMap X) (p : List Bool) (w : X) (n : ℕ) (o : Option (List Bool)) → IfSome o (λ q. (length q ≤ 128) × (length q ≤ n) × IsSome (get m q)) → IfSome o (λ q. (length q ≤ 128) × (length q ≤ n) × IsSome (get (insert m p w) q))
  still m p w n None h = tt
  still m p w n (Some q) h = (h.0, h.1, subst IsSome (sym (get-insert bits_total m p w q)) (written_some (eq_by_cmp bits_cmp q p) w (get m q) h.2))
