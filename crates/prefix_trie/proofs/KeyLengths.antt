-- How long the keys are that are left.
use Rattle.std.proofs.Common.{ℕ, ◌≤◌, Bool, List, [], ◌∷◌, ap, ◌∙◌, subst, sym, is_some, arith}
use Rattle.std.specs.FinMap.{entries, get-entries}
use Rattle.std.specs.FinMap.Entries.{where_key}
use Rattle.ipnet_blocks.specs.BitStrings.{bits_cmp}
use Rattle.trie_core.specs.Nodes.{BitMap}
use Rattle.trie_core.specs.InnerWalks.{KeysWithin}
use Rattle.prefix_trie.specs.InnerRoots.{KeysUpTo}
use Rattle.trie_core.proofs.Frames.{under_none, keys_where as under_where}
use Rattle.trie_core.proofs.Walks.{keys_listed as under_listed}

module _ {X : Type 0} where
  pub keys_more : (n m : ℕ) (es : List (List Bool × X)) → n ≤ m → KeysWithin n es → KeysWithin m es
  keys_more n m [] h k = tt
  keys_more n m (e ∷ es) h k = (omega (arith, h, k.0), keys_more n m es h k.1)

  pub keys_where : (n : ℕ) (p : List Bool → Bool) (es : List (List Bool × X)) → KeysWithin n es → KeysWithin n (where_key bits_cmp p es)
  keys_where n p es k = subst (KeysWithin n) (under_none (where_key bits_cmp p es)) (under_where n [] p es (subst (KeysWithin n) (sym (under_none es)) k))

  pub keys_listed : (n : ℕ) (m : BitMap X) → KeysUpTo n m → KeysWithin n (entries m)
  keys_listed n m k = subst (KeysWithin n) (under_none (entries m)) (under_listed n [] (entries m) (λ q s. omega (arith, k q (ap is_some (get-entries m q) ∙ s))))
