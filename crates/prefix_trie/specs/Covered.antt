-- The number of addresses that the keys of a map cover. An address is a string with as many bits as a number has.
use Rattle.std.specs.Prelude.{ℕ, zero, suc, ◌+◌, cond, Bool, true, false, List, [], ◌∷◌}
use Rattle.std.specs.List.{list_any}
use Rattle.std.specs.FinMap.{entries}
use Rattle.ipnet_blocks.specs.BitStrings.{begins}
use Rattle.trie_core.specs.Nodes.{BitMap}

-- the number of strings of w bits that pass a test
unfoldable pub count_strings : ℕ → (List Bool → Bool) → ℕ
count_strings zero p = cond (p []) 1 0
count_strings (suc w) p = count_strings w (λ s. p (false ∷ s)) + count_strings w (λ s. p (true ∷ s))

module _ {X : Type 0} where
  -- whether s begins with a key of these entries
  abbrev pub is_begun : List (List Bool × X) → List Bool → Bool
  is_begun es s = list_any (λ e. begins e.0 s) es

  -- the number of strings of w bits that begin with a key, each counted once
  abbrev pub covered_count : ℕ → BitMap X → ℕ
  covered_count w m = count_strings w (is_begun (entries m))
