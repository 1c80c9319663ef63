-- The rest of a walk over the entries whose keys are prefixes of a string.
use Rattle.std.specs.Prelude.{ℕ, ◌+◌, ◌-◌, ◌<◌, ◌≤◌, ◌≡◌, length, drop, nat_lt, Bool, true, not, ◌&&◌, List, [], Option, Some, None}
use Rattle.std.specs.Borrow.{Bor}
use Rattle.std.specs.FinMap.{entries, get}
use Rattle.std.specs.FinMap.Entries.{where_key}
use Rattle.ipnet_blocks.specs.BitStrings.{bits_cmp, begins}
use Rattle.trie_core.specs.InnerPlaces.{place_of, place_string}
use Rattle.trie_core.specs.Nodes.{BitMap, Seen}
use Rattle.trie_core.specs.InnerNodes.{under}

-- k is a prefix of q that has five bits or more, or whose place is n or later
abbrev pub is_left : List Bool → ℕ → List Bool → Bool
is_left q n k = begins k q && not (nat_lt (length k) 5 && nat_lt (place_of k) n)

module _ {X : Type 0} where
  -- at the places from n on, no prefix of q is a key
  abbrev pub NoneFrom : BitMap X → List Bool → ℕ → Type 0
  NoneFrom m q n = (s : List Bool) → length s < 5 → begins s q ≡ true → n ≤ place_of s → get m s ≡ None

  -- of the prefixes of q at the places from n on, the first that is a key is at p, with the value v
  pub record IsFirstFrom (m : BitMap X) (q : List Bool) (n p : ℕ) (v : X) : Type 0 where
    pub from : n ≤ p
    pub below : p < 31
    pub begun : begins (place_string p) q ≡ true
    pub found : get m (place_string p) ≡ Some v
    pub first : (s : List Bool) → length s < 5 → begins s q ≡ true → n ≤ place_of s → place_of s < p → get m s ≡ None

  -- the entries of the node at the trail whose keys are prefixes of q there, from place n on
  abbrev pub cover_rest : Option (Bor (Seen X)) → List Bool → ℕ → List Bool → List (List Bool × X)
  cover_rest None q n trail = []
  cover_rest (Some m) q n trail = under trail (where_key bits_cmp (is_left q n) (entries m.now.entries))

  abbrev pub cover_weight : Option (Bor (Seen X)) → List Bool → ℕ
  cover_weight None q = 0
  cover_weight (Some m) q = length q + 1

-- r is the rest of q, which has at most 128 bits, and n is a place or the one after the last
pub record IsRest (q r : List Bool) (n : ℕ) : Type 0 where
  pub within : length r ≤ length q
  pub fits : length q ≤ 128
  pub rest : drop (length q - length r) q ≡ r
  pub place : n ≤ 31
