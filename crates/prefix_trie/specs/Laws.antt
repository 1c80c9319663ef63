-- The theorems about the bit strings of networks, about equality, and about matches in a map, as statements.
use Rattle.std.specs.Prelude.{◌≡◌, ◌<◌, ◌≤◌, ◌↔◌, ◌⊎◌, ℕ, IsTrue, Bool, List, None, length}
use Rattle.std.specs.FinMap.{get}
use Rattle.std.specs.declared.cmp.Ordering.TheVariants.{Less}
use Rattle.ipnet_addr.specs.Addresses.{Family}
use Rattle.ipnet_blocks.specs.BitStrings.{begins, bits_cmp}
use Rattle.ipnet_blocks.specs.Blocks.{IsInside, IsBefore, bit_string}
use Rattle.ipnet_blocks.specs.Networks.{Network, IsNetwork, block_of}
use Rattle.trie_core.specs.Bits.{number_from}
use Rattle.trie_core.specs.Nodes.{BitMap}
use Rattle.trie_core.specs.Search.{IsLongest, NoBeginning}
use Rattle.prefix_trie.specs.Equal.{same_maps, same_sets}
use Rattle.prefix_trie.specs.Seen.{SeenMap}

-- the string of m is a prefix of that of n exactly if all addresses of n are addresses of m
abbrev pub BegunAreInside : Type 0
BegunAreInside = (f : Family) (m n : Network) → IsNetwork f m → IsNetwork f n →
    IsTrue (begins (bit_string (block_of f m)) (bit_string (block_of f n))) ↔ IsInside (block_of f n) (block_of f m)

-- a walk visits m before n exactly if m has the lesser first address, or the same one and the lesser length
abbrev pub WalksAscend : Type 0
WalksAscend = (f : Family) (m n : Network) → IsNetwork f m → IsNetwork f n →
    (bits_cmp (bit_string (block_of f m)) (bit_string (block_of f n)) ≡ Less) ↔ IsBefore (block_of f m) (block_of f n)

-- of two keys of w bits, the key with the first bits s has the lesser masked key; or both masked keys are equal, and s is shorter
abbrev pub IsSooner : ℕ → List Bool → List Bool → Type 0
IsSooner w s t = (number_from w s < number_from w t) ⊎ ((number_from w s ≡ number_from w t) × (length s < length t))

-- a walk reaches the prefix with the bits s before the prefix with the bits t exactly if s has the lesser masked key, or the same and fewer bits
abbrev pub StringsAscend : Type 0
StringsAscend = (w : ℕ) (s t : List Bool) → length s ≤ w → length t ≤ w → (bits_cmp s t ≡ Less) ↔ IsSooner w s t

-- of two prefixes of a string, a walk reaches s before t exactly if s is shorter
abbrev pub PrefixesAscend : Type 0
PrefixesAscend = (q s t : List Bool) → IsTrue (begins s q) → IsTrue (begins t q) → (bits_cmp s t ≡ Less) ↔ (length s < length t)

-- if `==` of values holds exactly for equal values, that of maps holds exactly for maps with the same entries
abbrev pub SameEntries : Type 0 → Type 0
SameEntries X = (E : X → X → Bool) → ((x y : X) → IsTrue (E x y) ↔ (x ≡ y)) → (m n : SeenMap X) → IsTrue (same_maps E m n) ↔ (m.entries ≡ n.entries)

-- `==` of sets holds exactly for sets with the same members
abbrev pub SameMembers : Type 0
SameMembers = (s t : SeenMap (Unit {0})) → IsTrue (same_sets s t) ↔ (s.entries ≡ t.entries)

-- s begins with q, and with no longer key of m: network s is inside q, and inside no stored network strictly inside q
pub record IsGoverned {X : Type 0} (m : BitMap X) (q s : List Bool) : Type 0 where
  pub inside : IsTrue (begins q s)
  pub free : (k : List Bool) → length q < length k → IsTrue (begins k s) → get m k ≡ None

-- a string that q governs has the same longest match as q
abbrev pub GovernedMatch : Type 0 → Type 0
GovernedMatch X = (m : BitMap X) (q s : List Bool) → IsGoverned m q s →
    ((n : ℕ) (v : X) → IsLongest m s n v ↔ IsLongest m q n v) × (NoBeginning m s ↔ NoBeginning m q)
