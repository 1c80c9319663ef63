-- The keys inside a prefix, and a map without them.
use Rattle.std.specs.Prelude.{◌≡◌, Bool, not, List, ◌∷◌, ◌++◌, None}
use Rattle.std.specs.FinMap.{get, retain_keys}
use Rattle.ipnet_blocks.specs.BitStrings.{begins}
use Rattle.trie_core.specs.Nodes.{BitMap}

-- the entries of m whose keys don't begin with q; q itself is removed too
abbrev pub outside : {X : Type 0} → BitMap X → List Bool → BitMap X
outside m q = retain_keys m (λ k. not (begins q k))

-- no key of m is strictly inside q
abbrev pub NothingInside : {X : Type 0} → BitMap X → List Bool → Type 0
NothingInside m q = (b : Bool) (k : List Bool) → get m (q ++ b ∷ k) ≡ None
