-- The keys that searches of a map return.
use Rattle.std.specs.Prelude.{◌≡◌, length, take, Bool, IsTrue, List, [], ◌∷◌, Option, Some, None}
use Rattle.trie_core.specs.Nodes.{BitMap}
use Rattle.trie_core.specs.Search.{IsLongest, IsShortest}

module _ {K X : Type 0} (fits : K → Bool) (bits : K → List Bool) (of_bits : List Bool → K) where
  -- k is the longest prefix of q that is stored, rebuilt from its bits, and v is its value
  pub record IsLongestKey (m : BitMap X) (q : List Bool) (k : K) (v : X) : Type 0 where
    pub longest : IsLongest m q (length (bits k)) v
    pub beginning : bits k ≡ take (length (bits k)) q
    pub rebuilt : k ≡ of_bits (bits k)
    pub fitting : IsTrue (fits k)

  -- the same for the shortest
  pub record IsShortestKey (m : BitMap X) (q : List Bool) (k : K) (v : X) : Type 0 where
    pub shortest : IsShortest m q (length (bits k)) v
    pub beginning : bits k ≡ take (length (bits k)) q
    pub rebuilt : k ≡ of_bits (bits k)
    pub fitting : IsTrue (fits k)

-- the key of the first entry
abbrev pub first_key : {X : Type 0} → List (List Bool × X) → Option (List Bool)
first_key [] = None
first_key (e ∷ es) = Some e.0
