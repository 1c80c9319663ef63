-- The theorems about blocks, as statements.
use Rattle.std.specs.Prelude.{◌≡◌, ℕ, ◌-◌, ◌<◌, ◌≤◌, ◌⊎◌, ◌↔◌, ◌++◌, Bool, true, false, IsTrue, List, length, replicate, zero, bit_and, Contains}
use Rattle.std.specs.declared.cmp.Ordering.TheVariants.{Less}
use Rattle.ipnet_addr.specs.Addresses.{Family, Address, IsAddress, width}
use Rattle.ipnet_addr.specs.Masks.{IsMask}
use Rattle.ipnet_addr.specs.Ranges.{numbers}
use Rattle.ipnet_blocks.specs.Blocks.{Block, IsBlock, HasAddress, IsInside, IsLarger, IsBefore, IsAscending, is_inside, bit_string, digits, first, last, parent}
use Rattle.ipnet_blocks.specs.BitStrings.{bits_cmp, begins}
use Rattle.ipnet_blocks.specs.Maximal.{IsWithin, IsMaximalBlock, IsMaximal, IsUnion, IsShortest, IsCut, maximal_of}
use Rattle.ipnet_blocks.specs.Aggregated.{IsAggregated, AreAggregated}
use Rattle.ipnet_blocks.specs.Cuts.{Limits, AreLimits, cut, after_first}
use Rattle.ipnet_blocks.specs.Networks.{Network}
use Rattle.ipnet_blocks.specs.Hosts.{IsHost, host_ends}

-- of two blocks with a common address, one is inside the other
abbrev pub AreNested : Type 0
AreNested = (a b : Block) (x : Address) → IsBlock a → IsBlock b → HasAddress a x → HasAddress b x → IsInside a b ⊎ IsInside b a

-- inclusion of blocks is decided on numbers
abbrev pub InsideByNumbers : Type 0
InsideByNumbers = (a b : Block) → IsBlock a → IsBlock b → IsInside a b ↔ IsTrue (is_inside a b)

-- within a family, the bit string of b is a prefix of that of a exactly if a is inside b
abbrev pub BeginsIsInside : Type 0
BeginsIsInside = (a b : Block) → IsBlock a → IsBlock b → a.family ≡ b.family → IsTrue (begins (bit_string b) (bit_string a)) ↔ IsInside a b

-- of two different blocks, one comes before the other
abbrev pub OrderIsTotal : Type 0
OrderIsTotal = (a b : Block) → IsBefore a b ⊎ (a ≡ b) ⊎ IsBefore b a

-- at most one of two blocks comes before the other
abbrev pub OrderIsStrict : Type 0
OrderIsStrict = (a b : Block) → IsBefore a b → IsBefore b a → ⊥

-- a block before the earlier of two comes before the later
abbrev pub OrderIsTransitive : Type 0
OrderIsTransitive = (a b c : Block) → IsBefore a b → IsBefore b c → IsBefore a c

-- a set has at most one list of its maximal blocks
abbrev pub MaximalIsUnique : Type 0
MaximalIsUnique = (s : Address → Bool) (bs cs : List Block) → IsMaximal (λ x. IsTrue (s x)) bs → IsMaximal (λ x. IsTrue (s x)) cs → bs ≡ cs

-- no list of blocks with the same union is shorter
abbrev pub MaximalIsShortest : Type 0
MaximalIsShortest = (s : Address → Bool) (bs : List Block) → IsMaximal (λ x. IsTrue (s x)) bs → IsShortest (λ x. IsTrue (s x)) bs

-- an ascending list with the same union and no more blocks is the list of the maximal blocks
abbrev pub ShortestIsMaximal : Type 0
ShortestIsMaximal = (s : Address → Bool) (bs cs : List Block) → IsMaximal (λ x. IsTrue (s x)) bs → IsUnion (λ x. IsTrue (s x)) cs → IsAscending cs → length cs ≤ length bs → bs ≡ cs

-- a block is maximal if the block one bit shorter isn't within the set
abbrev pub ParentIsEnough : Type 0
ParentIsEnough = (s : Address → Bool) (b : Block) → IsWithin (λ x. IsTrue (s x)) b → zero < b.len → (IsWithin (λ x. IsTrue (s x)) (parent b) → ⊥) ↔ IsMaximalBlock (λ x. IsTrue (s x)) b

-- the union of the maximal blocks of a set is the set
abbrev pub MaximalIsUnion : Type 0
MaximalIsUnion = (s : Address → Bool) (bs : List Block) → IsMaximal (λ x. IsTrue (s x)) bs → IsUnion (λ x. IsTrue (s x)) bs

-- each set has a list of maximal blocks, and the search finds it
abbrev pub SearchIsMaximal : Type 0
SearchIsMaximal = (s : Address → Bool) → IsMaximal (λ x. IsTrue (s x)) (maximal_of s)

-- within a family the order is that of the bit strings
abbrev pub OrderIsOfStrings : Type 0
OrderIsOfStrings = (a b : Block) → IsBlock a → IsBlock b → a.family ≡ b.family → IsBefore a b ↔ (bits_cmp (bit_string a) (bit_string b) ≡ Less)

-- two blocks with the same addresses are the same block
abbrev pub BlockIsItsAddresses : Type 0
BlockIsItsAddresses = (a b : Block) → IsBlock a → IsBlock b → IsInside a b → IsInside b a → a ≡ b

-- the parent of a block is the smallest larger block
abbrev pub ParentIsNext : Type 0
ParentIsNext = (b : Block) → IsBlock b → zero < b.len → IsBlock (parent b) × IsLarger (parent b) b × ((c : Block) → IsBlock c → IsLarger c b → IsInside (parent b) c)

-- the addresses of a block are those from its first to its last
abbrev pub BlockIsInterval : Type 0
BlockIsInterval = (b : Block) (x : Address) → HasAddress b x ↔ ((x.family ≡ b.family) × (first b ≤ x.number) × (x.number ≤ last b))

-- the digits of a mask are ones followed by zeros
abbrev pub MaskIsOnesThenZeros : Type 0
MaskIsOnesThenZeros = (m : Address) (len : ℕ) → IsAddress m
    → IsMask m len ↔ ((len ≤ width m.family) × (digits (width m.family) m.number ≡ replicate len true ++ replicate (width m.family - len) false))

-- an address is in a block exactly if its bits under the block's mask are those of the block
abbrev pub MaskFindsBlock : Type 0
MaskFindsBlock = (b : Block) (x m : Address) → IsAddress x → x.family ≡ b.family → m.family ≡ b.family → IsMask m b.len → HasAddress b x ↔ (bit_and x.number m.number ≡ first b)

-- the list of a subnet iterator has exactly the blocks of its limits
abbrev pub CutIsExact : Type 0
CutIsExact = (f : Family) (l : Limits) → AreLimits f l → IsCut f l.start l.end l.shortest (cut f l)

-- the hosts of a network are the addresses from its first to its last host
abbrev pub HostsAreExact : Type 0
HostsAreExact = (b : Block) (n : ℕ) → Contains (numbers (host_ends b)) n ↔ IsHost b (record { family = b.family; number = n })

-- aggregating maximal blocks again doesn't change them
abbrev pub AggregatedIsStable : Type 0
AggregatedIsStable = (given bs cs : List Block) → IsAggregated given bs → IsAggregated bs cs → cs ≡ bs

-- aggregating networks again doesn't change the list
abbrev pub NetworksStayAggregated : Type 0
NetworksStayAggregated = (f : Family) (given ns ms : List Network) → AreAggregated f given ns → AreAggregated f ns ms → ms ≡ ns

-- the limits after a block are valid limits
abbrev pub LimitsStay : Type 0
LimitsStay = (f : Family) (l : Limits) → AreLimits f l → AreLimits f (after_first (width f) l)
