-- The maximal blocks of a set of addresses.
use Rattle.std.specs.Prelude.{◌≡◌, ℕ, ◌≤◌, ◌↔◌, Bool, List, [], ◌∷◌, ◌++◌, length, Contains, All, Any, zero, suc, ◌&&◌, if◌then◌else◌}
use Rattle.ipnet_addr.specs.Addresses.{Family, Ipv4, Ipv6, Address, IsAddress, width}
use Rattle.ipnet_blocks.specs.Blocks.{Block, IsBlock, HasAddress, IsLarger, IsAscending, first_of, left, right, family_block}

-- every address of the block is in the set
pub record IsWithin (S : Address → Type 0) (b : Block) : Type 0 where
  pub block : IsBlock b
  pub all : (x : Address) → HasAddress b x → S x

-- a block inside S that is inside no larger block inside S
pub record IsMaximalBlock (S : Address → Type 0) (b : Block) : Type 0 where
  pub within : IsWithin S b
  pub largest : (c : Block) → IsWithin S c → IsLarger c b → ⊥

-- the strictly ascending list of all such blocks
pub record IsMaximal (S : Address → Type 0) (bs : List Block) : Type 0 where
  pub ascending : IsAscending bs
  pub exact : (b : Block) → Contains bs b ↔ IsMaximalBlock S b

-- the union of the blocks is S
pub record IsUnion (S : Address → Type 0) (bs : List Block) : Type 0 where
  pub blocks : All IsBlock bs
  pub exact : (x : Address) → IsAddress x → S x ↔ Any (λ b. HasAddress b x) bs

-- no list of blocks with this union is shorter
abbrev pub IsShortest : (Address → Type 0) → List Block → Type 0
IsShortest S bs = (cs : List Block) → IsUnion S cs → length bs ≤ length cs

-- the blocks of length at least `shortest` between two addresses that are inside no larger such block
pub record IsCutBlock (family : Family) (start end shortest : ℕ) (b : Block) : Type 0 where
  pub within : IsWithin (λ x. (x.family ≡ family) × (start ≤ x.number) × (x.number ≤ end)) b
  pub long : shortest ≤ b.len
  pub largest : (c : Block) → shortest ≤ c.len → IsWithin (λ x. (x.family ≡ family) × (start ≤ x.number) × (x.number ≤ end)) c → IsLarger c b → ⊥

-- all blocks of the cut, ascending
pub record IsCut (family : Family) (start end shortest : ℕ) (bs : List Block) : Type 0 where
  pub ascending : IsAscending bs
  pub exact : (b : Block) → Contains bs b ↔ IsCutBlock family start end shortest b

-- whether all addresses of the block are in the set; here and below `k` is the number of free bits of the block
unfoldable pub all_in : (Address → Bool) → ℕ → Block → Bool
all_in s zero b = s (first_of b)
all_in s (suc k) b = all_in s k (left b) && all_in s k (right b)

-- the maximal blocks of the set inside the block: the block itself if all of it is in the set, else those of its halves, the lower half
-- first
unfoldable pub maximal_in : (Address → Bool) → ℕ → Block → List Block
maximal_in s zero b = if s (first_of b) then b ∷ [] else []
maximal_in s (suc k) b = if all_in s (suc k) b then b ∷ [] else (maximal_in s k (left b) ++ maximal_in s k (right b))

-- the maximal blocks of the set: the IPv4 blocks, then the IPv6 blocks
unfoldable pub maximal_of : (Address → Bool) → List Block
maximal_of s = maximal_in s (width Ipv4) (family_block Ipv4) ++ maximal_in s (width Ipv6) (family_block Ipv6)
