-- Flat lists: the shortest lists of one-hop blocks.
use Rattle.std.specs.Prelude.{◌≡◌, ◌==◌, ℕ, zero, suc, ◌↔◌, if◌then◌else◌, List, [], ◌∷◌, ◌++◌, Option, Some, None, IsSome, All, Any, AllPairs, Contains, map}
use Rattle.ipnet_addr.specs.Addresses.{Address, IsAddress, width, Ipv4, Ipv6}
use Rattle.ipnet_blocks.specs.Blocks.{Block, IsBlock, HasAddress, IsBefore, first_of, left, right, family_block}
use Rattle.ipnet_blocks.specs.Maximal.{IsMaximalBlock}

-- a block with its one hop
pub record Piece : Type 0 where
  pub block : Block
  pub number : ℕ

-- the ascending list of the maximal blocks of the addresses of each hop, each with the hop's number
pub record IsFlat (h : Address → Option ℕ) (ps : List Piece) : Type 0 where
  pub ascending : AllPairs (λ p q. IsBefore p.block q.block) ps
  pub exact : (p : Piece) → Contains ps p ↔ IsMaximalBlock (λ x. h x ≡ Some p.number) p.block

-- the blocks of a flat list
abbrev pub blocks_of : List Piece → List Block
blocks_of ps = map (λ p. p.block) ps

-- all addresses of the block have one hop
pub record HasOneHop (h : Address → Option ℕ) (b : Block) : Type 0 where
  pub block : IsBlock b
  pub number : ℕ
  pub all : (x : Address) → HasAddress b x → h x ≡ Some number

-- one-hop blocks that cover every address with a hop
pub record IsAdmissible (h : Address → Option ℕ) (bs : List Block) : Type 0 where
  pub one_hop : All (HasOneHop h) bs
  pub covers : (x : Address) → IsAddress x → IsSome (h x) → Any (λ b. HasAddress b x) bs

-- the number that two hops have in common. Below, `k` is the number of free bits of the block
abbrev pub common : Option ℕ → Option ℕ → Option ℕ
common None o = None
common (Some j) None = None
common (Some j) (Some k) = if j == k then Some j else None

-- the number that all addresses of the block have, or none if they differ or one has none
unfoldable pub one_hop_in : (Address → Option ℕ) → ℕ → Block → Option ℕ
one_hop_in h zero b = h (first_of b)
one_hop_in h (suc k) b = common (one_hop_in h k (left b)) (one_hop_in h k (right b))

-- only the block with its number, if it has one; else the given pieces
abbrev pub piece_or : Block → Option ℕ → List Piece → List Piece
piece_or b None ps = ps
piece_or b (Some n) ps = record { block = b; number = n } ∷ []

-- the flat list inside the block: the block itself if all its addresses have one number, else those of its halves, lower half first
unfoldable pub flat_in : (Address → Option ℕ) → ℕ → Block → List Piece
flat_in h zero b = piece_or b (h (first_of b)) []
flat_in h (suc k) b = piece_or b (one_hop_in h (suc k) b) (flat_in h k (left b) ++ flat_in h k (right b))

-- the flat list: that of IPv4, followed by that of IPv6
unfoldable pub flat_of : (Address → Option ℕ) → List Piece
flat_of h = flat_in h (width Ipv4) (family_block Ipv4) ++ flat_in h (width Ipv6) (family_block Ipv6)
