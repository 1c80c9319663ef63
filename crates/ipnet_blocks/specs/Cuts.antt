-- The blocks that a subnet iterator returns, and its state.
use Rattle.std.specs.Prelude.{ℕ, zero, suc, ◌+◌, ◌-◌, ◌/◌, ◌%◌, ◌^◌, ◌<◌, ◌≤◌, ◌&&◌, nat_le, nat_lt, ◌==◌, if◌then◌else◌, ◌↔◌, List, [], ◌∷◌, map, Contains, ◌≡◌}
use Rattle.ipnet_addr.specs.Addresses.{Family, width}
use Rattle.ipnet_blocks.specs.Blocks.{Block, IsBlock, IsInside, IsAscending}
use Rattle.ipnet_blocks.specs.Networks.{Network, net_of}

-- the ends of a range of addresses, and the least length of a block
pub record Limits : Type 0 where
  pub start : ℕ
  pub end : ℕ
  pub shortest : ℕ

-- they are valid limits in this family
pub record AreLimits (family : Family) (l : Limits) : Type 0 where
  pub start_in_range : l.start < 2 ^ width family
  pub end_in_range : l.end < 2 ^ width family
  pub in_width : l.shortest ≤ width family

-- the number of free bits of the largest block from start to at most end, at most k
unfoldable pub most_free : ℕ → ℕ → ℕ → ℕ
most_free zero start end = zero
most_free (suc k) start end = if start % 2 ^ suc k == 0 && nat_le (start + 2 ^ suc k) (end + 1) then suc k else most_free k start end

-- the same for the first block of these limits; an address has w bits
abbrev pub first_free : ℕ → Limits → ℕ
first_free w l = most_free (w - l.shortest) l.start l.end

-- the block that begins at start and leaves `free` bits free
abbrev pub block_from : Family → ℕ → ℕ → Block
block_from f start free = record { family = f; len = width f - free; quotient = start / 2 ^ free }

-- the blocks of `IsCut` from these limits on, at most n of them
unfoldable pub cut_within : ℕ → Family → Limits → List Block
cut_within zero f l = []
cut_within (suc n) f l = if nat_le l.start l.end then (block_from f l.start (first_free (width f) l) ∷ cut_within n f (record l { start = l.start + 2 ^ first_free (width f) l })) else []

-- all blocks of `IsCut`, ascending
abbrev pub cut : Family → Limits → List Block
cut f l = cut_within (l.end + 1 - l.start) f l

-- the blocks as networks without host bits
abbrev pub subnets : Family → Limits → List Network
subnets f l = map net_of (cut f l)

-- The limits after the first block; an address has w bits. The start is the address after the block. If the block ends at the greatest
-- address, the start is this address and the end is 0. The end is also 0 after a block that is only the end.
unfoldable pub after_first : ℕ → Limits → Limits
after_first w l =
    let next = l.start + 2 ^ first_free w l in
    if nat_lt l.end l.start then l
    else (if nat_le (2 ^ w) next then record l { start = 2 ^ w - 1; end = 0 } else record l { start = next; end = if l.start == l.end then 0 else l.end })

-- the blocks of length n inside b, ascending
pub record AreSubnets (b : Block) (n : ℕ) (bs : List Block) : Type 0 where
  pub ascending : IsAscending bs
  pub exact : (c : Block) → Contains bs c ↔ IsBlock c × (c.len ≡ n) × IsInside c b
