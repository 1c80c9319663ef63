-- Networks: an address of some family with its host bits, and a prefix length.
use Rattle.std.specs.Prelude.{◌≡◌, ℕ, ◌-◌, ◌/◌, ◌^◌, ◌<◌, ◌≤◌, ◌⊎◌}
use Rattle.ipnet_addr.specs.Addresses.{Family, width}
use Rattle.ipnet_blocks.specs.Blocks.{Block, first}

-- the number of the network's address, with its host bits, and the prefix length
pub record Network : Type 0 where
  pub number : ℕ
  pub len : ℕ

-- the number and the length are in the range of this family
pub record IsNetwork (family : Family) (n : Network) : Type 0 where
  pub in_width : n.len ≤ width family
  pub in_range : n.number < 2 ^ width family

-- the block with the same addresses: those that begin with the first `len` bits of the network's address
abbrev pub block_of : Family → Network → Block
block_of family n = record { family = family; len = n.len; quotient = n.number / 2 ^ (width family - n.len) }

-- the network of a block: the block's least address and length
abbrev pub net_of : Block → Network
net_of b = record { number = first b; len = b.len }

-- the network has no host bits: it is the network of its block
abbrev pub IsTruncated : Family → Network → Type 0
IsTruncated family n = n ≡ net_of (block_of family n)

-- ordered by address, then by length
abbrev pub IsNetworkBefore : Network → Network → Type 0
IsNetworkBefore m n = (m.number < n.number) ⊎ ((m.number ≡ n.number) × (m.len < n.len))
