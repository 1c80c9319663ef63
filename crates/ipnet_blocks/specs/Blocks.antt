-- Blocks of addresses, their order and their bit strings.
use Rattle.std.specs.Prelude.{◌≡◌, ℕ, zero, suc, ◌+◌, ◌-◌, ◌*◌, ◌/◌, ◌%◌, ◌^◌, ◌<◌, ◌≤◌, ◌⊎◌, Bool, ◌&&◌, ◌||◌, nat_le, nat_lt, ◌==◌, List, [], ◌∷◌, ◌++◌, AllPairs}
use Rattle.ipnet_addr.specs.Addresses.{Family, width, rank, same_family, Address}

-- a block is a family, a length and a quotient; its addresses have that quotient
pub record Block : Type 0 where
  pub family : Family
  pub len : ℕ
  pub quotient : ℕ

-- the length is at most the width of the family, and the quotient has at most as many bits as the length
pub record IsBlock (b : Block) : Type 0 where
  pub in_width : b.len ≤ width b.family
  pub in_range : b.quotient < 2 ^ b.len

-- the number of bits of an address that the block leaves free
abbrev pub free_bits : Block → ℕ
free_bits b = width b.family - b.len

-- the address is in the block
abbrev pub HasAddress : Block → Address → Type 0
HasAddress b x = (x.family ≡ b.family) × (x.number / 2 ^ free_bits b ≡ b.quotient)

-- each address of a is in b
abbrev pub IsInside : Block → Block → Type 0
IsInside a b = (x : Address) → HasAddress a x → HasAddress b x

-- a is inside b, and they differ as sets
abbrev pub IsLarger : Block → Block → Type 0
IsLarger b a = IsInside a b × (IsInside b a → ⊥)

-- the test of `IsInside`, on numbers
abbrev pub is_inside : Block → Block → Bool
is_inside a b = same_family a.family b.family && nat_le b.len a.len && (a.quotient / 2 ^ (a.len - b.len) == b.quotient)

-- the least number of an address in the block
abbrev pub first : Block → ℕ
first b = b.quotient * 2 ^ free_bits b

-- the greatest number of an address in the block
abbrev pub last : Block → ℕ
last b = first b + (2 ^ free_bits b - 1)

-- the block of one address
abbrev pub host : Address → Block
host x = record { family = x.family; len = width x.family; quotient = x.number }

-- the block one bit shorter, for a block of positive length
abbrev pub parent : Block → Block
parent b = record { family = b.family; len = b.len - 1; quotient = b.quotient / 2 }

-- ordered by family, IPv4 first, then by least address, then by length
abbrev pub IsBefore : Block → Block → Type 0
IsBefore a b = (rank a.family < rank b.family)
    ⊎ ((rank a.family ≡ rank b.family) × (first a < first b))
    ⊎ ((rank a.family ≡ rank b.family) × (first a ≡ first b) × (a.len < b.len))

-- each block comes before all later blocks of the list
abbrev pub IsAscending : List Block → Type 0
IsAscending bs = AllPairs IsBefore bs

-- the p binary digits of q, most significant first
abbrev pub digits : ℕ → ℕ → List Bool
digits zero q = []
digits (suc p) q = digits p (q / 2) ++ (q % 2 == 1) ∷ []

-- the digits of the quotient, as many as the length: the first bits of each of its addresses
abbrev pub bit_string : Block → List Bool
bit_string b = digits b.len b.quotient

-- all addresses of a family
abbrev pub family_block : Family → Block
family_block f = record { family = f; len = 0; quotient = 0 }

-- the half of a block with the lower addresses; the block must have more than one address
abbrev pub left : Block → Block
left b = record { family = b.family; len = b.len + 1; quotient = 2 * b.quotient }

-- the half with the higher addresses
abbrev pub right : Block → Block
right b = record { family = b.family; len = b.len + 1; quotient = 2 * b.quotient + 1 }

-- the least address of the block
abbrev pub first_of : Block → Address
first_of b = record { family = b.family; number = first b }

-- the test of `HasAddress`
abbrev pub has_address : Block → Address → Bool
has_address b x = same_family x.family b.family && (x.number / 2 ^ free_bits b == b.quotient)

-- the test of `IsBefore`
abbrev pub is_before : Block → Block → Bool
is_before a b = nat_lt (rank a.family) (rank b.family)
    || ((rank a.family == rank b.family) && (nat_lt (first a) (first b) || ((first a == first b) && nat_lt a.len b.len)))

-- the test that two blocks are the same
abbrev pub same_block : Block → Block → Bool
same_block a b = same_family a.family b.family && (a.len == b.len) && (a.quotient == b.quotient)

-- two blocks of the same positive length with the same parent
abbrev pub AreSiblings : Block → Block → Type 0
AreSiblings a b = (0 < a.len) × (a.len ≡ b.len) × IsInside b (parent a)
