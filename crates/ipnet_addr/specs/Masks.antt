-- Network masks.
use Rattle.std.specs.Prelude.{◌≡◌, ℕ, ◌-◌, ◌*◌, ◌^◌, ◌≤◌}
use Rattle.ipnet_addr.specs.Addresses.{Address, width}

-- `len` ones followed by zeros, `bits` bits in all
abbrev pub mask_bits : ℕ → ℕ → ℕ
mask_bits bits len = (2 ^ len - 1) * 2 ^ (bits - len)

-- the address is the mask of this length
abbrev pub IsMask : Address → ℕ → Type 0
IsMask m len = (len ≤ width m.family) × (m.number ≡ mask_bits (width m.family) len)
