-- The hosts of a network.
use Rattle.std.specs.Prelude.{◌≡◌, ◌≢◌, ◌+◌, ◌-◌, ◌<◌, ◌&&◌, nat_lt, if◌then◌else◌}
use Rattle.ipnet_addr.specs.Addresses.{Ipv4, same_family, Address}
use Rattle.ipnet_addr.specs.Ranges.{Ends}
use Rattle.ipnet_blocks.specs.Blocks.{Block, HasAddress, first, last}

-- an address of the block; below length 31, the least and the greatest address of an IPv4 block are no hosts
abbrev pub IsHost : Block → Address → Type 0
IsHost b x = HasAddress b x × ((b.family ≡ Ipv4) × (b.len < 31) → (x.number ≢ first b) × (x.number ≢ last b))

-- the least and the greatest host
abbrev pub host_ends : Block → Ends
host_ends b = if same_family b.family Ipv4 && nat_lt b.len 31 then record { start = first b + 1; end = last b - 1 } else record { start = first b; end = last b }
