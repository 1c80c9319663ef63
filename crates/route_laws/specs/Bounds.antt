-- Bounds on numbers of blocks.
use Rattle.std.specs.Prelude.{ℕ, ◌-◌, ◌&&◌, nat_lt, if◌then◌else◌, List, filter, sum_by}
use Rattle.ipnet_addr.specs.Addresses.{Family, same_family}
use Rattle.ipnet_blocks.specs.Blocks.{Block, is_inside}
use Rattle.route_laws.specs.Flats.{Piece}
use Rattle.route_laws.specs.Tables.{Route}

-- the most blocks that a stored block m strictly inside n adds to those that n governs
abbrev pub excess : Block → Block → ℕ
excess n m = if is_inside m n && nat_lt n.len m.len then m.len - n.len - 1 else 0

-- the pieces of one family
abbrev pub pieces_in : Family → List Piece → List Piece
pieces_in f ps = filter (λ p. same_family p.block.family f) ps

-- the sum of the lengths of the stored networks of one family
abbrev pub lengths_in : Family → List Route → ℕ
lengths_in f M = sum_by (λ r. r.block.len) (filter (λ r. same_family r.block.family f) M)
