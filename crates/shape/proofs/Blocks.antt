-- The block that an allocator hands out is as large as what was asked for, and has no room for one more large item.
use Rattle.std.proofs.Common.{ℕ, ◌+◌, ◌*◌, ◌<◌, ◌≤◌, arith}
use Rattle.std.proofs.Math.Nat.{le-mul_of_pos_right, mul_comm}
use Rattle.shape.specs.InnerGrowth.{block_size}

pub block-least : (b : ℕ) → b ≤ block_size b
block-least b = omega arith

pub block-most : (k n : ℕ) → 0 < k → 16 ≤ n → block_size (k * n) < k * n + n
block-most k n l m =
    let e : n ≤ k * n = rw (mul_comm k n) (le-mul_of_pos_right n l) in
    omega (arith, m, e)
