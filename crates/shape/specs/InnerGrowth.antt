-- How much memory an allocator hands out.
use Rattle.std.specs.Prelude.{ℕ, ◌+◌, ◌*◌, ◌/◌, max}

-- the bytes of the block for so many bytes: 24, 40, 56, 72 and so on. Allocators usually round up to 16 bytes, and use 8 themselves
abbrev pub block_size : ℕ → ℕ
block_size bytes = max ((bytes + 7) / 16 * 16 + 8) 24
