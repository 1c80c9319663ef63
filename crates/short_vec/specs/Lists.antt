-- Abbreviations for `ShortVec`.
use Rattle.std.specs.Prelude.{◌≡◌, ℕ, List, length}
use Rattle.std.specs.declared.alloc.Global.{Global}
use Rattle.short_vec.specs.declared.short_vec.ShortVec.{ShortVec}

module _ {X : Type 0} where
  -- `v.as_slice()`
  abbrev pub short_items : ShortVec X → List X
  short_items v = v.items

  -- `v.len()`
  abbrev pub short_len : ShortVec X → ℕ
  short_len v = v.len

  -- `v.capacity()`
  abbrev pub short_capacity : ShortVec X → ℕ
  short_capacity v = v.cap

  -- `v.allocator()`
  abbrev pub short_allocator : ShortVec X → Global
  short_allocator v = v.alloc

  -- the length is the number of items
  pub short_counted : (v : ShortVec X) → short_len v ≡ length (short_items v)
  short_counted v = v.ok.0
