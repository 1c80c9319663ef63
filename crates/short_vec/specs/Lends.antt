-- The value of a `ShortVec` after a `&mut` to one of its items was returned.
use Rattle.std.specs.Prelude.{ℕ, slice_set}
use Rattle.std.specs.Borrow.{Lends, RattleType, MutBor, Fml}
use mathlib.Core.Path.{sym, ◌∙◌}
use lib.ListN.{length-set}
use Rattle.short_vec.specs.declared.short_vec.ShortVec.{ShortVec}
use Rattle.short_vec.specs.contracts.short_vec.ShortVec.{the_row}

module _ {X : Type 0} where
  -- the list after `list[at] = x`
  abbrev pub short_with_item : ShortVec X → ℕ → X → ShortVec X
  short_with_item v at x = record { ptr = v.ptr; len = v.len; cap = v.cap; alloc = v.alloc; items = slice_set v.items at x; ok = (v.ok.0 ∙ sym (length-set v.items at x), v.ok.1); small = v.small }

-- v is a `&mut ShortVec<T>` that was used up to make r
module _ (T : RattleType) (v : MutBor (ShortVec T.Denot)) where
  -- once the borrow r ends, the item at this index is the last value written through r
  abbrev pub short_follows_item : ℕ → MutBor T.Denot → Fml
  short_follows_item at r = Lends (the_row T) T v r (short_with_item v.now at)
