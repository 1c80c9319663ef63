-- The counts of a counted device.
use Rattle.std.specs.Prelude.{◌≡◌, ℕ, zero, suc, ◌⊎◌, ◌≤◌, ◌+◌, ◌-◌, ◌^◌, ◌<◌, ◌==◌, min, nat_lt, Bool, true, false, ◌&&◌, if◌then◌else◌, Result, Ok, Err}
use Rattle.route_program.specs.declared.counted.Counted.{Counted}

-- n + 1, up to the greatest u64
abbrev pub one_more : ℕ → ℕ
one_more n = min (n + 1) (2 ^ 64 - 1)

-- `one_more` applied `times` times
abbrev pub more_by : ℕ → ℕ → ℕ
more_by zero n = n
more_by (suc times) n = more_by times (one_more n)

-- this is a sum up to the greatest u64
abbrev pub MoreByIsMin : Type 0
MoreByIsMin = (times n : ℕ) → n ≤ 2 ^ 64 - 1 → more_by times n ≡ min (n + times) (2 ^ 64 - 1)

-- one more if there was a fault
abbrev pub more_if : Bool → ℕ → ℕ
more_if fault n = if fault then one_more n else n

-- a `read` returned no bytes and no error
abbrev pub read_none : {E : Type 0} → Result ℕ E → Bool
read_none (Ok n) = n == 0
read_none (Err e) = false

-- a `write` of a piece of this length failed, or wrote none of a nonempty one
abbrev pub took_none : {E : Type 0} → Result ℕ E → ℕ → Bool
took_none (Ok n) length = (n == 0) && nat_lt 0 length
took_none (Err e) length = true

-- a `write` wrote some bytes
abbrev pub took_some : {E : Type 0} → Result ℕ E → Bool
took_some (Ok n) = nat_lt 0 n
took_some (Err e) = false

-- one more fault can be counted
abbrev pub CanCount : {D : Type 0} → Counted D → Type 0
CanCount c = c.faults < 2 ^ 64 - 1

-- the counts of reads and faults of a reader are below 2^63, as in a new one
abbrev pub CanRead : {R : Type 0} → Counted R → Type 0
CanRead reader = (reader.reads < 2 ^ 63) × (reader.faults < 2 ^ 63)

-- the precondition of a run: the counts of its reader and its writer are below 2^63, as in new ones
abbrev pub CanRun : {R W : Type 0} → Counted R → Counted W → Type 0
CanRun reader writer = CanRead reader × (writer.faults < 2 ^ 63)

-- the device failed once, in its last call
abbrev pub FailedLast : {D : Type 0} → Counted D → Counted D → Type 0
FailedLast from to = (to.faults ≡ from.faults + 1) × (to.failing ≡ true)

-- no read failed or met the end; the reader isn't failing, unless its last call before was a fault
pub record ReadWell {R : Type 0} (from to : Counted R) : Type 0 where
  pub faults : to.faults ≡ from.faults
  pub ends : to.ends ≡ from.ends
  pub failing : from.failing ≡ false → to.failing ≡ false

-- the reader failed, and was not called again; or it was called 2^62 times, and never failed; no read met the end
abbrev pub ReadFault : {R : Type 0} → Counted R → Counted R → Type 0
ReadFault from to = (FailedLast from to ⊎ ((from.reads + 2 ^ 62 ≤ to.reads) × (to.faults ≡ from.faults))) × (to.ends ≡ from.ends)

-- bytes were written and then flushed, `times` times, with no other flush, nothing was written after that, and the last call was no fault
abbrev pub Flushed : {W : Type 0} → ℕ → Counted W → Counted W → Type 0
Flushed times old new = (new.flushes ≡ more_by times old.flushes) × (new.waiting ≡ (times == 0 && old.waiting)) × (new.failing ≡ (times == 0 && old.failing))

-- there was one flush, nothing is unflushed, and the last call was no fault
abbrev pub FlushedAll : {W : Type 0} → Counted W → Counted W → Type 0
FlushedAll old new = (new.flushes ≡ one_more old.flushes) × (new.waiting ≡ false) × (new.failing ≡ false)
