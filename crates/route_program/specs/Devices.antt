-- The input and the output of devices: bytes that were read, and texts of replies that were written and flushed.
use Rattle.std.specs.Prelude.{◌≡◌, ◌≤◌, ◌+◌, ℕ, Bool, not, ◌&&◌, ◌||◌, List, ◌++◌, length, Option, is_some, slice_get, Result, Ok, Err, codes, false}
use Rattle.std.specs.Io.KnownBytes.{Appends, Consumes, IsAtEnd}
use Rattle.route_lines.specs.Texts.{closing_text}
use Rattle.route_lines.specs.declared.reply.Closing.{Closing}
use Rattle.route_program.specs.declared.counted.Counted.{Counted}
use Rattle.route_program.specs.declared.error.RunError.{RunError}
use Rattle.route_program.specs.declared.error.RunError.TheVariants.{Write}
use Rattle.route_program.specs.Counted.{FailedLast, Flushed, FlushedAll, ReadWell, one_more}

-- the reader returned these bytes, in at most one call more than there are bytes
abbrev pub HasReturned : {R : Type 0} → (R → Option (List ℕ)) → Counted R → Counted R → List ℕ → Type 0
HasReturned remaining from to bytes = Consumes (remaining from.device) (remaining to.device) bytes × (to.reads ≤ from.reads + length bytes + 1)

-- the reader returned some bytes, and P holds of them
pub record HasRead {R : Type 0} (remaining : R → Option (List ℕ)) (P : List ℕ → Type 0) (from to : Counted R) : Type 0 where
  pub bytes : List ℕ
  pub read : HasReturned remaining from to bytes
  pub holds : P bytes

-- the reader is at its end, which one read met, and no other; no read failed, and the last call was no fault
pub record MetEnd {R : Type 0} (remaining : R → Option (List ℕ)) (from to : Counted R) : Type 0 where
  pub at_end : IsAtEnd (remaining to.device)
  pub ends : to.ends ≡ one_more from.ends
  pub faults : to.faults ≡ from.faults
  pub failing : to.failing ≡ false

-- the reader returned some bytes, P holds of them, and no read failed or met the end
abbrev pub HasReadSoFar : {R : Type 0} → (R → Option (List ℕ)) → (List ℕ → Type 0) → Counted R → Counted R → Type 0
HasReadSoFar remaining P from to = HasRead remaining P from to × ReadWell from to

-- the reader returned all its bytes, P holds of them, no read failed, and one met the end
abbrev pub HasReadAll : {R : Type 0} → (R → Option (List ℕ)) → (List ℕ → Type 0) → Counted R → Counted R → Type 0
HasReadAll remaining P from to = HasRead remaining P from to × MetEnd remaining from to

-- the test that a text isn't empty
abbrev pub has_bytes : List ℕ → Bool
has_bytes text = is_some (slice_get text 0)

-- the line that closes a reply
abbrev pub closing_line : Closing → List ℕ
closing_line closing = closing_text closing ++ codes "\n"

module _ {W : Type 0} (contents : W → Option (List ℕ)) where
  -- the text of `times` replies was written, each reply was flushed, and nothing failed
  pub record Closed (times : ℕ) (old new : Counted W) (text : List ℕ) : Type 0 where
    pub appended : Appends (contents old.device) (contents new.device) text
    pub faults : new.faults ≡ old.faults
    pub flushed : Flushed times old new

  -- the text was written, all unflushed bytes were flushed, and nothing failed
  pub record Delivered (old new : Counted W) (text : List ℕ) : Type 0 where
    pub appended : Appends (contents old.device) (contents new.device) text
    pub faults : new.faults ≡ old.faults
    pub flushed : FlushedAll old new

  -- a beginning of the text was written, and none of it was flushed; then the writer failed, in its last call
  pub record Torn (old new : Counted W) (text : List ℕ) : Type 0 where
    pub front : List ℕ
    pub back : List ℕ
    pub is_front : text ≡ front ++ back
    pub appended : Appends (contents old.device) (contents new.device) front
    pub failed : FailedLast old new
    pub flushes : new.flushes ≡ old.flushes

  -- the text of `times` replies, one or none, was written and flushed; or, at `Write`, a beginning of it was written
  abbrev pub Closes : {T : Type 0} → ℕ → Counted W → Counted W → Result T RunError → List ℕ → Type 0
  Closes times old new (Ok x) text = Closed times old new text
  Closes times old new (Err e) text = (e ≡ Write) × Torn old new text

  -- the text was written, and isn't flushed yet
  pub record Written (old new : Counted W) (text : List ℕ) : Type 0 where
    pub appended : Appends (contents old.device) (contents new.device) text
    pub faults : new.faults ≡ old.faults
    pub flushes : new.flushes ≡ old.flushes
    pub waits : new.waiting ≡ (has_bytes text || old.waiting)
    pub fails : new.failing ≡ (not (has_bytes text) && old.failing)

  -- the text was written; or a beginning of it was, and then the writer failed
  abbrev pub Writes : {T : Type 0} → Counted W → Counted W → Result T RunError → List ℕ → Type 0
  Writes old new (Ok x) text = Written old new text
  Writes old new (Err e) text = (e ≡ Write) × Torn old new text

  -- the text was written and flushed; or a beginning of it was written, and then the writer failed
  abbrev pub Delivers : {T : Type 0} → Counted W → Counted W → Result T RunError → List ℕ → Type 0
  Delivers old new (Ok x) text = Delivered old new text
  Delivers old new (Err e) text = (e ≡ Write) × Torn old new text
