-- The effect of `install` on its devices, by its result.
use Rattle.std.specs.Prelude.{◌≡◌, ◌<◌, ℕ, ◌⊎◌, List, [], ◌∷◌, ◌++◌, length, Option, Some, Result, Ok, Err}
use Rattle.std.specs.Io.KnownBytes.{Appends}
use Rattle.route_lines.specs.Bytes.{lines}
use Rattle.route_lines.specs.Spelled.{note_of}
use Rattle.route_lines.specs.declared.fib_input.FibInput.{FibInput}
use Rattle.route_program.specs.declared.counted.Counted.{Counted}
use Rattle.route_program.specs.declared.error.RunError.{RunError}
use Rattle.route_program.specs.declared.error.RunError.TheVariants as Why
use Rattle.route_program.specs.Counted.{more_by, FailedLast, Flushed, ReadFault, ReadWell}
use Rattle.route_program.specs.Devices.{HasReturned, MetEnd}
use Rattle.route_installer.specs.Installing.{AreNotes, IsUnfit, MayWant, Noted, after_notes, batches_given, begin, installed_bytes, noted_bytes}

-- the pieces are notes, and their output was written
abbrev pub AppendsInstalled : List (List ℕ) → Option (List ℕ) → Option (List ℕ) → Type 0
AppendsInstalled pieces old new = (notes : List Noted) × AreNotes pieces notes × Appends old new (installed_bytes notes)

module _ {W : Type 0} (contents : W → Option (List ℕ)) where
  -- the output of these notes was written, and flushed after each batch
  pub record WritesBatches (notes : List Noted) (old new : Counted W) : Type 0 where
    pub written : Appends (contents old.device) (contents new.device) (installed_bytes notes)
    pub flushed : Flushed (batches_given notes) old new

  -- and then this text was written, but not flushed
  pub record WritesBatchesThen (notes : List Noted) (begun : List ℕ) (old new : Counted W) : Type 0 where
    pub written : Appends (contents old.device) (contents new.device) (installed_bytes notes ++ begun)
    pub flushes : new.flushes ≡ more_by (batches_given notes) old.flushes

module _ {R : Type 0} (remaining : R → Option (List ℕ)) where
  -- the reader returned some bytes, the lines before one of them are notes, and no read failed or met the end
  pub record Meets (from to : Counted R) : Type 0 where
    pub bytes : List ℕ
    pub notes : List Noted
    pub before : List (List ℕ)
    pub piece : List ℕ
    pub after : List (List ℕ)
    pub read : HasReturned remaining from to bytes
    pub well : ReadWell from to
    pub split : lines bytes ≡ before ++ piece ∷ after
    pub are : AreNotes before notes

module _ {R W : Type 0} (remaining : R → Option (List ℕ)) (contents : W → Option (List ℕ)) where
  -- the reader returned some bytes, each of their lines is a note, and the output of the notes was written and flushed
  pub record Installs (from to : Counted R) (old new : Counted W) : Type 0 where
    pub bytes : List ℕ
    pub notes : List Noted
    pub read : HasReturned remaining from to bytes
    pub are : AreNotes (lines bytes) notes
    pub gives : WritesBatches contents notes old new

  -- this line can't be accepted; the output of the lines before it was written and flushed
  pub record MeetsUnfit (from to : Counted R) (old new : Counted W) : Type 0 where
    pub meets : Meets remaining from to
    pub unfit : IsUnfit (after_notes begin meets.notes) (note_of meets.piece)
    pub gives : WritesBatches contents meets.notes old new

  -- this line is a note that may need memory; the output of the notes before it was written and flushed
  pub record MeetsWanting (from to : Counted R) (old new : Counted W) : Type 0 where
    pub meets : Meets remaining from to
    pub note : FibInput
    pub is_note : note_of meets.piece ≡ Some note
    pub wants : MayWant (after_notes begin meets.notes) note
    pub gives : WritesBatches contents meets.notes old new

  -- This line is a note that has output. The output of the notes before it was written and flushed. Then a beginning of its own was
  -- written, but not flushed.
  pub record MeetsFault (from to : Counted R) (old new : Counted W) : Type 0 where
    pub meets : Meets remaining from to
    pub last : Noted
    pub begun : List ℕ
    pub missing : List ℕ
    pub are_too : AreNotes (meets.before ++ meets.piece ∷ []) (meets.notes ++ last ∷ [])
    pub some : 0 < length (noted_bytes (after_notes begin meets.notes) last)
    pub is_front : noted_bytes (after_notes begin meets.notes) last ≡ begun ++ missing
    pub gives : WritesBatchesThen contents meets.notes begun old new

  -- `Ok`: all was read, each line is a note, the output of the notes was written and flushed after each batch, and nothing failed.
  -- `Read`: the same for the lines read so far, and only the reader failed, in its last call. `Line`: one of the lines can't be accepted,
  -- and the output of those before it was written and flushed. `Memory`: the same of a note that may need memory, or nothing was done.
  -- `Write`: the writer failed at a note that has output, in its last call. A beginning of this output was written too, but not flushed.
  abbrev pub InstallEnds : Counted R → Counted R → Counted W → Counted W → Result Unit RunError → Type 0
  InstallEnds from to old new (Ok done) = Installs from to old new × MetEnd remaining from to × (new.faults ≡ old.faults)
  InstallEnds from to old new (Err Why.Read) = Installs from to old new × ReadFault from to × (new.faults ≡ old.faults)
  InstallEnds from to old new (Err Why.Line) = MeetsUnfit from to old new × (new.faults ≡ old.faults)
  InstallEnds from to old new (Err Why.Write) = MeetsFault from to old new × FailedLast old new
  InstallEnds from to old new (Err Why.Memory) =
      ((to ≡ from) × (new ≡ old)) ⊎ (MeetsWanting from to old new × (new.faults ≡ old.faults))
