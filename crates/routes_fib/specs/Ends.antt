-- The line at which a run ends.
use Rattle.std.specs.Prelude.{◌≡◌, ◌<◌, ℕ, List, [], ◌∷◌, ◌++◌, length, Option, Some}
use Rattle.route_lines.specs.Bytes.{lines}
use Rattle.route_lines.specs.Spelled.{note_of}
use Rattle.route_lines.specs.declared.fib_input.FibInput.{FibInput}
use Rattle.route_program.specs.declared.counted.Counted.{Counted}
use Rattle.route_program.specs.Devices.{HasReadAll}
use Rattle.route_installer.specs.Installing.{AreNotes, IsUnfit, MayWant, Noted, after_notes, begin, noted_bytes}
use Rattle.route_installer.specs.Installs.{Meets}

module _ {R : Type 0} (remaining : R → Option (List ℕ)) where
  -- the reader returned some bytes; the lines before one of them are notes, and this line can't be accepted as one
  abbrev pub MeetsUnfitLine : Counted R → Counted R → Type 0
  MeetsUnfitLine from to = (m : Meets remaining from to) × IsUnfit (after_notes begin m.notes) (note_of m.piece)

  -- the reader returned some bytes; the lines before one of them are notes, and so is this line, which may need memory
  abbrev pub MeetsWantingLine : Counted R → Counted R → Type 0
  MeetsWantingLine from to = (m : Meets remaining from to) × (note : FibInput) × (note_of m.piece ≡ Some note) × MayWant (after_notes begin m.notes) note

  -- the reader gave some bytes; the lines before one of them are notes, and so is this one, which has output
  abbrev pub MeetsNote : Counted R → Counted R → Type 0
  MeetsNote from to = (m : Meets remaining from to) × (last : Noted) × AreNotes (m.before ++ m.piece ∷ []) (m.notes ++ last ∷ []) × (0 < length (noted_bytes (after_notes begin m.notes) last))

  -- the reader gave all of its bytes, and each of their lines is a note
  abbrev pub ReadsNotes : Counted R → Counted R → Type 0
  ReadsNotes from to = HasReadAll remaining (λ bytes. (notes : List Noted) × AreNotes (lines bytes) notes) from to
