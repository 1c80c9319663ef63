-- The effect of an input line on an installer.
use Rattle.std.specs.Prelude.{◌≡◌, ◌<◌, ℕ, true, false, not, List, [], ◌∷◌, ◌++◌, length, map, Option, Some, is_some, unwrap_or, MatchOption, Result, Ok, Err, codes}
use Rattle.route_lines.specs.declared.cutter.Line.{Line}
use Rattle.route_lines.specs.declared.fib_input.FibInput.{FibInput}
use Rattle.route_lines.specs.Spelled.{note_of}
use Rattle.route_lines.specs.Texts.{update_text}
use Rattle.route_lines.specs.declared.fib_update.FibUpdate.{FibUpdate}
use Rattle.route_lines.specs.declared.fib_update.FibUpdate.TheVariants as U
use Rattle.route_laws.specs.LeastTables.{IsLeast}
use Rattle.route_laws.specs.Nearest.{IsNearest}
use Rattle.route_laws.specs.Networks.{Stored, routes_of}
use Rattle.route_laws.specs.Operations.{Operation, between}
use Rattle.route_laws.specs.Painted.{painted_all}
use Rattle.route_laws.specs.Runs.{Event, Have, Told, Sync, Installer, after_event}
use Rattle.route_laws.specs.Tables.{Route, IsTable, hop_at}
use Rattle.route_program.specs.declared.counted.Counted.{Counted}
use Rattle.route_program.specs.declared.error.RunError.{RunError}
use Rattle.route_program.specs.declared.error.RunError.TheVariants as Why
use Rattle.route_feed.specs.Lines.{spelled_in}
use Rattle.route_installer.specs.Installing.{Installing, IsUnfit, MayWant, Noted, after_note, batches, event_of, noted_bytes, operation_line, printed_updates}
use Rattle.route_program.specs.Devices.{Closed, Torn}

-- the note of a line
abbrev pub note_in : Line → Option FibInput
note_in line = spelled_in note_of line

-- an update with its line end
abbrev pub update_line : FibUpdate → List ℕ
update_line update = update_text update ++ codes "\n"

-- the tables of an installer: before the first `sync`, the installed table is another one
abbrev pub tables_of : List Stored → Option (List Stored) → Installer
tables_of table before = record { table = routes_of table; installed = routes_of (unwrap_or before table); kept = not (is_some before) }

-- the lines of operations, and the lines of a batch, which ends with `ok`
abbrev pub operation_bytes : List Operation → List ℕ
operation_bytes os = printed_updates (map operation_line os)

abbrev pub batch_bytes : List Operation → List ℕ
batch_bytes os = printed_updates (map operation_line os ++ U.Done ∷ [])

-- no route counts as installed already once the table is kept in sync; from then on, changes install a nearest table; and a `Sync`
-- installs a least table, which is the installed table if that is a least one already
abbrev pub IsFit : Installer → Event → Type 0
IsFit s (Have r) = s.kept ≡ false
IsFit s (Told rs N) = s.kept ≡ true → IsNearest s.installed (hop_at (painted_all s.table rs)) N
IsFit s (Sync N) = IsLeast (hop_at s.table) N × (s.kept ≡ true → IsLeast (hop_at s.table) s.installed → N ≡ s.installed)

-- each of the events is fit in its turn
abbrev pub AllFit : Installer → List Event → Type 0
AllFit s [] = Unit {0}
AllFit s (e ∷ es) = IsFit s e × AllFit (after_event s e) es

-- a route counts as installed already
abbrev pub Has : Installing → Route → Result Unit RunError → Installing → Type 0
Has a r (Ok done) b = (a.tables.kept ≡ false) × (b ≡ record { tables = after_event a.tables (Have r); pending = a.pending })
Has a r (Err Why.Line) b = a.tables.kept ≡ true
Has a r (Err Why.Memory) b = a.tables.kept ≡ false
Has a r (Err Why.Read) b = ⊥
Has a r (Err Why.Write) b = ⊥

module _ {W : Type 0} (contents : W → Option (List ℕ)) where
  -- a table was installed in place of another table, and is kept in sync
  abbrev pub Replaces : Installing → List Route → Counted W → Result Unit RunError → Installing → Counted W → Type 0
  Replaces a N old (Ok done) b new =
      (b ≡ record { tables = record { table = N; installed = N; kept = true }; pending = a.pending }) × IsTable a.tables.installed × Closed contents 1 old new (batch_bytes (between a.tables.installed N))
  Replaces a N old (Err Why.Memory) b new = new ≡ old
  Replaces a N old (Err Why.Write) b new = IsTable a.tables.installed × Torn contents old new (batch_bytes (between a.tables.installed N))
  Replaces a N old (Err Why.Read) b new = ⊥
  Replaces a N old (Err Why.Line) b new = ⊥

  -- a note was processed
  pub record Takes (a b : Installing) (n : Noted) (old new : Counted W) : Type 0 where
    pub fit : AllFit a.tables (event_of a n.note n.table)
    pub next : b ≡ after_note a n
    pub closed : Closed contents (batches a.tables (event_of a n.note n.table)) old new (noted_bytes a n)

  -- the writer failed at a note that has output
  pub record Fails (a : Installing) (n : Noted) (old new : Counted W) : Type 0 where
    pub fit : AllFit a.tables (event_of a n.note n.table)
    pub some : 0 < length (noted_bytes a n)
    pub torn : Torn contents old new (noted_bytes a n)

  -- a note was processed, or the reason why it was not
  abbrev pub TakesNote : Installing → FibInput → Counted W → Result Unit RunError → Installing → Counted W → Type 0
  TakesNote a note old (Ok done) b new = (N : List Route) × Takes a b (record { note = note; table = N }) old new
  TakesNote a note old (Err Why.Line) b new = IsUnfit a (Some note) × (new ≡ old)
  TakesNote a note old (Err Why.Memory) b new = MayWant a note × (new ≡ old)
  TakesNote a note old (Err Why.Write) b new = (N : List Route) × Fails a (record { note = note; table = N }) old new
  TakesNote a note old (Err Why.Read) b new = ⊥

  -- a line that doesn't spell a note
  abbrev pub TakesNone : Counted W → Result Unit RunError → Counted W → Type 0
  TakesNone old result new = (result ≡ Err Why.Line) × (new ≡ old)

  -- the same for a line
  abbrev pub TakesNoteLine : Installing → Line → Counted W → Result Unit RunError → Installing → Counted W → Type 0
  TakesNoteLine a line old result b new = MatchOption (note_in line) (TakesNone old result new) (λ note. TakesNote a note old result b new)
