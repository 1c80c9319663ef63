-- Notes as events on a table that is kept installed, and the output of an installer for them.
use Rattle.std.specs.Prelude.{◌≡◌, ℕ, suc, true, false, List, [], ◌∷◌, ◌++◌, if◌then◌else◌, Option, Some, None, map}
use Rattle.std.specs.List.{flat_map}
use Rattle.std.specs.Option.{option_map_or}
use Rattle.std.specs.Prelude.{codes}
use Rattle.route_lines.specs.Spelled.{note_of}
use Rattle.route_lines.specs.Texts.{update_text}
use Rattle.route_lines.specs.declared.fib_input.FibInput.{FibInput}
use Rattle.route_lines.specs.declared.fib_input.FibInput.TheVariants as Notes
use Rattle.route_lines.specs.declared.fib_update.FibUpdate.{FibUpdate}
use Rattle.route_lines.specs.declared.fib_update.FibUpdate.TheVariants as U
use Rattle.route_choices.specs.Choices.{default_preference}
use Rattle.route_choices.specs.Hops.{hop_from}
use Rattle.route_laws.specs.Operations.{Operation, Install, Remove}
use Rattle.route_laws.specs.Runs.{Event, Have, Told, Sync, Installer, MayAllCome, after_event, after_events, gives, start}
use Rattle.route_laws.specs.Tables.{Route, route_of}
use Rattle.ipnet.specs.IpNets.{network_at}
use Rattle.route_feed.specs.Streams.{Change, change_of, closes, is_done, pending_after, WantsMemory}

-- a change as a route
abbrev pub route_to : Change → Route
route_to c = record { block = c.block; hop = hop_from c.number; pref = default_preference }

-- a table that is kept installed, and the pending changes
pub record Installing : Type 0 where
  pub tables : Installer
  pub pending : List Change

-- nothing is installed, and no changes are pending
abbrev pub begin : Installing
begin = record { tables = start; pending = [] }

-- committed changes are one event, if there are any
abbrev pub committing : List Change → List Route → List Event
committing [] N = []
committing (c ∷ cs) N = Told (map route_to (c ∷ cs)) N ∷ []

-- the event of a note, or none; N is the table that is installed if the event asks for one
abbrev pub event_of : Installing → FibInput → List Route → List Event
event_of s (Notes.Have net hop) N = Have (route_of net hop default_preference) ∷ []
event_of s Notes.Sync N = Sync N ∷ []
event_of s (Notes.Reply line) N = if option_map_or is_done (closes line) false then committing s.pending N else []

-- the pending changes after a note
abbrev pub pending_past : List Change → FibInput → List Change
pending_past changes (Notes.Have net hop) = changes
pending_past changes Notes.Sync = changes
pending_past changes (Notes.Reply line) = pending_after changes (closes line) (change_of line)

-- a note, and the table that is installed if the note asks for one
pub record Noted : Type 0 where
  pub note : FibInput
  pub table : List Route

-- the state after a note
abbrev pub after_note : Installing → Noted → Installing
after_note s n = record { tables = after_events s.tables (event_of s n.note n.table); pending = pending_past s.pending n.note }

-- the state after all notes
abbrev pub after_notes : Installing → List Noted → Installing
after_notes s [] = s
after_notes s (n ∷ ns) = after_notes (after_note s n) ns

-- the events of the notes
abbrev pub events : Installing → List Noted → List Event
events s [] = []
events s (n ∷ ns) = event_of s n.note n.table ++ events (after_note s n) ns

-- Each piece spells the note at its index. No route counts as installed already once the table is kept in sync. Each table that a `sync`
-- installs is a least table of the hops at that time, and each that an `ok` installs is nearest to the one before.
pub record AreNotes (pieces : List (List ℕ)) (ns : List Noted) : Type 0 where
  pub spelled : map note_of pieces ≡ map (λ n. Some n.note) ns
  pub may : MayAllCome start (events begin ns)

-- the line of an operation
abbrev pub operation_line : Operation → FibUpdate
operation_line (Install r) = U.Install (network_at r.block) r.hop
operation_line (Remove b) = U.Remove (network_at b)

-- the output at an event: if the table is kept in sync after it, its operations and `ok`
abbrev pub event_lines : Installer → Event → List FibUpdate
event_lines s e = if (after_event s e).kept then map operation_line (gives s e) ++ U.Done ∷ [] else []

-- the output at these events
abbrev pub update_lines : Installer → List Event → List FibUpdate
update_lines s [] = []
update_lines s (e ∷ es) = event_lines s e ++ update_lines (after_event s e) es

-- the number of these events that have output
abbrev pub batches : Installer → List Event → ℕ
batches s [] = 0
batches s (e ∷ es) = if (after_event s e).kept then suc (batches (after_event s e) es) else batches (after_event s e) es

-- these lines, printed in order
abbrev pub printed_updates : List FibUpdate → List ℕ
printed_updates us = flat_map (λ u. update_text u ++ codes "\n") us

-- the output at a note
abbrev pub noted_bytes : Installing → Noted → List ℕ
noted_bytes s n = printed_updates (update_lines s.tables (event_of s n.note n.table))

-- the output of an installer for these notes
abbrev pub installed_bytes : List Noted → List ℕ
installed_bytes ns = printed_updates (update_lines start (events begin ns))

-- the number of batches in the output
abbrev pub batches_given : List Noted → ℕ
batches_given ns = batches start (events begin ns)

-- a line that can't be accepted: it spells no note, or is a `have` once the table is kept in sync
abbrev pub IsUnfit : Installing → Option FibInput → Type 0
IsUnfit s None = Unit {0}
IsUnfit s (Some (Notes.Have net hop)) = s.tables.kept ≡ true
IsUnfit s (Some Notes.Sync) = ⊥
IsUnfit s (Some (Notes.Reply line)) = ⊥

-- the note may need memory: a `have`, a `sync`, a change, or an `ok` with pending changes
abbrev pub MayWant : Installing → FibInput → Type 0
MayWant s (Notes.Have net hop) = s.tables.kept ≡ false
MayWant s Notes.Sync = Unit {0}
MayWant s (Notes.Reply line) = WantsMemory s.pending line
