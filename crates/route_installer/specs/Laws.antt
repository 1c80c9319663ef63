-- The table that an installer keeps installed, given the lines of a leader.
use Rattle.std.specs.Prelude.{◌≡◌, ◌↔◌, ◌⊎◌, ◌<◌, ◌≤◌, ◌^◌, ℕ, Bool, All, IsSome, true, false, List, [], ◌∷◌, ◌++◌, Any, Option, Some, None, Contains, filter, length, map, not, suc, take, filter_map}
use Rattle.ipnet_addr.specs.Addresses.{Address, IsAddress}
use Rattle.route_choices.specs.Choices.{default_preference}
use Rattle.ipnet.specs.IpNets.{block}
use Rattle.route_lines.specs.Bytes.{lines, rest}
use Rattle.route_lines.specs.Spelled.{note_of, update_of}
use Rattle.route_lines.specs.declared.fib_input.FibInput.{FibInput}
use Rattle.route_lines.specs.declared.fib_input.FibInput.TheVariants as Notes
use Rattle.route_lines.specs.declared.reply.Closing.TheVariants.{Done}
use Rattle.route_lines.specs.declared.reply.Reply.{Reply}
use Rattle.route_lines.specs.declared.reply.Reply.TheVariants.{Close}
use Rattle.route_lines.specs.declared.fib_update.FibUpdate.{FibUpdate}
use Rattle.route_lines.specs.declared.fib_update.FibUpdate.TheVariants as U
use Rattle.route_laws.specs.LeastTables.{IsLeast}
use Rattle.route_laws.specs.Nearest.{IsFewestTo}
use Rattle.route_laws.specs.Networks.{Stored, routes_of}
use Rattle.route_laws.specs.Operations.{Operation, IsHitless, after_all}
use Rattle.route_laws.specs.Runs.{MayAllCome, after_events, given, haves, start}
use Rattle.route_laws.specs.Tables.{Route, hop_at, route_of, with_route, without_block}
use Rattle.route_installer.specs.Installing.{AreNotes, Installing, Noted, after_notes, batches_given, begin, event_of, events, installed_bytes, operation_line, update_lines}
use Rattle.route_feed.specs.Laws.{table_told}
use Rattle.route_feed.specs.Output.{at_end, output, table_after, whole_commands}
use Rattle.route_feed.specs.Streams.{closings, committed, painted_hop, replies_in}

-- the reply line of a note
abbrev pub reply_of_note : FibInput → Option Reply
reply_of_note (Notes.Have net hop) = None
reply_of_note Notes.Sync = None
reply_of_note (Notes.Reply line) = Some line

-- the reply lines among notes
abbrev pub replies_of : List Noted → List Reply
replies_of ns = filter_map (λ n. reply_of_note n.note) ns

-- these reply lines are the first that a leader writes for these bytes
abbrev pub AreFirst : List ℕ → List Bool → List Reply → Type 0
AreFirst bytes refusals ls = (later : List Reply) × (replies_in (output bytes refusals) ≡ ls ++ later)

-- the leader's table after `count` of its commands
abbrev pub table_at : List ℕ → List Bool → ℕ → List Stored
table_at bytes refusals count = table_after [] (take count (whole_commands bytes ++ at_end (rest bytes))) refusals

-- the leader's table after as many commands as there are closing lines among these lines
abbrev pub table_by : List ℕ → List Bool → List Reply → List Stored
table_by bytes refusals ls = table_at bytes refusals (closings ls)

-- the operations that are written at a note, after other notes
abbrev pub operations_at : List Noted → Noted → List Operation
operations_at ns n = given (after_notes begin ns).tables (event_of (after_notes begin ns) n.note n.table)

-- the table of the routes that the notes list as installed, after all operations that are written at the notes
abbrev pub installed_by : List Noted → List Route
installed_by ns = after_all (haves (events begin ns)) (given start (events begin ns))

-- there is a `sync` among the notes
abbrev pub HasSync : List Noted → Type 0
HasSync ns = Any (λ n. n.note ≡ Notes.Sync) ns

-- ---- notes and events

-- The machine of notes refines that of events: from any state on, the tables after notes are those after the events of the notes.
abbrev pub NotesRefineEvents : Type 0
NotesRefineEvents = (s : Installing) (ns : List Noted) → (after_notes s ns).tables ≡ after_events s.tables (events s ns)

-- ---- moments

-- there is a moment among the operations before which the address has the old hop, and from which on it has the new one
abbrev pub TurnsOnce : List Route → List Operation → Address → Option ℕ → Option ℕ → Type 0
TurnsOnce M os x old new = (moment : ℕ) × ((i : ℕ) → i < moment → hop_at (after_all M (take i os)) x ≡ old)
    × ((i : ℕ) → moment ≤ i → hop_at (after_all M (take i os)) x ≡ new)

-- operations are hitless exactly if each address turns at one moment, from its hop before them to its hop after them
abbrev pub HitlessIsTurnsOnce : Type 0
HitlessIsTurnsOnce = (M : List Route) (os : List Operation) → IsHitless M os ↔ ((x : Address) → IsAddress x → TurnsOnce M os x (hop_at M x) (hop_at (after_all M os) x))

-- after a `sync`, each address turns at one moment of a note, from the hop that the replies before it commit to that with its own
abbrev pub InstalledTurnsOnce : Type 0
InstalledTurnsOnce = (ns : List Noted) (n : Noted) → MayAllCome start (events begin (ns ++ n ∷ [])) → HasSync ns → (x : Address) → IsAddress x
    → TurnsOnce (installed_by ns) (operations_at ns n) x (painted_hop (committed (replies_of ns)) x) (painted_hop (committed (replies_of (ns ++ n ∷ []))) x)

-- ---- notes of a leader's replies, with other notes between them

-- after a `sync`, each address has the hop of the leader's table after as many commands as there are complete replies
abbrev pub InstalledAgrees : Type 0
InstalledAgrees = (bytes : List ℕ) (refusals : List Bool) (ns : List Noted) → AreFirst bytes refusals (replies_of ns)
    → MayAllCome start (events begin ns) → HasSync ns
    → (x : Address) → IsAddress x → hop_at (installed_by ns) x ≡ hop_at (routes_of (table_by bytes refusals (replies_of ns))) x

-- So after a `sync`, each address has at each moment its hop in the leader's table before the reply, or that after it.
abbrev pub InstalledAtAllTimes : Type 0
InstalledAtAllTimes = (bytes : List ℕ) (refusals : List Bool) (ns later : List Noted) (n : Noted) → AreFirst bytes refusals (replies_of (ns ++ n ∷ later))
    → MayAllCome start (events begin (ns ++ n ∷ later)) → HasSync ns
    → (x : Address) → IsAddress x → (i : ℕ)
    → (hop_at (after_all (installed_by ns) (take i (operations_at ns n))) x ≡ hop_at (routes_of (table_by bytes refusals (replies_of ns))) x)
    ⊎ (hop_at (after_all (installed_by ns) (take i (operations_at ns n))) x ≡ hop_at (routes_of (table_by bytes refusals (replies_of (ns ++ n ∷ [])))) x)

-- if the lines of a log are such notes, and its reply lines are those of a beginning of the leader's output
abbrev pub LogsAreFirst : Type 0
LogsAreFirst = (bytes : List ℕ) (refusals : List Bool) (front back log : List ℕ) (ns : List Noted) → output bytes refusals ≡ front ++ back
    → AreNotes (lines log) ns → replies_in log ≡ replies_in front → AreFirst bytes refusals (replies_of ns)

-- ---- any notes

-- each address changes its hop at most once in the operations at a note
abbrev pub InstalledIsHitless : Type 0
InstalledIsHitless = (ns : List Noted) (n : Noted) → MayAllCome start (events begin (ns ++ n ∷ [])) → IsHitless (installed_by ns) (operations_at ns n)

-- the table that the operations lead to is the one that the installer keeps
abbrev pub OperationsReach : Type 0
OperationsReach = (ns : List Noted) → MayAllCome start (events begin ns) → installed_by ns ≡ (after_notes begin ns).tables.installed

-- right after a `sync`, the installed table is a least table of the committed hops
abbrev pub SyncsAreLeast : Type 0
SyncsAreLeast = (ns : List Noted) (least : List Route) → MayAllCome start (events begin (ns ++ record { note = Notes.Sync; table = least } ∷ []))
    → IsLeast (painted_hop (committed (replies_of ns))) (installed_by (ns ++ record { note = Notes.Sync; table = least } ∷ []))

-- after a `sync`, another one has no operations if the installed table is a least one already
abbrev pub SyncsStay : Type 0
SyncsStay = (ns : List Noted) (least : List Route) → MayAllCome start (events begin (ns ++ record { note = Notes.Sync; table = least } ∷ []))
    → HasSync ns → IsLeast (painted_hop (committed (replies_of ns))) (installed_by ns) → operations_at ns (record { note = Notes.Sync; table = least }) ≡ []

-- after a `sync`, the operations at an `ok` are the fewest of all that bring each address to its committed hop
abbrev pub RepliesAreFewest : Type 0
RepliesAreFewest = (ns : List Noted) (nearest : List Route) → MayAllCome start (events begin (ns ++ record { note = Notes.Reply (Close Done); table = nearest } ∷ []))
    → HasSync ns
    → IsFewestTo (installed_by ns) (painted_hop (committed (replies_of (ns ++ record { note = Notes.Reply (Close Done); table = nearest } ∷ []))))
    (operations_at ns (record { note = Notes.Reply (Close Done); table = nearest }))

-- ---- the lines of the output

-- whether a line is an operation
abbrev pub is_operation : FibUpdate → Bool
is_operation (U.Install net hop) = true
is_operation (U.Remove net) = true
is_operation U.Done = false

-- the number of `ok` lines
abbrev pub oks : List FibUpdate → ℕ
oks us = length (filter (λ u. not (is_operation u)) us)

-- the complete update lines in the bytes
abbrev pub updates_in : List ℕ → List FibUpdate
updates_in bytes = filter_map update_of (lines bytes)

-- a table after the lines were carried out, in order
abbrev pub carried_out : List Route → List FibUpdate → List Route
carried_out M [] = M
carried_out M (U.Install net hop ∷ us) = carried_out (with_route M (route_of net hop default_preference)) us
carried_out M (U.Remove net ∷ us) = carried_out (without_block M (block net)) us
carried_out M (U.Done ∷ us) = carried_out M us

-- the lines that are written at these notes
abbrev pub lines_given : List Noted → List FibUpdate
lines_given ns = update_lines start (events begin ns)

-- apart from `ok`, the lines are those of the operations
abbrev pub OutputIsGiven : Type 0
OutputIsGiven = (ns : List Noted) → filter is_operation (lines_given ns) ≡ map operation_line (given start (events begin ns))

-- one more note gives nothing, or one more batch: the lines of its operations, and then one `ok`
abbrev pub NotesGiveBatches : Type 0
NotesGiveBatches = (ns : List Noted) (n : Noted) →
    ((batches_given (ns ++ n ∷ []) ≡ batches_given ns) × (lines_given (ns ++ n ∷ []) ≡ lines_given ns))
    ⊎ ((batches_given (ns ++ n ∷ []) ≡ suc (batches_given ns)) × (lines_given (ns ++ n ∷ []) ≡ lines_given ns ++ (map operation_line (operations_at ns n) ++ U.Done ∷ [])))

-- the lines are read back as they were written
abbrev pub OutputReadsBack : Type 0
OutputReadsBack = (ns : List Noted) → MayAllCome start (events begin ns) → updates_in (installed_bytes ns) ≡ lines_given ns

-- Carry out the complete lines of any beginning of the output, on the table of the routes that the notes list as installed. Each address
-- then has its hop in this table after as many of the operations.
abbrev pub BeginningsAreCarriedOut : Type 0
BeginningsAreCarriedOut = (ns : List Noted) (front back : List ℕ) → MayAllCome start (events begin ns) → installed_bytes ns ≡ front ++ back → (x : Address)
    → hop_at (carried_out (haves (events begin ns)) (updates_in front)) x
    ≡ hop_at (after_all (haves (events begin ns)) (take (length (filter is_operation (updates_in front))) (given start (events begin ns)))) x

-- ---- from bytes to bytes

-- each line of a leader is a note, if the input of the leader has fewer than 2^64 bytes, as every input has
abbrev pub BeginningsAreNotes : Type 0
BeginningsAreNotes = (bytes front back : List ℕ) (refusals : List Bool) → length bytes < 2 ^ 64 → output bytes refusals ≡ front ++ back → All (λ piece. IsSome (note_of piece)) (lines front)

-- After the installer's output for such a log is carried out, each address has the hop of the leader's table after as many commands as
-- there are complete replies in the log.
abbrev pub OutputAgrees : Type 0
OutputAgrees = (bytes : List ℕ) (refusals : List Bool) (front back log : List ℕ) (ns : List Noted) → output bytes refusals ≡ front ++ back
    → AreNotes (lines log) ns → replies_in log ≡ replies_in front → HasSync ns
    → (x : Address) → IsAddress x
    → hop_at (carried_out (haves (events begin ns)) (updates_in (installed_bytes ns))) x ≡ hop_at (routes_of (table_told bytes refusals front)) x

-- The same holds at all times from the first `ok` on. Carry out the complete lines of a beginning of this output, cut at any byte. Each
-- address then has its hop in the leader's table after some number of commands, or after one more. The notes whose replies end these
-- commands had as many batches as there are `ok` lines in the beginning.
abbrev pub CutsAgree : Type 0
CutsAgree = (bytes : List ℕ) (refusals : List Bool) (front back log : List ℕ) (ns : List Noted) (written missing : List ℕ) → output bytes refusals ≡ front ++ back
    → AreNotes (lines log) ns → replies_in log ≡ replies_in front → installed_bytes ns ≡ written ++ missing → Contains (updates_in written) U.Done
    → (before : List Noted) × (later : List Noted) × (ns ≡ before ++ later) × (batches_given before ≡ oks (updates_in written))
    × ((x : Address) → IsAddress x
    → (hop_at (carried_out (haves (events begin ns)) (updates_in written)) x ≡ hop_at (routes_of (table_at bytes refusals (closings (replies_of before)))) x)
    ⊎ (hop_at (carried_out (haves (events begin ns)) (updates_in written)) x ≡ hop_at (routes_of (table_at bytes refusals (suc (closings (replies_of before))))) x))
