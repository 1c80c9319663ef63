-- What a leader's log makes of the output of an installer, and of any beginning of this output.
use Rattle.std.proofs.Common.{◌≡◌, ◌⊎◌, ℕ, suc, ◌+◌, Bool, true, List, [], ◌∷◌, ◌++◌, map, filter, length, take, Option, Some, None, inl, inr, ⊎_elim, refl, sym, ap, ◌∙◌, subst, IsSome, append_assoc, append-nil, length-append, arith}
use Rattle.std.specs.List.{filter_map}
use Rattle.std.proofs.lemmas.Bool.{cond_both}
use Rattle.std.proofs.lemmas.List.{map-append}
use Rattle.std.proofs.lemmas.List.Elements.{All-weaker, filter-append, filter_map-append}
use Rattle.ipnet_addr.specs.Addresses.{Address, IsAddress}
use Rattle.ipnet_addr.proofs.Members.{In, In-cases}
use Rattle.ipnet_addr.proofs.Ascending.{In-from_Contains}
use Rattle.route_lines.specs.Bytes.{lines}
use Rattle.route_lines.specs.Spelled.{note_of, reply_of, update_of}
use Rattle.route_lines.specs.declared.fib_input.FibInput.{FibInput}
use Rattle.route_lines.specs.declared.fib_input.FibInput.TheVariants as N
use Rattle.route_lines.specs.declared.fib_update.FibUpdate.{FibUpdate}
use Rattle.route_lines.specs.declared.fib_update.FibUpdate.TheVariants as U
use Rattle.route_lines.specs.declared.reply.Reply.{Reply}
use Rattle.route_lines.proofs.Notes.{replies}
use Rattle.route_laws.specs.Networks.{routes_of}
use Rattle.route_laws.specs.Operations.{Operation, after_all}
use Rattle.route_laws.specs.Runs.{Event, Installer, MayAllCome, after_event, after_events, given, gives, haves, start}
use Rattle.route_laws.specs.Tables.{hop_at}
use Rattle.route_laws.proofs.Between.{after-append}
use Rattle.route_laws.proofs.Runs.{no_haves}
use Rattle.route_feed.specs.Streams.{closings}
use Rattle.route_feed.proofs.Beginnings.{first_lines, first_replies}
use Rattle.route_feed.proofs.Grammar.{beginnings_are_replies}
use Rattle.route_installer.specs.Installing.{Installing, Noted, after_note, after_notes, batches, begin, event_lines, event_of, events, operation_line, update_lines}
use Rattle.route_installer.specs.Laws.{AreFirst, BeginningsAreNotes, CutsAgree, LogsAreFirst, OutputAgrees, carried_out, installed_by, is_operation, oks, operations_at, replies_of, reply_of_note, table_at, table_by, updates_in}
use Rattle.route_installer.proofs.GivenLines.{carried_hops, first_of_map, lines_operations, only_operations, output_is_given, output_reads_back}
use Rattle.route_installer.proofs.KeptTable.{first_too, installed_agrees, kept_agrees, kept_at_all_times, one_event}
use Rattle.route_installer.proofs.NotesInTurn.{events-append, haves-append, kept_stays, lines-append, may_split, replies_of-append}

-- ---- the notes of a log

-- a text that spells a note is the reply line of it, or none
line_of_note : (o : Option Reply) (text : List ℕ) (note : FibInput) → note_of text ≡ Some note → reply_of text ≡ o
    → o ≡ reply_of_note note
line_of_note None text (N.Reply r) e f = sym f ∙ (replies text r).0 e
line_of_note None text note e f = refl
line_of_note (Some r) text note e f = let other = sym e ∙ (replies text r).1 f in grind arith

lines_of_notes : (pieces : List (List ℕ)) (ns : List Noted) → map note_of pieces ≡ map (λ (n : Noted). Some n.note) ns → filter_map reply_of pieces ≡ replies_of ns
lines_of_notes [] [] e = refl
lines_of_notes (p ∷ ps) (n ∷ ns) e =
    let first : note_of p ≡ Some n.note = cc in
    let more : map note_of ps ≡ map (λ (m : Noted). Some m.note) ns = cc in
    rw (line_of_note (reply_of p) p n.note first refl, lines_of_notes ps ns more)
lines_of_notes ps ns e = absurd (cc)

pub logs_are_first : LogsAreFirst
logs_are_first bytes refusals front back log ns e are same =
    let (more, split) = first_replies bytes front back refusals e in
    (more, sym split ∙ ap (λ ls. ls ++ more) (sym same ∙ lines_of_notes (lines log) ns are.spelled))

some_note : (o : Option Reply) (text : List ℕ) → reply_of text ≡ o → IsSome o → IsSome (note_of text)
some_note None text e some = absurd (cc)
some_note (Some r) text e some = subst IsSome (sym ((replies text r).1 e)) refl

pub beginnings_are_notes : BeginningsAreNotes
beginnings_are_notes bytes front back refusals few e =
    All-weaker (λ piece. IsSome (reply_of piece)) (λ piece. IsSome (note_of piece)) (λ text. some_note (reply_of text) text refl)
    (lines front) (beginnings_are_replies bytes front back refusals few e)

pub output_agrees : OutputAgrees
output_agrees bytes refusals front back log ns e are same has x a =
    let es = events begin ns in
    let lines_are = sym (lines_of_notes (lines log) ns are.spelled) ∙ same in
    ap (λ us. hop_at (carried_out (haves es) us) x) (output_reads_back ns are.may)
    ∙ ap (λ M. hop_at M x) (only_operations (haves es) (update_lines start es))
    ∙ ap (λ us. hop_at (carried_out (haves es) us) x) (output_is_given ns)
    ∙ carried_hops (haves es) (given start es) x
    ∙ installed_agrees bytes refusals ns (logs_are_first bytes refusals front back log ns e are same) are.may has x a
    ∙ ap (λ ls. hop_at (routes_of (table_by bytes refusals ls)) x) lines_are

-- ---- lines that are `ok`

oks-append : (us vs : List FibUpdate) → oks (us ++ vs) ≡ oks us + oks vs
oks-append us vs = simp (filter-append, length-append)

no_oks : (os : List Operation) → oks (map operation_line os) ≡ 0
no_oks [] = refl
no_oks (o ∷ os) = grind (arith, no_oks os)

-- as many lines are `ok` as there are batches
batches_are_oks : (s : Installer) (es : List Event) → batches s es ≡ oks (update_lines s es)
batches_are_oks s [] = refl
batches_are_oks s (e ∷ es) = grind (arith, batches_are_oks (after_event s e) es, oks-append, no_oks)

no_ok_in : (us : List FibUpdate) → oks us ≡ 0 → In U.Done us → ⊥
no_ok_in [] e i = i
no_ok_in (U.Done ∷ us) e i = omega (arith, e)
no_ok_in (u ∷ us) e (inl same) = cc
no_ok_in (u ∷ us) e (inr i) = no_ok_in us e i

-- where a line is `ok` the table is kept
ok_keeps : (es : List Event) (s : Installer) → In U.Done (update_lines s es) → Installer.kept (after_events s es) ≡ true
ok_keeps [] s i = absurd i
ok_keeps (e ∷ es) s i = ⊎_elim
    (λ j. kept_stays es (after_event s e)
    (cond_both (after_event s e).kept (map operation_line (gives s e) ++ U.Done ∷ []) []
    (λ us. In U.Done us → (after_event s e).kept ≡ true) (λ k l. k) (λ k l. absurd l) j))
    (ok_keeps es (after_event s e))
    (In-cases U.Done (event_lines s e) (update_lines (after_event s e) es) i)

-- ---- where a beginning of the lines ends

-- lines that are whole batches, up to some note, and then operations of the next one
record Cut (s : Installing) (ns : List Noted) (us : List FibUpdate) : Type 0 where
  before : List Noted
  later : List Noted
  is : ns ≡ before ++ later
  begun : List FibUpdate
  lines : us ≡ update_lines s.tables (events s before) ++ begun
  open_batch : oks begun ≡ 0
  part : (begun ≡ []) ⊎ ((n : Noted) × (more : List Noted) × (tail : List FibUpdate) × (later ≡ n ∷ more)
      × (update_lines (Installing.tables (after_notes s before)) (event_of (after_notes s before) n.note n.table) ≡ begun ++ tail))

-- one list begins another, or the other way round
abbrev Begins : {A : Type 0} → List A → List A → List A → List A → Type 0
Begins {A} us rest vs ws = ((t : A) × (tail : List A) × (vs ≡ us ++ t ∷ tail)) ⊎ ((more : List A) × (us ≡ vs ++ more) × (more ++ rest ≡ ws))

begins : {A : Type 0} (us rest vs ws : List A) → us ++ rest ≡ vs ++ ws → Begins us rest vs ws
begins us rest [] ws e = inr (us, refl, e)
begins [] rest (v ∷ vs) ws e = inl (v, vs, refl)
begins (u ∷ us) rest (v ∷ vs) ws e =
    let first : u ≡ v = cc in
    let more : us ++ rest ≡ vs ++ ws = cc in
    ⊎_elim (λ t. inl (t.0, t.1, λ i. sym first i ∷ t.2 i)) (λ t. inr (t.0, (λ i. first i ∷ t.1 i), t.2)) (begins us rest vs ws more)

-- before the `ok` of a batch there are its operations alone
open_lines : (os : List Operation) (us : List FibUpdate) (t : FibUpdate) (tail : List FibUpdate) → map operation_line os ++ U.Done ∷ [] ≡ us ++ t ∷ tail → oks us ≡ 0
open_lines os [] t tail e = refl
open_lines [] (u ∷ us) t tail e = grind (arith, ap length e, length-append us (t ∷ tail))
open_lines (o ∷ os) (u ∷ us) t tail e =
    let more : map operation_line os ++ U.Done ∷ [] ≡ us ++ t ∷ tail = cc in
    grind (arith, open_lines os us t tail more, e)

not_empty : (us : List FibUpdate) (t : FibUpdate) (tail : List FibUpdate) → [] ≡ us ++ t ∷ tail → ⊥
not_empty us t tail e = grind (arith, ap length e, length-append us (t ∷ tail))

note_open : (s : Installing) (n : Noted) (us : List FibUpdate) (t : FibUpdate) (tail : List FibUpdate) → update_lines s.tables (event_of s n.note n.table) ≡ us ++ t ∷ tail → oks us ≡ 0
note_open s n us t tail h = ⊎_elim
    (λ none. absurd (not_empty us t tail (sym (ap (update_lines s.tables) none) ∙ h)))
    (λ q. cond_both (after_event s.tables q.0).kept (map operation_line (gives s.tables q.0) ++ U.Done ∷ []) []
    (λ l. l ++ [] ≡ us ++ t ∷ tail → oks us ≡ 0)
    (λ k e. open_lines (gives s.tables q.0) us t tail
    (sym (append-nil (map operation_line (gives s.tables q.0) ++ U.Done ∷ [])) ∙ e))
    (λ k e. absurd (not_empty us t tail e)) (sym (ap (update_lines s.tables) q.1) ∙ h))
    (one_event s n.note n.table)

where_cut : (ns : List Noted) (s : Installing) (us rest : List FibUpdate) → us ++ rest ≡ update_lines s.tables (events s ns)
    → Cut s ns us
where_cut [] s [] rest e = record { before = []; later = []; is = refl; begun = []; lines = refl; open_batch = refl; part = inl refl }
where_cut [] s (u ∷ us) rest e = absurd (cc)
where_cut (n ∷ ns) s us rest e =
    let at = after_note s n in
    let es = event_of s n.note n.table in
    ⊎_elim
    (λ h. record { before = []; later = n ∷ ns; is = refl; begun = us; lines = refl; open_batch = note_open s n us h.0 h.1 h.2; part = inr (n, ns, h.0 ∷ h.1, refl, h.2) })
    (λ h. let c = where_cut ns at h.0 rest h.2 in record {
      before = n ∷ c.before;
      later = c.later;
      is = ap (λ l. n ∷ l) c.is;
      begun = c.begun;
      lines = h.1 ∙ ap (λ l. update_lines s.tables es ++ l) c.lines
          ∙ rw (lines-append s.tables es (events at c.before), append_assoc);
      open_batch = c.open_batch;
      part = c.part;
    })
    (begins us rest (update_lines s.tables es) (update_lines at.tables (events at ns))
    (e ∙ lines-append s.tables es (events at ns)))

-- ---- what a beginning makes

closings-append : (ls ms : List Reply) → closings (ls ++ ms) ≡ closings ls + closings ms
closings-append [] ms = omega arith
closings-append (l ∷ ls) ms = grind (arith, closings-append ls ms)

-- a note ends one reply at most
next_closings : (ns : List Noted) (n : Noted)
    → (closings (replies_of (ns ++ n ∷ [])) ≡ closings (replies_of ns))
    ⊎ (closings (replies_of (ns ++ n ∷ [])) ≡ suc (closings (replies_of ns)))
next_closings ns n = grind (arith, closings-append, replies_of-append)

module _ (bytes : List ℕ) (refusals : List Bool) where
  -- the hop of one of two tables
  abbrev OneOfTwo : ℕ → Address → Option ℕ → Type 0
  OneOfTwo k x hop = (hop ≡ hop_at (routes_of (table_at bytes refusals k)) x) ⊎ (hop ≡ hop_at (routes_of (table_at bytes refusals (suc k))) x)

  module _ (ns : List Noted) (first : AreFirst bytes refusals (replies_of ns)) (may : MayAllCome start (events begin ns)) (us : List FibUpdate) (c : Cut begin ns us) (has : In U.Done us) where
    abbrev at : Installing
    at = after_notes begin c.before

    abbrev first_events : List Event
    first_events = events begin c.before

    split : events begin ns ≡ first_events ++ events at c.later
    split = ap (events begin) c.is ∙ events-append begin c.before c.later

    may_both : MayAllCome start first_events × MayAllCome (after_events start first_events) (events at c.later)
    may_both = may_split start first_events (events at c.later) (subst (MayAllCome start) split may)

    kept : Installer.kept (after_events start first_events) ≡ true
    kept = ⊎_elim (ok_keeps first_events start) (λ i. absurd (no_ok_in c.begun c.open_batch i))
        (In-cases U.Done (update_lines start first_events) c.begun (subst (In U.Done) c.lines has))

    -- the lines make what these operations make of what was installed at the note
    made : (os : List Operation) → filter is_operation c.begun ≡ map operation_line os → (x : Address) → hop_at (carried_out (haves (events begin ns)) us) x ≡ hop_at (after_all (installed_by c.before) os) x
    made os e x =
        let H = haves first_events in
        let G = given start first_events in
        let haves_are : haves (events begin ns) ≡ H =
        ap haves split ∙ haves-append first_events (events at c.later) []
        ∙ no_haves H (events at c.later) (after_events start first_events) kept may_both.1 in
        let all : filter is_operation us ≡ map operation_line (G ++ os) =
        ap (filter is_operation) c.lines ∙ rw (filter-append, lines_operations, e, map-append) in
        ap (λ M. hop_at (carried_out M us) x) haves_are
        ∙ ap (λ M. hop_at M x) (only_operations H us)
        ∙ ap (λ l. hop_at (carried_out H l) x) all
        ∙ carried_hops H (G ++ os) x
        ∙ ap (λ M. hop_at M x) (after-append H G os)

    two_hops : (x : Address) → IsAddress x → OneOfTwo (closings (replies_of c.before)) x (hop_at (carried_out (haves (events begin ns)) us) x)
    two_hops x a = ⊎_elim
        (λ none.
        let before = first_too bytes refusals c.before c.later (subst (λ l. AreFirst bytes refusals (replies_of l)) c.is first) in
        inl (made [] (ap (filter is_operation) none) x ∙ kept_agrees bytes refusals c.before before may_both.0 kept x a))
        (λ p. let (n, more, tail, later_is, begins) = p in
        let ops = operations_at c.before n in
        let part = sym (filter-append is_operation c.begun tail) ∙ ap (filter is_operation) (sym begins) ∙ lines_operations at.tables (event_of at n.note n.table) in
        let i = length (filter is_operation c.begun) in
        let is = c.is ∙ ap (λ l. c.before ++ l) later_is in
        let done = made (take i ops) (first_of_map operation_line ops (filter is_operation c.begun) (filter is_operation tail) part) x in
        ⊎_elim
        (λ e. inl (done ∙ e))
        (λ e. ⊎_elim (λ z. inl (done ∙ rw z at e)) (λ z. inr (done ∙ rw z at e)) (next_closings c.before n))
        (kept_at_all_times bytes refusals c.before more n (subst (λ l. AreFirst bytes refusals (replies_of l)) is first) (subst (λ l. MayAllCome start (events begin l)) is may) kept x a i))
        c.part

pub cuts_agree : CutsAgree
cuts_agree bytes refusals front back log ns written missing e are same out has =
    let us = updates_in written in
    let (more, first) = first_lines written missing in
    let whole : us ++ filter_map update_of more ≡ update_lines start (events begin ns) =
    sym (filter_map-append update_of (lines written) more) ∙ ap (filter_map update_of) (sym first) ∙ ap updates_in (sym out) ∙ output_reads_back ns are.may in
    let c = where_cut ns begin us (filter_map update_of more) whole in
    let count : oks us ≡ oks (update_lines start (events begin c.before)) + oks c.begun = ap oks c.lines ∙ oks-append (update_lines start (events begin c.before)) c.begun in
    let none = c.open_batch in
    let batches = batches_are_oks start (events begin c.before) in (
      c.before,
      c.later,
      c.is,
      batches ∙ (let all : oks (update_lines start (events begin c.before)) ≡ oks us = omega (arith, count, none) in all),
      two_hops bytes refusals ns (logs_are_first bytes refusals front back log ns e are same) are.may us c (In-from_Contains us U.Done has),
    )
