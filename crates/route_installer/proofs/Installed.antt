-- What an installer has done at the end of its input.
use Rattle.std.proofs.Common.{◌≡◌, ℕ, ◌+◌, inr, ⊎_elim, All, Bool, true, false, cond, List, [], ◌∷◌, ◌++◌, map, IfSome, Option, None, Some, Result, Ok, Err, refl, sym, ap, ◌∙◌, subst, MatchOption, OnOk, arith}
use Rattle.std.specs.Option.{option_map_or}
use Rattle.std.proofs.KnownBytes.{Appends-trans, Consumes-whole}
use Rattle.std.proofs.lemmas.Grind.{flat_map-append}
use Rattle.std.proofs.lemmas.List.Elements.{All-append, All-map, All-nil, All-push}
use Rattle.ipnet_blocks.specs.Blocks.{IsBlock}
use Rattle.ipnet.specs.IpNets.{block}
use Rattle.route_choices.specs.Hops.{IsHop, hop_from}
use Rattle.route_laws.specs.Runs.{Event, Installer, MayAllCome, after_event, after_events}
use Rattle.route_laws.specs.Tables.{Route}
use Rattle.route_lines.specs.Bytes.{lines}
use Rattle.route_lines.specs.InnerPhrase.{Gives}
use Rattle.route_lines.specs.Lines.{line_of, lines_in}
use Rattle.route_lines.specs.Spelled.{note_of}
use Rattle.route_lines.specs.Texts.{IsNote}
use Rattle.route_lines.specs.declared.cutter.Line.{Line}
use Rattle.route_lines.specs.declared.cutter.Rest.{Rest}
use Rattle.route_lines.specs.declared.fib_input.FibInput.{FibInput}
use Rattle.route_lines.specs.declared.fib_input.FibInput.TheVariants as N
use Rattle.route_lines.specs.declared.reply.Closing.{Closing}
use Rattle.route_lines.specs.declared.reply.Reply.TheVariants as R
use Rattle.route_lines.proofs.Spells.{note_found}
use Rattle.route_program.specs.declared.counted.Counted.{Counted}
use Rattle.route_program.specs.declared.error.RunError.{RunError}
use Rattle.route_program.specs.declared.error.RunError.TheVariants as Why
use Rattle.route_program.specs.Counted.{ReadWell}
use Rattle.route_program.specs.Devices.{Closed, HasReturned}
use Rattle.route_program.specs.Run.{Runs, TakesAll}
use Rattle.route_program.proofs.Written.{Closed-nil, Closed-plus}
use Rattle.route_feed.specs.Streams.{Change, change_of, closes, is_done, pending_after}
use Rattle.route_feed.proofs.ReadLines.{of_notes, piece_spells}
use Rattle.route_feed.proofs.ReadNets.{hop_is_hop, net_is_block}
use Rattle.route_installer.specs.InnerInstalling.{AllFit, Takes, TakesNone, TakesNote, TakesNoteLine, update_line}
use Rattle.route_installer.specs.Installing.{AreNotes, Installing, IsUnfit, Noted, after_note, after_notes, batches, begin, committing, event_of, events, pending_past, printed_updates, route_to, update_lines}
use Rattle.route_installer.specs.Installs.{AppendsInstalled, InstallEnds, Installs, Meets, WritesBatches}
use Rattle.route_installer.proofs.NotesInTurn.{batches-append, lines-append}

-- ---- notes in range

-- the change is of a block, to a hop
abbrev IsInRange : Change → Type 0
IsInRange c = IsBlock c.block × IsHop (hop_from c.number)

-- a route that is installed already, and a change
abbrev NoteInRange : FibInput → Type 0
NoteInRange (N.Have net hop) = IsBlock (block net) × IsHop hop
NoteInRange N.Sync = Unit {0}
NoteInRange (N.Reply line) = IfSome (change_of line) IsInRange

read_in_range : (text : List ℕ) (note : FibInput) → IsNote text note → NoteInRange note
read_in_range text (N.Have net hop) h = (net_is_block h.phrase.front net h.phrase.first, hop_is_hop h.phrase.back hop h.phrase.second)
read_in_range text (N.Reply (R.Set net number)) h =
    (net_is_block h.phrase.front net h.phrase.first, omega (arith, h.phrase.second.2))
read_in_range text (N.Reply (R.Unset net)) h = (net_is_block h.rest net h.phrase, tt)
read_in_range text note h = tt

pending_in_range : (cs : List Change) (o : Option Closing) (c : Option Change) → All IsInRange cs → IfSome c IsInRange
    → All IsInRange (pending_after cs o c)
pending_in_range cs None None p q = All-append IsInRange cs [] p (All-nil IsInRange)
pending_in_range cs None (Some c) p q = All-push IsInRange cs c p q
pending_in_range cs (Some closing) c p q = All-nil IsInRange

past_in_range : (cs : List Change) (note : FibInput) → All IsInRange cs → NoteInRange note → All IsInRange (pending_past cs note)
past_in_range cs (N.Reply line) p q = pending_in_range cs (closes line) (change_of line) p q
past_in_range cs note p q = p

-- ---- notes that may come

may-append : (s : Installer) (es fs : List Event) → MayAllCome s es → MayAllCome (after_events s es) fs → MayAllCome s (es ++ fs)
may-append s [] fs p q = q
may-append s (e ∷ es) fs p q = (p.0, may-append (after_event s e) es fs p.1 q)

committing_may : (d : Bool) (cs : List Change) (L : List Route) (s : Installer) → All IsInRange cs
    → AllFit s (cond d (committing cs L) []) → MayAllCome s (cond d (committing cs L) [])
committing_may true (c ∷ cs) L s p f =
    let blocks = All-map (λ (r : Route). IsBlock r.block) route_to (c ∷ cs) (λ k d h. (p k d h).0) in
    let hops = All-map (λ (r : Route). IsHop r.hop) route_to (c ∷ cs) (λ k d h. (p k d h).1) in
    ((record { blocks = blocks; hops = hops }, f.0), tt)
committing_may d cs L s p f = tt

-- the events of one note
note_may : (a : Installing) (note : FibInput) (L : List Route) → All IsInRange a.pending → NoteInRange note
    → AllFit a.tables (event_of a note L) → MayAllCome a.tables (event_of a note L)
note_may a (N.Have net hop) L p q f = ((f.0, q.0, q.1), tt)
note_may a N.Sync L p q f = f
note_may a (N.Reply line) L p q f = committing_may (option_map_or is_done (closes line) false) a.pending L a.tables p f

-- pieces that spell notes, which may come
record Comes (a : Installing) (ps : List (List ℕ)) (ns : List Noted) : Type 0 where
  spelled : map note_of ps ≡ map (λ n. Some n.note) ns
  may : All IsInRange a.pending → MayAllCome a.tables (events a ns)

comes_nil : (a : Installing) → Comes a [] []
comes_nil a = record { spelled = refl; may = λ r. tt }

comes_more : (a : Installing) (p : List ℕ) (ps : List (List ℕ)) (n : Noted) (ns : List Noted) → note_of p ≡ Some n.note
    → AllFit a.tables (event_of a n.note n.table) → Comes (after_note a n) ps ns → Comes a (p ∷ ps) (n ∷ ns)
comes_more a p ps n ns e fit later =
    let range = read_in_range p n.note (subst (Gives IsNote p) e (note_found p)) in
    record {
      spelled = λ i. e i ∷ later.spelled i;
      may = λ r. may-append a.tables (event_of a n.note n.table) (events (after_note a n) ns)
          (note_may a n.note n.table r range fit) (later.may (past_in_range a.pending n.note r range));
    }

are_notes : (ps : List (List ℕ)) (ns : List Noted) → Comes begin ps ns → AreNotes ps ns
are_notes ps ns c = record { spelled = c.spelled; may = c.may (All-nil IsInRange) }

-- ---- notes after notes

module _ {W : Type 0} (contents : W → Option (List ℕ)) where
  -- what comes of a piece, by the note that it spells
  abbrev Outcome : Option FibInput → Installing → Counted W → Result Unit RunError → Installing → Counted W → Type 0
  Outcome o a old r b new = MatchOption o (TakesNone contents old r new) (λ note. TakesNote contents a note old r b new)

  outcome : (a b : Installing) (p : List ℕ) (old new : Counted W) (r : Result Unit RunError)
      → TakesNoteLine contents a (line_of p) old r b new → Outcome (note_of p) a old r b new
  outcome a b p old new r t = subst (λ o. Outcome o a old r b new) (piece_spells of_notes p) t

  -- these pieces were taken as these notes
  record TakesPieces (a : Installing) (ps : List (List ℕ)) (ns : List Noted) (old new : Counted W) : Type 0 where
    comes : Comes a ps ns
    closed : Closed contents (batches a.tables (events a ns)) old new (printed_updates (update_lines a.tables (events a ns)))

  pieces-nil : (a : Installing) (w : Counted W) → TakesPieces a [] [] w w
  pieces-nil a w = record { comes = comes_nil a; closed = Closed-nil contents w }

  pieces-more : (a b : Installing) (p : List ℕ) (ps : List (List ℕ)) (n : Noted) (ns : List Noted) (old mid new : Counted W)
      → note_of p ≡ Some n.note → Takes contents a b n old mid → TakesPieces (after_note a n) ps ns mid new
      → TakesPieces a (p ∷ ps) (n ∷ ns) old new
  pieces-more a b p ps n ns old mid new e t later =
      let es = event_of a n.note n.table in
      let rest = events (after_note a n) ns in
      record {
        comes = comes_more a p ps n ns e t.fit later.comes;
        closed = rw (
          batches-append a.tables es rest,
          lines-append a.tables es rest,
          flat_map-append update_line (update_lines a.tables es) (update_lines (after_events a.tables es) rest),
        )
            (Closed-plus contents (batches a.tables es) (batches (after_events a.tables es) rest) old mid new _ _ t.closed later.closed);
      }

  abbrev TakesLines : Installing → List Line → Counted W → Result Unit RunError → Installing → Counted W → Type 0
  TakesLines = TakesAll (TakesNoteLine contents)

  -- a line that was taken
  line_taken : (o : Option FibInput) (a b : Installing) (p : List ℕ) (old new : Counted W) → note_of p ≡ o
      → Outcome o a old (Ok tt) b new → (n : Noted) × (note_of p ≡ Some n.note) × Takes contents a b n old new
  line_taken None a b p old new e t = absurd (let f = t.0 in cc)
  line_taken (Some note) a b p old new e t = (record { note = note; table = t.0 }, e, t.1)

  -- all were
  all_taken : (a b : Installing) (ps : List (List ℕ)) (old new : Counted W) → TakesLines a (map line_of ps) old (Ok tt) b new
      → (ns : List Noted) × TakesPieces a ps ns old new
  all_taken a b [] old new t = ([], subst (TakesPieces a [] [] old) (sym t.2) (pieces-nil a old))
  all_taken a b (p ∷ ps) old new t = ⊎_elim
      (λ q.
      let one = line_taken (note_of p) a q.0 p old q.1 refl (outcome a q.0 p old q.1 (Ok tt) q.2) in
      let later = all_taken (after_note a one.0) b ps q.1 new
      (subst (λ c. TakesLines c (map line_of ps) q.1 (Ok tt) b new) one.2.next q.3) in
      (one.0 ∷ later.0, pieces-more a q.0 p ps one.0 later.0 old q.1 new one.1 one.2 later.1))
      (λ q. absurd (let e = q.0 in cc))
      t

  -- those before one of them were, and this one was not
  record Stops (a : Installing) (ps : List (List ℕ)) (e : RunError) (old new : Counted W) : Type 0 where
    before : List (List ℕ)
    piece : List ℕ
    after : List (List ℕ)
    notes : List Noted
    mid : Counted W
    last : Installing
    split : ps ≡ before ++ piece ∷ after
    taken : TakesPieces a before notes old mid
    stops : Outcome (note_of piece) (after_notes a notes) mid (Err e) last new
    too : (n : Noted) → note_of piece ≡ Some n.note
        → AllFit (after_notes a notes).tables (event_of (after_notes a notes) n.note n.table)
        → Comes a (before ++ piece ∷ []) (notes ++ n ∷ [])

  one_stops : (a b : Installing) (ps : List (List ℕ)) (e : RunError) (old new : Counted W) → TakesLines a (map line_of ps) old (Err e) b new → Stops a ps e old new
  one_stops a b [] e old new t = absurd (let f = t.0 in cc)
  one_stops a b (p ∷ ps) e old new t = ⊎_elim
      (λ q.
      let one = line_taken (note_of p) a q.0 p old q.1 refl (outcome a q.0 p old q.1 (Ok tt) q.2) in
      let s = one_stops (after_note a one.0) b ps e q.1 new (subst (λ c. TakesLines c (map line_of ps) q.1 (Err e) b new) one.2.next q.3) in
      record {
        before = p ∷ s.before;
        piece = s.piece;
        after = s.after;
        notes = one.0 ∷ s.notes;
        mid = s.mid;
        last = s.last;
        split = ap (λ l. p ∷ l) s.split;
        taken = pieces-more a q.0 p s.before one.0 s.notes old q.1 s.mid one.1 one.2 s.taken;
        stops = s.stops;
        too = λ n h fit. comes_more a p (s.before ++ s.piece ∷ []) one.0 (s.notes ++ n ∷ []) one.1 one.2.fit (s.too n h fit);
      })
      (λ q. record {
        before = [];
        piece = p;
        after = ps;
        notes = [];
        mid = old;
        last = b;
        split = refl;
        taken = pieces-nil a old;
        stops = outcome a b p old new (Err e) q.1;
        too = λ n h fit. comes_more a p [] n [] h fit (comes_nil (after_note a n));
      })
      t

  unfit : (o : Option FibInput) (c last : Installing) (mid new : Counted W) → Outcome o c mid (Err Why.Line) last new
      → IsUnfit c o × (new ≡ mid)
  unfit None c last mid new w = (tt, w.1)
  unfit (Some note) c last mid new w = w

-- ---- a run of a new installer

module _ {R W : Type 0} (remaining : R → Option (List ℕ)) (contents : W → Option (List ℕ)) (from to : Counted R) (old new : Counted W) where
  -- a line was not taken
  module _ (bytes : List ℕ) (read : HasReturned remaining from to bytes) (well : ReadWell from to) (e : RunError)
      (s : Stops contents begin (lines bytes) e old new) where
    abbrev meets : Meets remaining from to
    meets = record {
      bytes = bytes;
      notes = s.notes;
      before = s.before;
      piece = s.piece;
      after = s.after;
      read = read;
      well = well;
      split = s.split;
      are = are_notes s.before s.notes s.taken.comes;
    }

    gave : new ≡ s.mid → WritesBatches contents s.notes old new × (new.faults ≡ old.faults)
    gave same = rw same (record { written = s.taken.closed.appended; flushed = s.taken.closed.flushed }, s.taken.closed.faults)

  line_ends : (o : Option FibInput) (bytes : List ℕ) (read : HasReturned remaining from to bytes) (well : ReadWell from to)
      (e : RunError) (s : Stops contents begin (lines bytes) e old new) → note_of s.piece ≡ o
      → Outcome contents o (after_notes begin s.notes) s.mid (Err e) s.last new
      → InstallEnds remaining contents from to old new (Err e)
  line_ends o bytes read well Why.Line s is w =
      let u = unfit contents o (after_notes begin s.notes) s.last s.mid new w in
      let g = gave bytes read well Why.Line s u.1 in (
        record {
          meets = meets bytes read well Why.Line s;
          unfit = subst (IsUnfit (after_notes begin s.notes)) (sym is) u.0;
          gives = g.0;
        },
        g.1,
      )
  line_ends (Some note) bytes read well Why.Memory s is w =
      let g = gave bytes read well Why.Memory s w.1 in
      inr (record { meets = meets bytes read well Why.Memory s; note = note; is_note = is; wants = w.0; gives = g.0 }, g.1)
  line_ends (Some note) bytes read well Why.Write s is w =
      let n : Noted = record { note = note; table = w.0 } in
      let f = w.1 in (
        record {
          meets = meets bytes read well Why.Write s;
          last = n;
          begun = f.torn.front;
          missing = f.torn.back;
          are_too = are_notes (s.before ++ s.piece ∷ []) (s.notes ++ n ∷ []) (s.too n is f.fit);
          some = f.some;
          is_front = f.torn.is_front;
          gives = record {
            written = Appends-trans _ _ _ _ f.torn.front s.taken.closed.appended f.torn.appended;
            flushes = f.torn.flushes ∙ s.taken.closed.flushed.0;
          };
        },
        (f.torn.failed.0 ∙ ap (λ n. n + 1) s.taken.closed.faults, f.torn.failed.1),
      )
  line_ends (Some note) bytes read well Why.Read s is w = absurd w
  line_ends None bytes read well e s is w = absurd (let f = w.0 in cc)

  module _ (b : Installing) where
    -- all lines of these bytes were taken
    all_are : (bytes : List ℕ) → HasReturned remaining from to bytes → TakesLines contents begin (lines_in bytes) old (Ok tt) b new
        → Installs remaining contents from to old new × (new.faults ≡ old.faults)
    all_are bytes read t =
        let p = all_taken contents begin b (lines bytes) old new t in (
          record {
            bytes = bytes;
            notes = p.0;
            read = read;
            are = are_notes (lines bytes) p.0 p.1.comes;
            gives = record { written = p.1.closed.appended; flushed = p.1.closed.flushed };
          },
          p.1.closed.faults,
        )

    -- a run that did not reach the end
    pub install_stopped : (e : RunError) → Runs (TakesNoteLine contents) remaining begin from old (Err e) b to new
        → InstallEnds remaining contents from to old new (Err e)
    install_stopped e x = ⊎_elim
        (λ p. let all = all_are x.bytes x.read p.0 in subst (λ k. InstallEnds remaining contents from to old new (Err k)) (sym p.1) (all.0, p.2, all.1))
        (λ p. let s = one_stops contents begin b (lines x.bytes) e old new p.0 in
        line_ends (note_of s.piece) x.bytes x.read p.1 e s refl s.stops)
        x.ends

    -- that did
    pub install_ended : (left : Rest) → Runs (TakesNoteLine contents) remaining begin from old (Ok left) b to new
        → InstallEnds remaining contents from to old new (Ok tt)
    install_ended left x = let all = all_are x.bytes x.read x.ends.0 in (all.0, x.ends.2, all.1)

-- where the reader tells its bytes
pub install_known : {R W : Type 0} (remaining : R → Option (List ℕ)) (contents : W → Option (List ℕ)) (from to : Counted R) (old new : Counted W) (r : Result Unit RunError) → InstallEnds remaining contents from to old new r
    → OnOk r (IfSome (remaining from.device) (λ bytes. AppendsInstalled (lines bytes) (contents old.device) (contents new.device)))
install_known remaining contents from to old new (Ok done) x =
    let s = x.0 in
    Consumes-whole (remaining from.device) (remaining to.device) s.bytes _ s.read.0 x.1.at_end (s.notes, s.are, s.gives.written)
install_known remaining contents from to old new (Err e) x = tt
