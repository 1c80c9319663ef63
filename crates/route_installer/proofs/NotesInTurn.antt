-- Notes one after another, and the hops that they tell.
use Rattle.std.proofs.Common.{◌≡◌, ℕ, ◌+◌, Bool, true, false, cond, List, [], ◌∷◌, ◌++◌, map, Option, None, ⊎_elim, refl, sym, ap, ◌∙◌, append_assoc, option_to_list, arith}
use Rattle.std.specs.Option.{option_map_or}
use Rattle.std.specs.List.{cons_option}
use Rattle.std.proofs.lemmas.List.Elements.{filter_map-append}
use Rattle.ipnet_addr.specs.Addresses.{Address}
use Rattle.ipnet_addr.proofs.Members.{In}
use Rattle.ipnet_addr.proofs.Ascending.{In-from_Any}
use Rattle.ipnet_blocks.specs.Blocks.{has_address}
use Rattle.route_lines.specs.declared.fib_input.FibInput.{FibInput}
use Rattle.route_lines.specs.declared.fib_input.FibInput.TheVariants as N
use Rattle.route_lines.specs.declared.reply.Reply.{Reply}
use Rattle.route_lines.specs.declared.reply.Reply.TheVariants as R
use Rattle.route_laws.specs.Painted.{hop_over}
use Rattle.route_laws.specs.Runs.{Event, Have, Sync, Installer, MayAllCome, after_event, after_events, given, gives, start, told, with_haves}
use Rattle.route_laws.specs.Tables.{Route, with_route}
use Rattle.route_laws.proofs.Insides.{number_from_hop}
use Rattle.route_feed.specs.Streams.{Change, change_of, closes, committed, ends_well, is_done, painted_hop, painted_over, pending_after}
use Rattle.route_feed.proofs.Carried.{painted-append}
use Rattle.route_program.proofs.InTurn.{after-append, made-append}
use Rattle.route_installer.specs.Installing.{Installing, Noted, after_note, after_notes, batches, begin, committing, event_lines, event_of, events, pending_past, route_to, update_lines}
use Rattle.route_installer.specs.Laws.{HasSync, replies_of, reply_of_note}

pub after_events-append : (s : Installer) (es fs : List Event) → after_events s (es ++ fs) ≡ after_events (after_events s es) fs
after_events-append = after-append after_event after_events (λ s. refl) (λ s e es. refl)

pub lines-append : (s : Installer) (es fs : List Event) → update_lines s (es ++ fs) ≡ update_lines s es ++ update_lines (after_events s es) fs
lines-append = made-append after_event after_events (λ s. refl) (λ s e es. refl) event_lines update_lines (λ s. refl) (λ s e es. refl)

pub batches-append : (s : Installer) (es fs : List Event) → batches s (es ++ fs) ≡ batches s es + batches (after_events s es) fs
batches-append s [] fs = omega arith
batches-append s (e ∷ es) fs = grind (arith, batches-append (after_event s e) es fs)

pub given-append : (s : Installer) (es fs : List Event) → given s (es ++ fs) ≡ given s es ++ given (after_events s es) fs
given-append = made-append after_event after_events (λ s. refl) (λ s e es. refl) gives given (λ s. refl) (λ s e es. refl)

pub haves-append : (es fs : List Event) (M : List Route) → with_haves M (es ++ fs) ≡ with_haves (with_haves M es) fs
haves-append [] fs M = refl
haves-append (Have r ∷ es) fs M = haves-append es fs (with_route M r)
haves-append (e ∷ es) fs M = haves-append es fs M

-- the first of some events may come, and then the later ones
pub may_split : (s : Installer) (es fs : List Event) → MayAllCome s (es ++ fs) → MayAllCome s es × MayAllCome (after_events s es) fs
may_split s [] fs m = (tt, m)
may_split s (e ∷ es) fs m = let t = may_split (after_event s e) es fs m.1 in ((m.0, t.0), t.1)

pub events-append : (s : Installing) (ns ms : List Noted) → events s (ns ++ ms) ≡ events s ns ++ events (after_notes s ns) ms
events-append = made-append after_note after_notes (λ s. refl) (λ s e es. refl) (λ s n. event_of s n.note n.table) events (λ s. refl) (λ s e es. refl)

-- the tables after notes are those after their events
pub tables_after : (s : Installing) (ns : List Noted) → Installing.tables (after_notes s ns) ≡ after_events s.tables (events s ns)
tables_after s [] = refl
tables_after s (n ∷ ns) = tables_after (after_note s n) ns ∙ sym (after_events-append s.tables (event_of s n.note n.table) (events (after_note s n) ns))

pub replies_of-append : (ns ms : List Noted) → replies_of (ns ++ ms) ≡ replies_of ns ++ replies_of ms
replies_of-append ns ms = filter_map-append (λ (n : Noted). reply_of_note n.note) ns ms

-- ---- once the table is kept

pub kept_stays : (es : List Event) (s : Installer) → s.kept ≡ true → Installer.kept (after_events s es) ≡ true
kept_stays [] s k = k
kept_stays (Sync N ∷ es) s k = kept_stays es (after_event s (Sync N)) refl
kept_stays (e ∷ es) s k = kept_stays es (after_event s e) k

sync_keeps : (ns : List Noted) (s : Installing) (n : Noted) → In n ns → n.note ≡ N.Sync → Installer.kept (after_events s.tables (events s ns)) ≡ true
sync_keeps [] s n i e = absurd i
sync_keeps (m ∷ ns) s n i e =
    ap Installer.kept (after_events-append s.tables (event_of s m.note m.table) (events (after_note s m) ns))
    ∙ ⊎_elim
    (λ same. let is : m.note ≡ N.Sync = sym (ap Noted.note same) ∙ e in kept_stays (events (after_note s m) ns) _ (rw is refl))
    (λ j. sync_keeps ns (after_note s m) n j e)
    i

pub is_kept : (ns : List Noted) → HasSync ns → Installer.kept (after_events start (events begin ns)) ≡ true
is_kept ns h = let t = In-from_Any (λ (n : Noted). n.note ≡ N.Sync) ns h in sync_keeps ns begin t.0 t.1 t.2

-- ---- the hops that they tell

-- the changes that lines commit, and those that wait before them, if the first closing line is `ok`
abbrev committed_from : List Change → List Reply → List Change
committed_from pending ls = cond (ends_well ls) pending [] ++ committed ls

nothing_waits : (d : Bool) (cs : List Change) → cond d cs cs ≡ cond d [] [] ++ cs
nothing_waits d cs = grind arith

waits_before : (d : Bool) (pending more cs : List Change)
    → cond d pending [] ++ cond d (more ++ cs) cs ≡ cond d (pending ++ more) [] ++ cs
waits_before d pending more cs = grind (arith, append_assoc)

-- whether a line commits what waits
abbrev commits : Reply → Bool
commits l = option_map_or is_done (closes l) false

committed_more : (pending : List Change) (l : Reply) (ls : List Reply)
    → committed_from pending (l ∷ ls) ≡ cond (commits l) pending [] ++ committed_from
    (pending_after pending (closes l) (change_of l)) ls
committed_more pending (R.Close closing) ls =
    ap (λ cs. cond (is_done closing) pending [] ++ cs) (nothing_waits (ends_well ls) (committed ls))
committed_more pending l ls = waits_before (ends_well ls) pending (option_to_list (change_of l)) (committed ls)

-- changes as routes give each address the same hop
over_routes : (now : Option ℕ) (cs : List Change) (x : Address) → hop_over now (map route_to cs) x ≡ painted_over now cs x
over_routes now [] x = refl
over_routes now (c ∷ cs) x =
    ap (λ (o : Option ℕ). hop_over (cond (has_address c.block x) o now) (map route_to cs) x) (number_from_hop c.number)
    ∙ over_routes (cond (has_address c.block x) c.number now) cs x

module _ (x : Address) where
  told_committing : (d : Bool) (cs : List Change) (M : List Route) (now : Option ℕ) (es : List Event)
      → told now (cond d (committing cs M) [] ++ es) x ≡ told (painted_over now (cond d cs []) x) es x
  told_committing true (c ∷ cs) M now es = ap (λ o. told o es x) (over_routes now (c ∷ cs) x)
  told_committing d cs M now es = refl

  -- an event, and later ones
  told_event : (note : FibInput) (s : Installing) (M : List Route) (ls : List Reply) (es : List Event)
      → ((now : Option ℕ) → told now es x ≡ painted_over now (committed_from (pending_past s.pending note) ls) x)
      → (now : Option ℕ)
      → told now (event_of s note M ++ es) x ≡ painted_over now
      (committed_from s.pending (cons_option (reply_of_note note) ls)) x
  told_event (N.Reply l) s M ls es h now =
      told_committing (commits l) s.pending M now es
      ∙ h (painted_over now (cond (commits l) s.pending []) x)
      ∙ sym (painted-append now (cond (commits l) s.pending []) (committed_from (pending_past s.pending (N.Reply l)) ls) x)
      ∙ ap (λ cs. painted_over now cs x) (sym (committed_more s.pending l ls))
  told_event note s M ls es h now = h now

  told_notes : (ns : List Noted) (s : Installing) (now : Option ℕ)
      → told now (events s ns) x ≡ painted_over now (committed_from s.pending (replies_of ns)) x
  told_notes [] s now = refl
  told_notes (n ∷ ns) s now =
      told_event n.note s n.table (replies_of ns) (events (after_note s n) ns) (told_notes ns (after_note s n)) now

-- the hops that notes tell are those that their reply lines commit
pub told_is_committed : (ns : List Noted) (x : Address) → told None (events begin ns) x ≡ painted_hop (committed (replies_of ns)) x
told_is_committed ns x =
    let nothing : committed_from [] (replies_of ns) ≡ committed (replies_of ns) = grind arith in
    told_notes x ns begin None ∙ ap (λ cs. painted_hop cs x) nothing
