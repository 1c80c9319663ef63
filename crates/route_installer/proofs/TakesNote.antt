-- What an installer does at a note, and the bytes of a batch.
use Rattle.std.proofs.Common.{◌≡◌, ◌≢◌, ℕ, ◌+◌, ◌<◌, inl, inr, true, false, List, [], ◌∷◌, ◌++◌, length, map, take, slice_index_or, Option, None, Some, Result, Ok, Err, refl, sym, ap, ◌∙◌, subst, append-nil, IfErr, MatchOption, OnErr, OnOk, is_some, not, arith}
use Rattle.std.proofs.lemmas.Grind.{flat_map-append}
use Rattle.std.proofs.lemmas.List.{length-append, length-map, map-append}
use Rattle.ipnet.specs.IpNets.{block, network_at}
use Rattle.ipnet.specs.declared.ip_net.IpNet.{IpNet}
use Rattle.ipnet_addr.specs.Addresses.{Ipv4, Ipv6}
use Rattle.route_choices.specs.Choices.{default_preference}
use Rattle.route_choices.specs.Hops.{hop_from, number_of}
use Rattle.route_choices.specs.declared.hop.Hop.{Hop}
use Rattle.route_laws.specs.LeastTables.{IsLeast, routes_for}
use Rattle.route_laws.specs.Nearest.{IsNearest}
use Rattle.route_laws.specs.Networks.{Stored, routes_of}
use Rattle.route_laws.specs.Onwards.{count_of}
use Rattle.route_laws.specs.Operations.{Operation, between}
use Rattle.route_laws.specs.Painted.{painted, painted_all}
use Rattle.route_laws.specs.Runs.{Event, Told, Sync, after_event, gives}
use Rattle.route_laws.specs.Tables.{Route, IsTable, hop_at, route_of}
use Rattle.route_laws.proofs.Runs.{none_between}
use Rattle.route_lines.specs.Texts as text
use Rattle.route_lines.specs.declared.cutter.Line.{Line}
use Rattle.route_lines.specs.declared.fib_input.FibInput.{FibInput}
use Rattle.route_lines.specs.declared.fib_input.FibInput.TheVariants as N
use Rattle.route_lines.specs.declared.fib_update.FibUpdate.{FibUpdate}
use Rattle.route_lines.specs.declared.fib_update.FibUpdate.TheVariants as U
use Rattle.route_lines.specs.declared.reply.Closing.TheVariants.{Done}
use Rattle.route_lines.specs.declared.reply.Reply.{Reply}
use Rattle.route_lines.specs.declared.reply.Reply.TheVariants.{Close}
use Rattle.route_table.specs.Operations.{network_of, operation_of}
use Rattle.route_table.specs.declared.between.Operation as Given
use Rattle.route_table.specs.declared.between.Operation.TheVariants as One
use Rattle.route_program.specs.Counted.{CanCount}
use Rattle.route_program.specs.Devices.{Closes}
use Rattle.route_program.specs.declared.counted.Counted.{Counted}
use Rattle.route_program.specs.declared.error.RunError.{RunError}
use Rattle.route_program.specs.declared.error.RunError.TheVariants as Why
use Rattle.route_program.proofs.InTurn.{after-append}
use Rattle.route_program.proofs.Written.{Closed-nil}
use Rattle.route_feed.specs.InnerWaiting.{changes_of}
use Rattle.route_feed.specs.Lines.{reply_line}
use Rattle.route_feed.specs.Streams.{Change, change_of, closes}
use Rattle.route_feed.proofs.Carried.{before_place}
use Rattle.route_installer.specs.InnerInstalling.{Has, IsFit, Replaces, TakesNone, TakesNote, TakesNoteLine, batch_bytes, note_in, operation_bytes, tables_of, update_line}
use Rattle.route_installer.specs.Installing.{Installing, committing, event_of, noted_bytes, operation_line, pending_past, route_to}

-- ---- operations and batches

-- an operation that is given, as an update
same_update : (o : Given.Operation) → network_of o ≡ network_at (block (network_of o)) → text.update_for o ≡ operation_line (operation_of o)
same_update (One.Install net hop) e = λ i. U.Install (e i) hop
same_update (One.Remove net) e = λ i. U.Remove (e i)

-- the line of the next operation
pub next_line : (left later : List Operation) (o : Given.Operation) → left ≡ operation_of o ∷ later → network_of o ≡ network_at (block (network_of o)) → (u : FibUpdate) → u ≡ text.update_for o
    → operation_bytes left ≡ update_line u ++ operation_bytes later
next_line left later o e cleared u is = ap operation_bytes e ∙ ap (λ v. update_line v ++ operation_bytes later) (sym (is ∙ same_update o cleared))

-- a batch is its operations and `ok`
pub batch_is : (os : List Operation) → operation_bytes os ++ reply_line (Close Done) ≡ batch_bytes os
batch_is os = ap (λ t. operation_bytes os ++ t) (sym (append-nil (update_line U.Done))) ∙ sym (flat_map-append update_line (map operation_line os) (U.Done ∷ []))

-- it has bytes, as `ok` has some
batch_some : (os : List Operation) → 0 < length (batch_bytes os)
batch_some os =
    let ok : length (reply_line (Close Done)) ≡ 3 = refl in
    omega (arith, ok, ap length (sym (batch_is os)) ∙ length-append (operation_bytes os) (reply_line (Close Done)))

-- ---- changes

-- waiting changes as routes
hop_back : (hop : Hop) → hop_from (number_of hop) ≡ hop
hop_back hop = grind arith

pub routes_are : (ws : List (IpNet × Hop)) → map route_to (changes_of ws) ≡ routes_for ws
routes_are [] = refl
routes_are (w ∷ ws) = λ i. route_of w.0 (hop_back w.1 i) default_preference ∷ routes_are ws i

-- the next change is carried out
pub next_painted : (M : List Route) (ws : List (IpNet × Hop)) (i : ℕ) (w : IpNet × Hop) → i < length ws → w ≡ slice_index_or ws i w → (T N : List Route) → T ≡ painted_all M (routes_for (take i ws))
    → N ≡ painted T (route_of w.0 w.1 default_preference) → N ≡ painted_all M (routes_for (take (i + 1) ws))
next_painted M ws i w within is T N now e =
    let r = route_of w.0 w.1 default_preference in
    let next : routes_for (take (i + 1) ws) ≡ routes_for (take i ws) ++ r ∷ [] =
    ap routes_for (before_place ws i w within is)
    ∙ map-append (λ (p : IpNet × Hop). route_of p.0 p.1 default_preference) (take i ws) (w ∷ []) in
    let last = after-append painted painted_all (λ s. refl) (λ s q qs. refl) M (routes_for (take i ws)) (r ∷ []) in
    e ∙ ap (λ S. painted S r) now ∙ sym (ap (painted_all M) next ∙ last)

-- each route is of one family
pub counts_all : (M : List Route) → count_of Ipv4 M + count_of Ipv6 M ≡ length M
counts_all [] = refl
counts_all (r ∷ rs) = grind (arith, counts_all rs)

length_for : (list : List (IpNet × Hop)) → length (routes_for list) ≡ length list
length_for list = length-map list (λ (p : IpNet × Hop). route_of p.0 p.1 default_preference)

-- ---- the parts of an installer

-- what is installed, and is kept
abbrev pub kept_at : List Route → List Change → Installing
kept_at M cs = record { tables = record { table = M; installed = M; kept = true }; pending = cs }

-- what is installed, and is not kept
abbrev unkept_at : List Route → List Route → List Change → Installing
unkept_at M I cs = record { tables = record { table = M; installed = I; kept = false }; pending = cs }

pub kept_is : (table : List Stored) (before : Option (List Stored)) (cs : List Change) → not (is_some before) ≡ true
    → record { tables = tables_of table before; pending = cs } ≡ kept_at (routes_of table) cs
kept_is table None cs k = refl
kept_is table (Some before) cs k = absurd (cc)

-- changes that wait are one event
committing_some : (cs : List Change) (L : List Route) → 0 < length cs → committing cs L ≡ Told (map route_to cs) L ∷ []
committing_some [] L some = absurd (omega arith)
committing_some (c ∷ cs) L some = refl

-- ---- notes

module _ {W : Type 0} (contents : W → Option (List ℕ)) where
  -- a note of one event that gives a batch
  taken_event : (a b : Installing) (note : FibInput) (L : List Route) (e : Event) (old new : Counted W) (r : Result Unit RunError)
      → event_of a note L ≡ e ∷ [] → (after_event a.tables e).kept ≡ true → IsFit a.tables e
      → Closes contents 1 old new r (batch_bytes (gives a.tables e))
      → (r ≡ Ok tt → b ≡ record { tables = after_event a.tables e; pending = pending_past a.pending note })
      → TakesNote contents a note old r b new
  taken_event a b note L e old new (Ok done) is k fit h next =
      (L, record { fit = rw is (fit, tt); next = rw is (next refl); closed = rw (is, k, append-nil) h })
  taken_event a b note L e old new (Err why) is k fit h next =
      let text : batch_bytes (gives a.tables e) ≡ noted_bytes a (record { note = note; table = L }) = rw (is, k, append-nil) in
      rw h.0 (
        L,
        record {
          fit = rw is (fit, tt);
          some = subst (λ t. 0 < length t) text (batch_some (gives a.tables e));
          torn = rw text at h.1;
        },
      )

  -- a route that is installed already
  pub taken_have : (a b : Installing) (net : IpNet) (hop : Hop) (old : Counted W) (r : Result Unit RunError) → Has a (route_of net hop default_preference) r b → TakesNote contents a (N.Have net hop) old r b old
  taken_have a b net hop old (Ok done) h = ([], record { fit = (h.0, tt); next = h.1; closed = rw h.0 (Closed-nil contents old) })
  taken_have a b net hop old (Err Why.Line) h = (h, refl)
  taken_have a b net hop old (Err Why.Memory) h = (h, refl)
  taken_have a b net hop old r h = absurd h

  -- a `sync`
  pub taken_sync : (a b : Installing) (L : List Route) (old new : Counted W) (r : Result Unit RunError) → IsLeast (hop_at a.tables.table) L → (a.tables.kept ≡ true → IsLeast (hop_at a.tables.table) a.tables.installed → L ≡ a.tables.installed)
      → Replaces contents a L old r b new → TakesNote contents a N.Sync old r b new
  taken_sync a b L old new (Ok done) least stays h =
      taken_event a b N.Sync L (Sync L) old new (Ok done) refl refl (least, stays) h.2 (λ e. h.0)
  taken_sync a b L old new (Err Why.Memory) least stays h = (tt, h)
  taken_sync a b L old new (Err Why.Write) least stays h =
      taken_event a b N.Sync L (Sync L) old new (Err Why.Write) refl refl (least, stays) (refl, h.1) (λ e. absurd (cc))
  taken_sync a b L old new r least stays h = absurd h

  -- a table in the place of another
  pub replaced : (a b : Installing) (L : List Route) (old new : Counted W) (r : Result Unit RunError) (I : List Route)
      (os : List Operation) → I ≡ a.tables.installed → os ≡ between I L → IsTable I → Closes contents 1 old new r (batch_bytes os)
      → (r ≡ Ok tt → b ≡ record { tables = record { table = L; installed = L; kept = true }; pending = a.pending })
      → Replaces contents a L old r b new
  replaced a b L old new (Ok done) I os installed is m h next = (next refl, rw installed at m, rw (is, installed) at h)
  replaced a b L old new (Err why) I os installed is m h next = rw h.0 (rw installed at m, rw (is, installed) at h.1)

  -- the parts of an installer whose table is kept
  module _ (a : Installing) (table : List Stored) (before : Option (List Stored)) (ws : List (IpNet × Hop)) (is : record { tables = tables_of table before; pending = changes_of ws } ≡ a) (k : a.tables.kept ≡ true) (old new : Counted W) (r : Result Unit RunError) where
    parts : kept_at (routes_of table) (changes_of ws) ≡ a
    parts = sym (kept_is table before (changes_of ws) (ap (λ s. s.tables.kept) is ∙ k)) ∙ is

    -- `ok` with changes, and this nearest table is installed
    pub update_of : (T : List Route) (b : Installing) → 0 < length a.pending → IsNearest (routes_of table) (hop_at (painted_all (routes_of table) (routes_for ws))) T
        → Closes contents 1 old new r (batch_bytes (between (routes_of table) T)) → (r ≡ Ok tt → b ≡ kept_at T [])
        → TakesNote contents a (N.Reply (Close Done)) old r b new
    update_of T b some nearest h next =
        let M = routes_of table in
        let cs = changes_of ws in
        let more : 0 < length cs = omega (arith, ap (λ s. length s.pending) is, some) in
        subst (λ s. TakesNote contents s (N.Reply (Close Done)) old r b new) parts
        (taken_event (kept_at M cs) b (N.Reply (Close Done)) T (Told (map route_to cs) T) old new r (committing_some cs T more) refl
        (λ e. subst (λ l. IsNearest M (hop_at (painted_all M l)) T) (sym (routes_are ws)) nearest) h next)

    -- a `sync` of a table that is a least one already, which stays
    pub stays_of : (list : List (IpNet × Hop)) → IsTable (routes_of table) → IsLeast (hop_at (routes_of table)) (routes_for list) → length (routes_of table) ≡ length list → Closes contents 1 old new r (reply_line (Close Done))
        → TakesNote contents a N.Sync old r a new
    stays_of list m least same h =
        let M = routes_of table in
        let s = kept_at M (changes_of ws) in
        let stays : IsLeast (hop_at M) M =
        record {
          hops = record { table = m; same = λ x a. refl };
          fewest = λ K l. omega (arith, same, length_for list, least.fewest K l);
        } in
        subst (λ t. TakesNote contents t N.Sync old r t new) parts
        (taken_event s s N.Sync M (Sync M) old new r refl refl (stays, λ e l. refl)
        (subst (Closes contents 1 old new r) (batch_is [] ∙ ap batch_bytes (sym (none_between M m))) h) (λ e. refl))

  -- `ok` where the table is not kept
  taken_unseen : (M I : List Route) (cs : List Change) (b : Installing) (old : Counted W)
      → b ≡ unkept_at (painted_all M (map route_to cs)) I []
      → TakesNote contents (unkept_at M I cs) (N.Reply (Close Done)) old (Ok tt) b old
  taken_unseen M I [] b old next = ([], record { fit = tt; next = next; closed = Closed-nil contents old })
  taken_unseen M I (c ∷ cs) b old next =
      ([], record { fit = ((λ k. absurd (cc)), tt); next = next; closed = Closed-nil contents old })

  -- changes that were carried out unseen
  pub unseen_of : (a b : Installing) (old : Counted W) (r : Result Unit RunError) → a.tables.kept ≡ false → OnOk r (b.tables ≡ record { table = painted_all a.tables.table (map route_to a.pending); installed = a.tables.installed; kept = false })
      → OnOk r (b.pending ≡ []) → IfErr r (λ e. e ≡ Why.Memory) → OnErr r (0 < length a.pending) → TakesNote contents a (N.Reply (Close Done)) old r b old
  unseen_of a b old (Ok done) k tables pending memory some =
      subst (λ s. TakesNote contents s (N.Reply (Close Done)) old (Ok tt) b old)
      (λ i. record {
        tables = record { table = a.tables.table; installed = a.tables.installed; kept = sym k i };
        pending = a.pending;
      })
      (taken_unseen a.tables.table a.tables.installed a.pending b old (λ i. record { tables = tables i; pending = pending i }))
  unseen_of a b old (Err e) k tables pending memory some = rw memory (inr (refl, some), refl)

  -- a change that was kept
  pub keep_of : (a b : Installing) (line : Reply) (c : Change) (old : Counted W) (r : Result Unit RunError) → closes line ≡ None → change_of line ≡ Some c → b.tables ≡ a.tables → OnOk r (b.pending ≡ a.pending ++ c ∷ []) → IfErr r (λ e. e ≡ Why.Memory)
      → TakesNote contents a (N.Reply line) old r b old
  keep_of a b line c old (Ok done) shut is tables pending memory = (
    [],
    record {
      fit = rw shut tt;
      next = rw (shut, is) (λ i. record { tables = tables i; pending = pending i });
      closed = rw shut (Closed-nil contents old);
    },
  )
  keep_of a b line c old (Err e) shut is tables pending memory = rw memory (inl (rw is refl), refl)

-- a least table of another length than the table that is kept: that is no least one
pub never_stays : (table : List Stored) (before : Option (List Stored)) (cs : List Change) (a : Installing) (list : List (IpNet × Hop)) → record { tables = tables_of table before; pending = cs } ≡ a → IsLeast (hop_at (routes_of table)) (routes_for list)
    → (is_some before ≡ false → length (routes_of table) ≢ length list) → a.tables.kept ≡ true → IsLeast (hop_at a.tables.table) a.tables.installed → routes_for list ≡ a.tables.installed
never_stays table None cs a list is least other k stays =
    let M = routes_of table in
    let m : IsLeast (hop_at M) M = subst (λ (s : Installing). IsLeast (hop_at s.tables.table) s.tables.installed) (sym is) stays in
    absurd (other refl (omega (arith, m.fewest (routes_for list) least.hops, least.fewest M m.hops, length_for list)))
never_stays table (Some old) cs a list is least other k stays = let f = ap (λ s. s.tables.kept) is ∙ k in absurd (cc)

-- the tables after changes that were carried out unseen
pub unseen_tables : (a : Installing) (table T : List Stored) (before : Option (List Stored)) (ws vs : List (IpNet × Hop)) → record { tables = tables_of table before; pending = changes_of ws } ≡ a → a.tables.kept ≡ false → vs ≡ ws
    → routes_of T ≡ painted_all (routes_of table) (routes_for vs) → tables_of T before ≡ record { table = painted_all a.tables.table (map route_to a.pending); installed = a.tables.installed; kept = false }
unseen_tables a table T None ws vs is k same e = let f = ap (λ s. s.tables.kept) is ∙ k in absurd (cc)
unseen_tables a table T (Some before) ws vs is k same e =
    let painted : routes_of T ≡ painted_all a.tables.table (map route_to a.pending) =
    e ∙ ap (λ l. painted_all (routes_of table) (routes_for l)) same ∙ sym (ap (painted_all (routes_of table)) (routes_are ws))
    ∙ ap (λ (s : Installing). painted_all s.tables.table (map route_to s.pending)) is in
    λ i. record { table = painted i; installed = ap (λ (s : Installing). s.tables.installed) is i; kept = false }

-- ---- lines

module _ {W : Type 0} (contents : W → Option (List ℕ)) (a b : Installing) (line : Line) (old new : Counted W) (r : Result Unit RunError) where
  pub line_none : note_in line ≡ None → TakesNone contents old r new → TakesNoteLine contents a line old r b new
  line_none e t = subst (λ o. MatchOption o (TakesNone contents old r new) (λ note. TakesNote contents a note old r b new)) (sym e) t

  pub line_some : (note : FibInput) → note_in line ≡ Some note → TakesNote contents a note old r b new → TakesNoteLine contents a line old r b new
  line_some note e t = subst (λ o. MatchOption o (TakesNone contents old r new) (λ n. TakesNote contents a n old r b new)) (sym e) t

  -- another fault can be counted after a line
  pub line_counts : TakesNoteLine contents a line old r b new → CanCount old → OnOk r (CanCount new)
  line_counts t h = go r (note_in line) t
    where
      go : (k : Result Unit RunError) (o : Option FibInput) → MatchOption o (TakesNone contents old k new) (λ note. TakesNote contents a note old k b new) → OnOk k (CanCount new)
      go (Ok done) None m = absurd (let e = m.0 in cc)
      go (Ok done) (Some note) m = rw m.1.closed.faults h
      go (Err e) o m = tt
