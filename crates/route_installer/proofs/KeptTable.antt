-- What is installed has the hops of the leader, turns no address twice, and is least after a `sync`.
use Rattle.std.proofs.Common.{◌≡◌, ◌⊎◌, ◌≤◌, ℕ, zero, suc, Bool, true, false, cond, List, Option, [], ◌∷◌, ◌++◌, length, map, take, take_all, None, inl, inr, ⊎_elim, refl, sym, ap, ◌∙◌, subst, arith, append_assoc, append-nil}
use Rattle.std.specs.Option.{option_map_or}
use Rattle.std.proofs.lemmas.Bool.{cases_lt}
use Rattle.ipnet_addr.specs.Addresses.{Address, IsAddress}
use Rattle.route_choices.specs.Choices.{default_preference}
use Rattle.route_lines.specs.declared.fib_input.FibInput.{FibInput}
use Rattle.route_lines.specs.declared.fib_input.FibInput.TheVariants as N
use Rattle.route_lines.specs.declared.reply.Closing.TheVariants.{Done}
use Rattle.route_lines.specs.declared.reply.Reply.{Reply}
use Rattle.route_lines.specs.declared.reply.Reply.TheVariants as R
use Rattle.route_laws.specs.LeastTables.{HasHops, IsLeast}
use Rattle.route_laws.specs.Networks.{routes_of}
use Rattle.route_laws.specs.Operations.{IsHitless, Operation, after_all}
use Rattle.route_laws.specs.Runs.{Event, Have, Told, Sync, Installer, MayAllCome, after_events, given, gives, haves, start, told}
use Rattle.route_laws.specs.Tables.{Route, IsTable, hop_at, route_of}
use Rattle.route_laws.proofs.Between.{after-append, hitless_from}
use Rattle.route_laws.proofs.Insides.{least_too}
use Rattle.route_laws.proofs.Runs.{Holds, holds, gives_hitless, given_reaches, keeps_hops, sync_is_least, sync_stays, told_is_fewest, no_haves}
use Rattle.route_installer.specs.Installing.{Installing, Noted, after_notes, begin, committing, event_of, events, route_to}
use Rattle.route_installer.specs.Laws.{AreFirst, HitlessIsTurnsOnce, InstalledAgrees, InstalledAtAllTimes, InstalledIsHitless, InstalledTurnsOnce, OperationsReach, RepliesAreFewest, SyncsAreLeast, SyncsStay, TurnsOnce, installed_by, operations_at, replies_of, table_by}
use Rattle.route_feed.specs.Streams.{Change, closes, committed, painted_hop, is_done}
use Rattle.route_feed.proofs.AnsweredChanges.{same_or_not}
use Rattle.route_feed.proofs.Beginnings.{followed}
use Rattle.route_installer.proofs.NotesInTurn.{after_events-append, events-append, given-append, haves-append, is_kept, kept_stays, may_split, replies_of-append, tables_after, told_is_committed}

-- ---- moments

module _ (M : List Route) (os : List Operation) (x : Address) where
  abbrev at : ℕ → Option ℕ
  at i = hop_at (after_all M (take i os)) x

  abbrev last : Option ℕ
  last = hop_at (after_all M os) x

  -- the first moment from which on the address has its new hop, counted down from one that is such
  moment : ((i j : ℕ) → i ≤ j → (at i ≡ hop_at M x) ⊎ (at j ≡ last)) → (k : ℕ) → ((i : ℕ) → k ≤ i → at i ≡ last) → TurnsOnce M os x (hop_at M x) last
  moment turns zero new = (0, (λ i lt. absurd (omega (arith, lt))), new)
  moment turns (suc k) new = ⊎_elim
      (λ e. moment turns k (λ i le. ⊎_elim (λ lt. new i (omega (arith, lt))) (λ ge. let q : i ≡ k = omega (arith, le, ge) in subst (λ n. at n ≡ last) (sym q) e) (cases_lt k i)))
      (λ other. (suc k, (λ i lt. ⊎_elim (λ e. e) (λ e. absurd (other e)) (turns i k (omega (arith, lt)))), new))
      (same_or_not (at k) last)

  old_or_new : TurnsOnce M os x (hop_at M x) last → (i j : ℕ) → i ≤ j → (at i ≡ hop_at M x) ⊎ (at j ≡ last)
  old_or_new t i j le = let (m, before, from) = t in ⊎_elim (λ lt. inl (before i lt)) (λ ge. inr (from j (omega (arith, le, ge)))) (cases_lt i m)

pub hitless_is_turns_once : HitlessIsTurnsOnce
hitless_is_turns_once M os = (
  (λ h x a. moment M os x (IsHitless.turns h x a) (length os) (λ i le. ap (λ l. hop_at (after_all M l) x) (take_all i os le))),
  (λ t. record { turns = λ x a. old_or_new M os x (t x a) }),
)

-- ---- the hops

-- once the table is kept, its hops are those that the reply lines commit
pub kept_hops : (ns : List Noted) → MayAllCome start (events begin ns) → Installer.kept (after_events start (events begin ns)) ≡ true
    → (x : Address) → IsAddress x → hop_at (installed_by ns) x ≡ painted_hop (committed (replies_of ns)) x
kept_hops ns may kept x a =
    let es = events begin ns in
    ap (λ M. hop_at M x) (given_reaches es may) ∙ keeps_hops es may kept x a ∙ told_is_committed ns x

-- those of the leader, if its lines come first
first_hops : (bytes : List ℕ) (refusals : List Bool) (ls : List Reply) → AreFirst bytes refusals ls → (x : Address) → IsAddress x → painted_hop (committed ls) x ≡ hop_at (routes_of (table_by bytes refusals ls)) x
first_hops bytes refusals ls first x a = followed bytes refusals ls first.0 (sym first.1) x a

pub kept_agrees : (bytes : List ℕ) (refusals : List Bool) (ns : List Noted) → AreFirst bytes refusals (replies_of ns) → MayAllCome start (events begin ns)
    → Installer.kept (after_events start (events begin ns)) ≡ true → (x : Address) → IsAddress x → hop_at (installed_by ns) x ≡ hop_at (routes_of (table_by bytes refusals (replies_of ns))) x
kept_agrees bytes refusals ns first may kept x a = kept_hops ns may kept x a ∙ first_hops bytes refusals (replies_of ns) first x a

pub installed_agrees : InstalledAgrees
installed_agrees bytes refusals ns first may has x a = kept_agrees bytes refusals ns first may (is_kept ns has) x a

pub operations_reach : OperationsReach
operations_reach ns may = given_reaches (events begin ns) may ∙ sym (ap Installer.installed (tables_after begin ns))

-- ---- a beginning of the notes

pub first_may : (ns later : List Noted) → MayAllCome start (events begin (ns ++ later)) → MayAllCome start (events begin ns)
first_may ns later may =
    (may_split start (events begin ns) (events (after_notes begin ns) later)
    (subst (MayAllCome start) (events-append begin ns later) may)).0

pub first_too : (bytes : List ℕ) (refusals : List Bool) (ns later : List Noted) → AreFirst bytes refusals (replies_of (ns ++ later)) → AreFirst bytes refusals (replies_of ns)
first_too bytes refusals ns later first =
    let (more, split) = first in
    (replies_of later ++ more, split ∙ ap (λ ls. ls ++ more) (replies_of-append ns later) ∙ append_assoc (replies_of ns) (replies_of later) more)

-- ---- one event at most

one_committing : (d : Bool) (cs : List Change) (M : List Route)
    → (cond d (committing cs M) [] ≡ []) ⊎ ((rs : List Route) × (cond d (committing cs M) [] ≡ Told rs M ∷ []))
one_committing true (c ∷ cs) M = inr (map route_to (c ∷ cs), refl)
one_committing d cs M = inl refl

pub one_event : (s : Installing) (note : FibInput) (M : List Route)
    → (event_of s note M ≡ []) ⊎ ((e : Event) × (event_of s note M ≡ e ∷ []))
one_event s (N.Have net hop) M = inr (Have (route_of net hop default_preference), refl)
one_event s N.Sync M = inr (Sync M, refl)
one_event s (N.Reply l) M =
    ⊎_elim inl (λ t. inr (Told t.0 M, t.1)) (one_committing (option_map_or is_done (closes l) false) s.pending M)

module _ (ns : List Noted) (n : Noted) where
  abbrev es : List Event
  es = events begin ns

  abbrev now : List Event
  now = event_of (after_notes begin ns) n.note n.table

  pub whole : events begin (ns ++ n ∷ []) ≡ events begin ns ++ event_of (after_notes begin ns) n.note n.table
  whole = events-append begin ns (n ∷ []) ∙ ap (λ fs. es ++ fs) (append-nil now)

  given_one : (e : Event) → now ≡ e ∷ [] → operations_at ns n ≡ gives (after_events start es) e
  given_one e is =
      let s = Installing.tables (after_notes begin ns) in
      ap (given s) is ∙ append-nil (gives s e) ∙ ap (λ T. gives T e) (tables_after begin ns)

  module _ (may : MayAllCome start (events begin (ns ++ n ∷ []))) where
    may_now : MayAllCome start (es ++ now)
    may_now = subst (MayAllCome start) whole may

    may_before : MayAllCome start es
    may_before = first_may ns (n ∷ []) may

    hitless_at : IsHitless (installed_by ns) (operations_at ns n)
    hitless_at = ⊎_elim
        (λ none. subst (IsHitless (installed_by ns)) (sym (ap (given (Installing.tables (after_notes begin ns))) none))
        (hitless_from (installed_by ns) [] (λ x a. (hop_at (installed_by ns) x, refl))))
        (λ t. subst (IsHitless (installed_by ns)) (sym (given_one t.0 t.1))
        (subst (λ M. IsHitless M (gives (after_events start es) t.0)) (sym (given_reaches es may_before))
        (gives_hitless es t.0 (subst (λ fs. MayAllCome start (es ++ fs)) t.1 may_now))))
        (one_event (after_notes begin ns) n.note n.table)

    module _ (kept : Installer.kept (after_events start es) ≡ true) where
      -- the operations at the note turn what is installed before it into what is installed after it
      next_reached : after_all (installed_by ns) (operations_at ns n) ≡ installed_by (ns ++ n ∷ [])
      next_reached =
          ap (λ T. after_all (installed_by ns) (given T now)) (tables_after begin ns)
          ∙ sym (after-append (haves es) (given start es) (given (after_events start es) now))
          ∙ ap (after_all (haves es)) (sym (given-append start es now))
          ∙ ap (λ M. after_all M (given start (es ++ now)))
          (sym (haves-append es now []
          ∙ no_haves (haves es) now (after_events start es) kept (may_split start es now may_now).1))
          ∙ ap (λ fs. after_all (haves fs) (given start fs)) (sym whole)

      next_hops : (x : Address) → IsAddress x
          → hop_at (after_all (installed_by ns) (operations_at ns n)) x ≡ painted_hop (committed (replies_of (ns ++ n ∷ []))) x
      next_hops x a =
          let still = ap (λ fs. Installer.kept (after_events start fs)) whole ∙ ap Installer.kept (after_events-append start es now)
          ∙ kept_stays now (after_events start es) kept in
          ap (λ M. hop_at M x) next_reached ∙ kept_hops (ns ++ n ∷ []) may still x a

      -- each address turns from the hop that the replies before the note commit to that of the replies with it
      turns_at : (x : Address) → IsAddress x
          → TurnsOnce (installed_by ns) (operations_at ns n) x (painted_hop (committed (replies_of ns)) x)
          (painted_hop (committed (replies_of (ns ++ n ∷ []))) x)
      turns_at x a =
          let M = installed_by ns in
          let os = operations_at ns n in
          subst (λ old. TurnsOnce M os x old (painted_hop (committed (replies_of (ns ++ n ∷ []))) x))
          (kept_hops ns may_before kept x a)
          (subst (TurnsOnce M os x (hop_at M x)) (next_hops x a) ((hitless_is_turns_once M os).0 hitless_at x a))

pub installed_is_hitless : InstalledIsHitless
installed_is_hitless = hitless_at

pub installed_turns_once : InstalledTurnsOnce
installed_turns_once ns n may has x a = turns_at ns n may (is_kept ns has) x a

pub kept_at_all_times : (bytes : List ℕ) (refusals : List Bool) (ns later : List Noted) (n : Noted)
    → AreFirst bytes refusals (replies_of (ns ++ n ∷ later)) → MayAllCome start (events begin (ns ++ n ∷ later))
    → Installer.kept (after_events start (events begin ns)) ≡ true → (x : Address) → IsAddress x → (i : ℕ)
    → (hop_at (after_all (installed_by ns) (take i (operations_at ns n))) x ≡ hop_at (routes_of (table_by bytes refusals (replies_of ns))) x)
    ⊎ (hop_at (after_all (installed_by ns) (take i (operations_at ns n))) x ≡ hop_at (routes_of (table_by bytes refusals (replies_of (ns ++ n ∷ [])))) x)
kept_at_all_times bytes refusals ns later n first may kept x a i =
    let log = ns ++ n ∷ [] in
    let all : ns ++ n ∷ later ≡ log ++ later = sym (append_assoc ns (n ∷ []) later) in
    let t = first_too bytes refusals ns (n ∷ later) first in
    let u = first_too bytes refusals log later (subst (λ l. AreFirst bytes refusals (replies_of l)) all first) in
    let m = first_may log later (subst (λ l. MayAllCome start (events begin l)) all may) in
    let (moment, before, from) = turns_at ns n m kept x a in
    ⊎_elim
    (λ lt. inl (before i lt ∙ first_hops bytes refusals (replies_of ns) t x a))
    (λ ge. inr (from i (omega (arith, ge)) ∙ first_hops bytes refusals (replies_of log) u x a))
    (cases_lt i moment)

pub installed_at_all_times : InstalledAtAllTimes
installed_at_all_times bytes refusals ns later n first may has x a i = kept_at_all_times bytes refusals ns later n first may (is_kept ns has) x a i

-- ---- after a `sync`

pub syncs_are_least : SyncsAreLeast
syncs_are_least ns least may =
    let n : Noted = record { note = N.Sync; table = least } in
    let before = events begin ns in
    subst (IsLeast (painted_hop (committed (replies_of ns)))) (sym (given_reaches (events begin (ns ++ n ∷ [])) may))
    (least_too (told None before) (painted_hop (committed (replies_of ns))) (λ x a. told_is_committed ns x) _
    (subst (λ fs. IsLeast (told None before) (Installer.installed (after_events start fs))) (sym (whole ns n))
    (sync_is_least before least (may_now ns n may))))

pub syncs_stay : SyncsStay
syncs_stay ns least may has is =
    let n : Noted = record { note = N.Sync; table = least } in
    let before = events begin ns in
    given_one ns n (Sync least) refl
    ∙ sync_stays before least (may_now ns n may) (is_kept ns has)
    (least_too (painted_hop (committed (replies_of ns))) (told None before) (λ x a. sym (told_is_committed ns x))
    (Installer.installed (after_events start before))
    (subst (IsLeast (painted_hop (committed (replies_of ns)))) (given_reaches before (may_before ns n may)) is))

-- ---- at an `ok`

pub replies_are_fewest : RepliesAreFewest
replies_are_fewest ns nearest may has =
    let ok : Noted = record { note = N.Reply (R.Close Done); table = nearest } in
    let log = ns ++ ok ∷ [] in
    let before = events begin ns in
    let kept = is_kept ns has in
    let hops = painted_hop (committed (replies_of log)) in
    let reached = given_reaches before (may_before ns ok may) in
    let few : (L : List Operation) → HasHops hops (after_all (installed_by ns) L) → length (operations_at ns ok) ≤ length L = ⊎_elim
    (λ none L l. subst (λ os. length os ≤ length L) (sym (ap (given (Installing.tables (after_notes begin ns))) none))
    (omega arith))
    (λ t L l.
    let m = subst (λ fs. MayAllCome start (before ++ fs)) {y = Told t.0 nearest ∷ []} t.1 (may_now ns ok may) in
    let same : (x : Address) → told None (before ++ Told t.0 nearest ∷ []) x ≡ hops x =
    λ x. sym (ap (λ fs. told None fs x) (whole ns ok ∙ ap (λ fs. before ++ fs) t.1)) ∙ told_is_committed log x in
    let k = subst (λ M. HasHops hops (after_all M L)) reached l in
    subst (λ os. length os ≤ length L) (sym (given_one ns ok (Told t.0 nearest) t.1))
    ((told_is_fewest before t.0 nearest m kept).fewest L (record { table = k.table; same = λ x a. k.same x a ∙ sym (same x) })))
    (one_committing true (Installing.pending (after_notes begin ns)) nearest) in
    record {
      hops = record {
        table = subst IsTable (sym (next_reached ns ok may kept ∙ given_reaches (events begin log) may))
            (Holds.installed (holds (events begin log) may));
        same = next_hops ns ok may kept;
      };
      fewest = few;
    }
