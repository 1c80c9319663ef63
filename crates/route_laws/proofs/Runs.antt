-- An installer's table has the hops that were told, and its operations make it.
use Rattle.std.proofs.Common.{◌≡◌, ℕ, ⊎_elim, arith, Bool, true, false, List, [], ◌∷◌, ◌++◌, Option, None, refl, sym, ap, ◌∙◌}
use Rattle.std.proofs.lemmas.List.{nil_from_length}
use Rattle.ipnet_addr.specs.Addresses.{Address, IsAddress}
use Rattle.route_laws.specs.Nearest.{IsNearest}
use Rattle.route_laws.specs.OperationLaws.{GivenReaches, GivesHitless, KeepsHops, SyncIsLeast, SyncIsUnseen, SyncStays, ToldIsFewest}
use Rattle.route_laws.specs.LeastTables.{HasHops}
use Rattle.route_laws.specs.Tables.{Route, IsTable, hop_at, with_route}
use Rattle.route_laws.proofs.Insides.{hops_moved, least_too, empty_is_table}
use Rattle.route_laws.proofs.Alterations.{added_is_table}
use Rattle.route_laws.specs.Operations.{IsHitless, after_all, between}
use Rattle.route_laws.specs.Painted.{AreChanges, hop_over, painted_all}
use Rattle.route_laws.specs.Runs.{Event, Have, Told, Sync, Installer, IsMade, MayCome, MayAllCome, after_event, after_events, given, gives, start, told, with_haves}
use Rattle.route_laws.proofs.Between.{after-append, between_hitless, between_reaches, hitless_from, fewest, nearest_is_fewest}
use Rattle.route_laws.proofs.Overwritten.{changes_from, painted_all_hops, painted_all_is_table}

-- a state in which h was told
pub record Holds (h : Address → Option ℕ) (s : Installer) : Type 0 where
  pub table : IsTable s.table
  pub installed : IsTable s.installed
  pub same : s.kept ≡ true → s.installed ≡ s.table
  pub hops : (x : Address) → IsAddress x → hop_at s.table x ≡ h x

abbrev state : List Route → List Route → Bool → Installer
state T I b = record { table = T; installed = I; kept = b }

told_hops : (h : Address → Option ℕ) (T rs : List Route) → IsTable T → ((x : Address) → IsAddress x → hop_at T x ≡ h x)
    → AreChanges rs → (x : Address) → IsAddress x → hop_at (painted_all T rs) x ≡ hop_over (h x) rs x
told_hops h T rs t same c x a = painted_all_hops T rs t (changes_from rs c) x a ∙ ap (λ o. hop_over o rs x) (same x a)

-- a table that is kept
kept : (h : Address → Option ℕ) (N : List Route) → HasHops h N → Holds h (state N N true)
kept h N k = record { table = k.table; installed = k.table; same = λ e. refl; hops = k.same }

-- after an event, the hops that it tells were told
holds_event : (h : Address → Option ℕ) (T I : List Route) (b : Bool) (e : Event) → Holds h (state T I b) → MayCome (state T I b) e
    → Holds (λ x. told (h x) (e ∷ []) x) (after_event (state T I b) e)
holds_event h T I b (Have r) g m = record {
  table = g.table;
  installed = added_is_table I g.installed r m.1 m.2;
  same = λ e. let f = sym m.0 ∙ e in absurd (cc);
  hops = g.hops;
}
holds_event h T I true (Told rs N) g m = kept (λ x. hop_over (h x) rs x) N (record {
  table = (m.1 refl).hops.table;
  same = λ x a. (m.1 refl).hops.same x a ∙ told_hops h T rs g.table g.hops m.0 x a;
})
holds_event h T I false (Told rs N) g m = record {
  table = painted_all_is_table T rs g.table (changes_from rs m.0);
  installed = g.installed;
  same = λ e. cc;
  hops = told_hops h T rs g.table g.hops m.0;
}
holds_event h T I b (Sync N) g m = kept h N (hops_moved (hop_at T) h g.hops N m.0.hops)

holds_after : (es : List Event) (h : Address → Option ℕ) (s : Installer) → Holds h s → MayAllCome s es → Holds (λ x. told (h x) es x) (after_events s es)
holds_after [] h s g m = g
holds_after (Have r ∷ es) h s g m = holds_after es h _ (holds_event h s.table s.installed s.kept (Have r) g m.0) m.1
holds_after (Told rs N ∷ es) h s g m = holds_after es (λ x. hop_over (h x) rs x) (after_event s (Told rs N)) (holds_event h s.table s.installed s.kept (Told rs N) g m.0) m.1
holds_after (Sync N ∷ es) h s g m = holds_after es h _ (holds_event h s.table s.installed s.kept (Sync N) g m.0) m.1

holds_start : Holds (λ x. None) start
holds_start = record { table = empty_is_table; installed = empty_is_table; same = λ e. refl; hops = λ x a. refl }

pub holds : (es : List Event) → MayAllCome start es → Holds (told None es) (after_events start es)
holds es m = holds_after es (λ x. None) start holds_start m

before_last : (es : List Event) (e : Event) (s : Installer) → MayAllCome s (es ++ e ∷ []) → MayAllCome s es × MayCome (after_events s es) e
before_last [] e s m = (tt, m.0)
before_last (d ∷ es) e s m = let t = before_last es e (after_event s d) m.1 in ((m.0, t.0), t.1)

after_last : (es : List Event) (e : Event) (s : Installer) → after_events s (es ++ e ∷ []) ≡ after_event (after_events s es) e
after_last [] e s = refl
after_last (d ∷ es) e s = after_last es e (after_event s d)

nothing_turns : (M : List Route) → IsHitless M []
nothing_turns M = hitless_from M [] (λ x a. (hop_at M x, refl))

made_by : (M N : List Route) → IsTable M → IsTable N → (after_all M (between M N) ≡ N) × IsHitless M (between M N)
made_by M N m n = (between_reaches M N m n, between_hitless M N m n)

-- the operations of an event make the table that it installs, and are hitless
made : (h : Address → Option ℕ) (T I : List Route) (b : Bool) (e : Event) → Holds h (state T I b) → MayCome (state T I b) e
    → IsMade (state T I b) e × IsHitless I (gives (state T I b) e)
made h T I b (Have r) g m = (refl, nothing_turns I)
made h T I true (Told rs N) g m = made_by I N g.installed (m.1 refl).hops.table
made h T I false (Told rs N) g m = (refl, nothing_turns I)
made h T I b (Sync N) g m = made_by I N g.installed m.0.hops.table

pub made_last : (es : List Event) (e : Event) → MayAllCome start (es ++ e ∷ [])
    → IsMade (after_events start es) e × IsHitless (after_events start es).installed (gives (after_events start es) e)
made_last es e m =
    let t = before_last es e start m in
    let s = after_events start es in
    made (told None es) s.table s.installed s.kept e (holds es t.0) t.1

pub gives_hitless : GivesHitless
gives_hitless es e m = (made_last es e m).1

pub keeps_hops : KeepsHops
keeps_hops es m k x a = let g = holds es m in ap (λ T. hop_at T x) (g.same k) ∙ g.hops x a

pub sync_is_least : SyncIsLeast
sync_is_least es N m =
    let t = before_last es (Sync N) start m in
    rw (after_last es (Sync N) start) (least_too (hop_at (after_events start es).table) (told None es) (holds es t.0).hops N t.1.0)

pub sync_is_unseen : SyncIsUnseen
sync_is_unseen es N m k x a i =
    let t = before_last es (Sync N) start m in
    ⊎_elim (λ e. e)
    (λ e. e ∙ ap (λ T. hop_at T x) (made_last es (Sync N) m).0 ∙ t.1.0.hops.same x a
    ∙ ap (λ T. hop_at T x) (sym ((holds es t.0).same k)))
    ((made_last es (Sync N) m).1.turns x a i i (omega arith))

-- a table takes no operations to stay
pub none_between : (M : List Route) → IsTable M → between M M ≡ []
none_between M m = nil_from_length (between M M) (omega (arith, fewest M M m m [] refl))

pub sync_stays : SyncStays
sync_stays es N m k l =
    let t = before_last es (Sync N) start m in
    let g = holds es t.0 in
    let s = after_events start es in
    ap (between s.installed) (t.1.1 k (least_too (told None es) (hop_at s.table) (λ x a. sym (g.hops x a)) s.installed l))
    ∙ none_between s.installed g.installed

-- the same hops have the same nearest tables
nearest_too : (M : List Route) (h g : Address → Option ℕ) → ((x : Address) → IsAddress x → h x ≡ g x) → (N : List Route) → IsNearest M h N → IsNearest M g N
nearest_too M h g e N n = record {
  hops = hops_moved h g e N n.hops;
  nearest = λ L l. n.nearest L (hops_moved g h (λ x a. sym (e x a)) L l);
}

pub told_is_fewest : ToldIsFewest
told_is_fewest es rs N m k =
    let t = before_last es (Told rs N) start m in
    let s = after_events start es in
    let h = told None (es ++ Told rs N ∷ []) in
    let n : IsNearest s.installed (hop_at (painted_all s.table rs)) N = t.1.1 k in
    let is : (x : Address) → IsAddress x → hop_at N x ≡ h x =
    rw (after_last es (Told rs N) start, k) at (holds (es ++ Told rs N ∷ []) m).hops in
    rw k (nearest_is_fewest s.installed h N (holds es t.0).installed
    (nearest_too s.installed (hop_at (painted_all s.table rs)) h (λ x a. sym (n.hops.same x a) ∙ is x a) N n))

-- ---- all events together

-- once the table is kept, nothing else is installed already
pub no_haves : (M : List Route) (es : List Event) (s : Installer) → s.kept ≡ true → MayAllCome s es → with_haves M es ≡ M
no_haves M [] s k m = refl
no_haves M (Have r ∷ es) s k m = let e = sym k ∙ m.0.0 in absurd (cc)
no_haves M (Told rs N ∷ es) s k m = no_haves M es (after_event s (Told rs N)) k m.1
no_haves M (Sync N ∷ es) s k m = no_haves M es (after_event s (Sync N)) refl m.1

-- what was given from an event on
abbrev Reaches : Installer → List Event → Type 0
Reaches s es = after_all (with_haves s.installed es) (given s es) ≡ (after_events s es).installed

-- from here on the table N is kept: the operations from I, and then those of the other events
kept_then : (I N : List Route) (es : List Event) → after_all I (between I N) ≡ N → let t = state N N true in MayAllCome t es
    → Reaches t es → after_all (with_haves I es) (between I N ++ given t es) ≡ (after_events t es).installed
kept_then I N es e m rest =
    let t = state N N true in
    ap (λ M. after_all M (between I N ++ given t es)) (no_haves I es t refl m) ∙ after-append I (between I N) (given t es)
    ∙ ap (λ M. after_all M (given t es)) (e ∙ sym (no_haves N es t refl m)) ∙ rest

reaches_after : (es : List Event) (h : Address → Option ℕ) (T I : List Route) (b : Bool) → Holds h (state T I b)
    → MayAllCome (state T I b) es → Reaches (state T I b) es
reaches_after [] h T I b g m = refl
reaches_after (Have r ∷ es) h T I b g m = reaches_after es h T (with_route I r) b (holds_event h T I b (Have r) g m.0) m.1
reaches_after (Told rs N ∷ es) h T I true g m = kept_then I N es (made h T I true (Told rs N) g m.0).0 m.1
    (reaches_after es (λ x. hop_over (h x) rs x) N N true (holds_event h T I true (Told rs N) g m.0) m.1)
reaches_after (Told rs N ∷ es) h T I false g m =
    reaches_after es (λ x. hop_over (h x) rs x) (painted_all T rs) I false (holds_event h T I false (Told rs N) g m.0) m.1
reaches_after (Sync N ∷ es) h T I b g m = kept_then I N es (made h T I b (Sync N) g m.0).0 m.1
    (reaches_after es h N N true (holds_event h T I b (Sync N) g m.0) m.1)

pub given_reaches : GivenReaches
given_reaches es m = reaches_after es (λ x. None) [] [] false holds_start m
