-- The lines of an installer: its operations, which make what they say, and are read again as they were written.
use Rattle.std.proofs.Common.{◌≡◌, ◌≢◌, ◌⊎◌, suc, inl, inr, ⊎_elim, List, [], ◌∷◌, ◌++◌, map, filter, filter_map, take, length, Option, All, refl, reverse, sym, ap, ◌∙◌, subst, append_assoc, append-nil, not, arith}
use Rattle.std.proofs.Math.Seq.{take-append_seam}
use Rattle.std.proofs.lemmas.Bool.{cond_both}
use Rattle.std.proofs.lemmas.List.{map-append, take-map}
use Rattle.std.proofs.lemmas.List.Elements.{All-append, All-filter, All-head, All-map, All-nil, All-push, All-tail, All-weaker, filter-append, filter_map-append, recursion_from_All}
use Rattle.ipnet_addr.specs.Addresses.{Address}
use Rattle.ipnet_addr.proofs.Ascending.{All-from_In, In-from_All}
use Rattle.ipnet_blocks.specs.Blocks.{Block, IsBlock, same_block}
use Rattle.ipnet.specs.IpNets.{block, network_at}
use Rattle.ipnet.proofs.Spelled.{net_reads}
use Rattle.route_choices.specs.Choices.{default_preference}
use Rattle.route_choices.specs.Hops.{IsHop}
use Rattle.route_choices.proofs.Kept.{In-from_filter, filter_map_swap}
use Rattle.route_lines.specs.Bytes.{lines}
use Rattle.route_lines.specs.Spelled.{update_of}
use Rattle.route_lines.specs.Texts.{IsUpdate, update_text}
use Rattle.route_lines.specs.declared.fib_update.FibUpdate.{FibUpdate}
use Rattle.route_lines.specs.declared.fib_update.FibUpdate.TheVariants as U
use Rattle.route_lines.proofs.Updates.{updates, prints}
use Rattle.route_laws.specs.Operations.{Operation, Install, Remove, after_all, between, missing, surplus}
use Rattle.route_laws.specs.Runs.{Event, Have, Told, Sync, Installer, MayCome, MayAllCome, after_event, after_events, given, gives, start}
use Rattle.route_laws.specs.Tables.{Route, IsTable, hop_at, route_of, with_route, without_block}
use Rattle.route_laws.proofs.Between.{reverse_In}
use Rattle.route_laws.proofs.FlatTables.{hops_same, preferring}
use Rattle.route_laws.proofs.NetworksAt.{of_network_at}
use Rattle.route_laws.proofs.Runs.{Holds, holds}
use Rattle.route_installer.specs.Installing.{after_notes, batches, batches_given, begin, event_lines, event_of, events, operation_line, printed_updates, update_lines}
use Rattle.route_installer.specs.Laws.{BeginningsAreCarriedOut, NotesGiveBatches, OutputIsGiven, OutputReadsBack, carried_out, is_operation, lines_given, updates_in}
use Rattle.route_feed.proofs.Beginnings.{first_lines}
use Rattle.route_feed.proofs.PrintedLines.{first_line, is_cut, word_hop}
use Rattle.route_feed.proofs.ReadLines.{of_updates, read_is}
use Rattle.route_installer.proofs.KeptTable.{one_event, whole}
use Rattle.route_installer.proofs.NotesInTurn.{after_events-append, batches-append, lines-append, may_split, tables_after}

-- ---- the lines of operations

all_operations : (os : List Operation) → filter is_operation (map operation_line os) ≡ map operation_line os
all_operations [] = refl
all_operations (o ∷ os) = grind (arith, all_operations os)

batch_operations : (os : List Operation) → filter is_operation (map operation_line os ++ U.Done ∷ []) ≡ map operation_line os
batch_operations os = simp (filter-append, all_operations, append-nil)

-- where the table is not kept nothing is given
event_operations : (s : Installer) (e : Event) → filter is_operation (event_lines s e) ≡ map operation_line (gives s e)
event_operations s e = grind (arith, batch_operations)

pub lines_operations : (s : Installer) (es : List Event) → filter is_operation (update_lines s es) ≡ map operation_line (given s es)
lines_operations s [] = refl
lines_operations s (e ∷ es) = rw (filter-append, event_operations, lines_operations (after_event s e) es, map-append)

pub output_is_given : OutputIsGiven
output_is_given ns = lines_operations start (events begin ns)

-- ---- the lines of one more note

-- no batch, or one
abbrev NoneOrBatch : Installer → List Event → Type 0
NoneOrBatch s es =
    ((batches s es ≡ 0) × (update_lines s es ≡ []))
    ⊎ ((batches s es ≡ 1) × (update_lines s es ≡ map operation_line (given s es) ++ U.Done ∷ []))

one_batch : (s : Installer) (e : Event) → NoneOrBatch s (e ∷ [])
one_batch s e = grind (arith, append-nil)

pub notes_give_batches : NotesGiveBatches
notes_give_batches ns n =
    let before = events begin ns in
    let at = after_notes begin ns in
    let these = event_of at n.note n.table in
    let more = ap (batches start) (whole ns n) ∙ batches-append start before these in
    let lines = ap (update_lines start) (whole ns n) ∙ lines-append start before these in
    let batch : NoneOrBatch (after_events start before) these =
    ⊎_elim (λ none. rw none (inl (refl, refl))) (λ t. rw t.1 (one_batch (after_events start before) t.0))
    (one_event at n.note n.table) in
    ⊎_elim
    (λ none. inl ((let same : batches_given (ns ++ n ∷ []) ≡ batches_given ns = omega (arith, more, none.0) in same), lines ∙ ap (λ us. lines_given ns ++ us) none.1 ∙ append-nil (lines_given ns)))
    (λ one. inr (
      (let next : batches_given (ns ++ n ∷ []) ≡ suc (batches_given ns) = omega (arith, more, one.0) in next),
      lines ∙ ap (λ us. lines_given ns ++ us) one.1 ∙ ap (λ T. lines_given ns ++ (map operation_line (given T these) ++ U.Done ∷ [])) (sym (tables_after begin ns)),
    ))
    batch

-- ---- lines carried out

-- `ok` changes nothing
pub only_operations : (M : List Route) (us : List FibUpdate) → carried_out M us ≡ carried_out M (filter is_operation us)
only_operations M [] = refl
only_operations M (U.Done ∷ us) = only_operations M us
only_operations M (u ∷ us) = only_operations (carried_out M (u ∷ [])) us

-- a route with the default preference, as that of a line
abbrev plain : Route → Route
plain r = preferring default_preference r

plain_with : (M : List Route) (r : Route) → with_route (map plain M) (plain r) ≡ map plain (with_route M r)
plain_with M r = simp (filter_map_swap, map-append)

plain_without : (M : List Route) (b : Block) → without_block (map plain M) b ≡ map plain (without_block M b)
plain_without M b = filter_map_swap plain (λ (s : Route). not (same_block s.block b)) M

same_carried : (os : List Operation) (M N : List Route) → map plain M ≡ map plain N
    → map plain (carried_out M (map operation_line os)) ≡ map plain (after_all N os)
same_carried [] M N e = e
same_carried (Install r ∷ os) M N e = same_carried os _ _
    (sym (plain_with M (route_of (network_at r.block) r.hop default_preference))
    ∙ (λ i. with_route (e i) (record { block = of_network_at r.block i; hop = r.hop; pref = default_preference }))
    ∙ plain_with N r)
same_carried (Remove b ∷ os) M N e =
    same_carried os _ _
    (sym (plain_without M (block (network_at b))) ∙ (λ i. without_block (e i) (of_network_at b i)) ∙ plain_without N b)

-- the lines of operations make the hops that the operations make
pub carried_hops : (M : List Route) (os : List Operation) (x : Address) → hop_at (carried_out M (map operation_line os)) x ≡ hop_at (after_all M os) x
carried_hops M os x =
    sym (hops_same default_preference (carried_out M (map operation_line os)) x)
    ∙ ap (λ T. hop_at T x) (same_carried os M M refl)
    ∙ hops_same default_preference (after_all M os) x

-- ---- a beginning

pub first_of_map : {A B : Type 0} (f : A → B) (xs : List A) (ys zs : List B) → ys ++ zs ≡ map f xs → ys ≡ map f (take (length ys) xs)
first_of_map f xs ys zs e = sym (take-append_seam ys zs) ∙ ap (take (length ys)) e ∙ take-map f (length ys) xs

-- of the first lines of these events
first_carried : (M : List Route) (es : List Event) (us later : List FibUpdate) → update_lines start es ≡ us ++ later → (x : Address)
    → hop_at (carried_out M us) x ≡ hop_at (after_all M (take (length (filter is_operation us)) (given start es))) x
first_carried M es us later e x =
    let all = sym (filter-append is_operation us later) ∙ ap (filter is_operation) (sym e) ∙ lines_operations start es in
    ap (λ T. hop_at T x) (only_operations M us)
    ∙ ap (λ vs. hop_at (carried_out M vs) x)
    (first_of_map operation_line (given start es) (filter is_operation us) (filter is_operation later) all)
    ∙ carried_hops M (take (length (filter is_operation us)) (given start es)) x

-- ---- lines that spell what they print

abbrev IsSpelled : FibUpdate → Type 0
IsSpelled u = IsUpdate (update_text u) u

updates_read : (us : List FibUpdate) → All IsSpelled us → updates_in (printed_updates us) ≡ us
updates_read [] s = refl
updates_read (u ∷ us) s =
    let text = update_text u in
    let first = All-head IsSpelled u us s in
    ap updates_in (append_assoc text (10 ∷ []) (printed_updates us))
    ∙ ap (filter_map update_of)
    (first_line text (printed_updates us) (recursion_from_All (λ c. c ≢ 10) text (updates.clean text u first)))
    ∙ filter_map-append update_of (text ∷ []) (lines (printed_updates us))
    ∙ ap (λ o. filter_map (λ (p : Option FibUpdate). p) (o ∷ []) ++ updates_in (printed_updates us))
    (read_is of_updates text u first)
    ∙ ap (λ vs. u ∷ vs) (updates_read us (All-tail IsSpelled u us s))

abbrev GivesSpelled : Operation → Type 0
GivesSpelled o = IsSpelled (operation_line o)

between_spelled : (M N : List Route) → IsTable M → IsTable N → All GivesSpelled (between M N)
between_spelled M N m n =
    All-append GivesSpelled (map Install (reverse (missing M N))) (map (λ (r : Route). Remove r.block) (surplus M N))
    (All-map GivesSpelled Install (reverse (missing M N))
    (All-from_In (λ r. GivesSpelled (Install r)) (reverse (missing M N)) (λ r i.
    let k = (In-from_filter _ N r (reverse_In (missing M N) r i)).0 in
    prints (operation_line (Install r)) (is_cut r.block) (
      net_reads r.block (In-from_All (λ (s : Route). IsBlock s.block) N n.blocks r k),
      word_hop r.hop (In-from_All (λ (s : Route). IsHop s.hop) N n.hops r k),
    ))))
    (All-map GivesSpelled (λ (r : Route). Remove r.block) (surplus M N)
    (All-weaker (λ (r : Route). IsBlock r.block) (λ (r : Route). GivesSpelled (Remove r.block))
    (λ r b. prints (operation_line (Remove r.block)) (is_cut r.block) (net_reads r.block b)) (surplus M N)
    (All-filter _ (λ (r : Route). IsBlock r.block) M m.blocks)))

gives_spelled : (s : Installer) (e : Event) → IsTable s.installed → MayCome s e → All GivesSpelled (gives s e)
gives_spelled s (Have r) m c = All-nil GivesSpelled
gives_spelled s (Told rs N) m c =
    cond_both s.kept (between s.installed N) [] (All GivesSpelled) (λ k. between_spelled s.installed N m (c.1 k).hops.table)
    (λ k. All-nil GivesSpelled)
gives_spelled s (Sync N) m c = between_spelled s.installed N m c.0.hops.table

event_spelled : (s : Installer) (e : Event) → IsTable s.installed → MayCome s e → All IsSpelled (event_lines s e)
event_spelled s e m c = cond_both (after_event s e).kept (map operation_line (gives s e) ++ U.Done ∷ []) [] (All IsSpelled)
    (λ k. All-push IsSpelled (map operation_line (gives s e)) U.Done
    (All-map IsSpelled operation_line (gives s e) (gives_spelled s e m c)) refl)
    (λ k. All-nil IsSpelled)

lines_spelled : (fs es : List Event) → MayAllCome start (es ++ fs) → All IsSpelled (update_lines (after_events start es) fs)
lines_spelled [] es may = All-nil IsSpelled
lines_spelled (e ∷ fs) es may =
    let s = after_events start es in
    let t = may_split start es (e ∷ fs) may in
    let more = lines_spelled fs (es ++ e ∷ []) (subst (MayAllCome start) (sym (append_assoc es (e ∷ []) fs)) may) in
    All-append IsSpelled (event_lines s e) (update_lines (after_event s e) fs)
    (event_spelled s e (Holds.installed (holds es t.0)) t.1.0)
    (subst (λ (r : Installer). All IsSpelled (update_lines r fs)) (after_events-append start es (e ∷ [])) more)

pub output_reads_back : OutputReadsBack
output_reads_back ns may = updates_read (update_lines start (events begin ns)) (lines_spelled (events begin ns) [] may)

pub beginnings_are_carried_out : BeginningsAreCarriedOut
beginnings_are_carried_out ns front back may e x =
    let (more, first) = first_lines front back in
    first_carried _ (events begin ns) (updates_in front) (filter_map update_of more)
    (sym (output_reads_back ns may) ∙ ap updates_in e ∙ ap (filter_map update_of) first ∙ filter_map-append update_of (lines front) more) x
