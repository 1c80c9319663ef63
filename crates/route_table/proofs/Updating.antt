-- Changes as a table, the block around them, and the operations of edits, one after another.
use Rattle.std.proofs.Common.{◌≡◌, ℕ, ◌+◌, ◌<◌, ◌≤◌, ◌⊎◌, inl, inr, ⊎_elim, Bool, true, List, [], ◌∷◌, ◌++◌, All, Option, Some, None, length, map, take, refl, sym, ap, ◌∙◌, subst, not, append_assoc, append-nil, slice_index_or, reverse}
use Rattle.nearest_table.proofs.TreeEdits.{installed-append, removed-append}
use Rattle.std.proofs.lemmas.List.Elements.{All-append, All-cons, All-nil, All-push}
use Rattle.std.proofs.lemmas.List.{map-append, map_more, reverse-append, take_more}
use Rattle.ipnet_addr.specs.Addresses.{Family, width}
use Rattle.ipnet_addr.proofs.Members.{In}
use Rattle.ipnet_addr.proofs.Ascending.{All-from_In}
use Rattle.ipnet_blocks.specs.BitStrings.{begins}
use Rattle.ipnet_blocks.specs.Blocks.{IsBlock, bit_string}
use Rattle.ipnet_blocks.specs.Networks.{IsTruncated, Network}
use Rattle.ipnet.specs.IpNets.{block, family, net_in, network_at, parts}
use Rattle.ipnet.specs.declared.ip_net.IpNet.{IpNet}
use Rattle.least_table.specs.Tables.{IsBitTable}
use Rattle.nearest_table.specs.Changed.{AreInside, MakeNearest}
use Rattle.nearest_table.specs.Edits.{blocks, installed_in, removed_in}
use Rattle.least_table.specs.Nearest.{has, stores, surplus_routes}
use Rattle.prefix_trie.proofs.Covered.{begins_through}
use Rattle.route_choices.specs.Choices.{default_preference}
use Rattle.route_choices.specs.Hops.{IsHop, hop_from}
use Rattle.route_choices.specs.declared.hop.Hop.{Hop}
use Rattle.route_choices.proofs.Kept.{In-from_filter, In-map}
use Rattle.route_laws.specs.LeastTables.{routes_for}
use Rattle.route_laws.specs.Operations.{Install, Remove, after, after_all, installs}
use Rattle.route_laws.specs.Overwritten.{overwritten}
use Rattle.route_laws.specs.Painted.{AreChanges}
use Rattle.route_laws.specs.Tables.{Route}
use Rattle.route_table.specs.InnerLeast.{entry_of, entries_of}
use Rattle.route_table.specs.InnerFamilyTables.{block_at}
use Rattle.route_table.specs.InnerUpdates.{AddsInstalls, AddsRemoves, AreTruncated, AreWithin, GivesPath, blocks_in, installed_route, overwritten_all, routes_in}
use Rattle.route_table.specs.Operations.{network_of, operation_of}
use Rattle.route_table.specs.declared.between.Operation as Given
use Rattle.route_table.specs.declared.between.Operation.TheVariants as One
use Rattle.route_laws.proofs.Between.{after-append}
use Rattle.route_laws.proofs.NetworksAt.{of_network_at}
use Rattle.route_table.proofs.Asked.{longest_none}
use Rattle.route_table.proofs.BetweenSteps.{is_truncated, route_for, routes_more}
use Rattle.route_table.proofs.FamilyBits.{lengths}
use Rattle.route_table.proofs.Strings.{network_of_string}
use Rattle.trie_core.specs.Bits.{number_from}

-- ---- changes as a table

over_more : (M rs : List Route) (r : Route) → overwritten_all M (rs ++ r ∷ []) ≡ overwritten (overwritten_all M rs) r
over_more M [] r = refl
over_more M (s ∷ rs) r = over_more (overwritten M s) rs r

pub over_next : (xs : List (IpNet × Hop)) (i : ℕ) (p : IpNet × Hop) → i < length xs → p ≡ slice_index_or xs i p → overwritten (overwritten_all [] (routes_for (take i xs))) (route_for p) ≡ overwritten_all [] (routes_for (take (i + 1) xs))
over_next xs i p l is = sym (ap (overwritten_all []) (routes_more xs i p l is) ∙ over_more [] (routes_for (take i xs)) (route_for p))

pub no_changes : AreChanges []
no_changes = record { blocks = All-nil (λ (r : Route). IsBlock r.block); hops = All-nil (λ (r : Route). IsHop r.hop) }

pub changes_next : (xs : List (IpNet × Hop)) (i : ℕ) (p : IpNet × Hop) → i < length xs → p ≡ slice_index_or xs i p → AreChanges (routes_for (take i xs)) → IsBlock (block p.0) → IsHop p.1 → AreChanges (routes_for (take (i + 1) xs))
changes_next xs i p l is c b h = rw (routes_more xs i p l is) (record {
  blocks = All-push (λ (r : Route). IsBlock r.block) (routes_for (take i xs)) (route_for p) c.blocks b;
  hops = All-push (λ (r : Route). IsHop r.hop) (routes_for (take i xs)) (route_for p) c.hops h;
})

-- ---- the block around

-- what is left of the routes of a side, when one more was looked at
pub begun_next : (f : Family) (old new : List Bool) (M rest left : List Route) (s : List Bool) → GivesPath f rest (Some s) left → begins new old ≡ true → begins new s ≡ true
    → ((r : Route) → In r M → (begins old (bit_string r.block) ≡ true) ⊎ In r rest) → (r : Route) → In r M → (begins new (bit_string r.block) ≡ true) ⊎ In r left
begun_next f old new M rest left s g wide here so_far r i = ⊎_elim
    (λ e. inl (begins_through new old (bit_string r.block) wide e))
    (λ j. ⊎_elim (λ e. inl (subst (λ t. begins new t ≡ true) (sym (ap (λ (q : Route). bit_string q.block) e ∙ g.2)) here)) (λ k. inr k) (subst (λ l. In r l) g.1 j))
    (so_far r i)

-- all were looked at
pub begun_inside : (w : ℕ) (b : List Bool) (M left : List Route) → left ≡ [] → ((r : Route) → In r M → (begins b (bit_string r.block) ≡ true) ⊎ In r left) → AreInside w b (entries_of M)
begun_inside w b M left none all x l out = longest_none (entries_of M) x (λ q i e.
    let t = In-map entry_of M q i in
    let begun = ⊎_elim (λ h. h) (λ j. absurd (subst (λ l. In t.0 l) none j)) (all t.0 t.1) in
    let f : begins b q.0 ≡ true = ap (λ (p : List Bool × Option ℕ). begins b p.0) t.2 ∙ begun in
    let g = sym out ∙ begins_through b q.0 x f e in
    cc)

-- ---- operations one by one

pub after_next : (M : List Route) (xs : List Given.Operation) (i : ℕ) (o : Given.Operation) → i < length xs → o ≡ slice_index_or xs i o
    → after_all M (map operation_of (take (i + 1) xs)) ≡ after (after_all M (map operation_of (take i xs))) (operation_of o)
after_next M xs i o l is =
    ap (after_all M) (map_more operation_of xs i o l ∙ ap (λ p. map operation_of (take i xs) ++ operation_of p ∷ []) (sym is))
    ∙ after-append M (map operation_of (take i xs)) (operation_of o ∷ [])

-- ---- operations of edits

abbrev Edit : Type 0
Edit = List Bool × Option (Option ℕ)

module _ (f : Family) where
  routes-append : (es gs : List Edit) → routes_in f (es ++ gs) ≡ routes_in f es ++ routes_in f gs
  routes-append es gs = ap (map (installed_route f)) (installed-append es gs) ∙ map-append (installed_route f) (installed_in es) (installed_in gs)

  blocks-append : (es gs : List Edit) → blocks_in f (es ++ gs) ≡ blocks_in f es ++ blocks_in f gs
  blocks-append es gs = ap (map (block_at f)) (removed-append es gs) ∙ map-append (block_at f) (removed_in es) (removed_in gs)

  -- the installs of the last edits, and then those of the edits before
  pub installs_join : (es gs : List Edit) (old mid new : List Given.Operation) → AddsInstalls f gs old mid → AddsInstalls f es mid new → AddsInstalls f (es ++ gs) old new
  installs_join es gs old mid new a b = record {
    operations = b.operations ∙ ap (λ l. l ++ installs (reverse (routes_in f es))) a.operations
        ∙ append_assoc (map operation_of old) (installs (reverse (routes_in f gs))) (installs (reverse (routes_in f es)))
        ∙ ap (λ l. map operation_of old ++ l) (sym (
        ap (λ l. installs (reverse l)) (routes-append es gs)
        ∙ ap installs (reverse-append (routes_in f es) (routes_in f gs))
        ∙ map-append Install (reverse (routes_in f gs)) (reverse (routes_in f es))));
    hops = rw (routes-append es gs) (All-append (λ (r : Route). IsHop r.hop) (routes_in f es) (routes_in f gs) b.hops a.hops);
    truncated = λ t. b.truncated (a.truncated t);
  }

  pub no_installs : (os : List Given.Operation) → AddsInstalls f [] os os
  no_installs os = record { operations = sym (append-nil (map operation_of os)); hops = All-nil (λ (r : Route). IsHop r.hop); truncated = λ t. t }

  -- the removes of edits, and then those of the edits behind
  pub removes_join : (es gs : List Edit) (old mid new : List Given.Operation) → AddsRemoves f es old mid → AddsRemoves f gs mid new → AddsRemoves f (es ++ gs) old new
  removes_join es gs old mid new a b = record {
    operations = b.operations ∙ ap (λ l. l ++ map Remove (blocks_in f gs)) a.operations
        ∙ append_assoc (map operation_of old) (map Remove (blocks_in f es)) (map Remove (blocks_in f gs))
        ∙ ap (λ l. map operation_of old ++ l) (sym (ap (map Remove) (blocks-append es gs) ∙ map-append Remove (blocks_in f es) (blocks_in f gs)));
    truncated = λ t. b.truncated (a.truncated t);
  }

  pub removes_next : (xs : List Edit) (i : ℕ) (e : Edit) → i < length xs → e ≡ slice_index_or xs i e → (old mid new : List Given.Operation) → AddsRemoves f (take i xs) old mid → AddsRemoves f (e ∷ []) mid new
      → AddsRemoves f (take (i + 1) xs) old new
  removes_next xs i e l is old mid new a b =
      subst (λ es. AddsRemoves f es old new) (sym (take_more xs i e l ∙ ap (λ d. take i xs ++ d ∷ []) (sym is))) (removes_join (take i xs) (e ∷ []) old mid new a b)

  at_block : (b : List Bool) (net : IpNet) → net ≡ network_at (block_at f b) → block net ≡ block_at f b
  at_block b net n = ap block n ∙ of_network_at (block_at f b)

  -- one operation more
  truncated_more : (os : List Given.Operation) (o : Given.Operation) (b : List Bool) → network_of o ≡ network_at (block_at f b) → AreTruncated os → AreTruncated (os ++ o ∷ [])
  truncated_more os o b n all = All-push (λ (p : Given.Operation). IsTruncated (family (network_of p)) (parts (network_of p))) os o all (is_truncated (network_of o) (n ∙ ap network_at (sym (at_block b (network_of o) n))))

  pub install_added : (b : List Bool) (k : Option ℕ) (net : IpNet) (hop : Hop) (os : List Given.Operation) → net ≡ network_at (block_at f b) → hop ≡ hop_from k → IsHop hop
      → AddsInstalls f ((b, Some k) ∷ []) os (os ++ One.Install net hop ∷ [])
  install_added b k net hop os n h ok = record {
    operations = map-append operation_of os (One.Install net hop ∷ []) ∙ (λ i. map operation_of os ++ Install (record { block = at_block b net n i; hop = h i; pref = default_preference }) ∷ []);
    hops = All-cons (λ (r : Route). IsHop r.hop) (installed_route f (b, k)) [] (subst IsHop h ok) (All-nil (λ (r : Route). IsHop r.hop));
    truncated = truncated_more os (One.Install net hop) b n;
  }

  pub remove_added : (b : List Bool) (net : IpNet) (os : List Given.Operation) → net ≡ network_at (block_at f b) → AddsRemoves f ((b, None) ∷ []) os (os ++ One.Remove net ∷ [])
  remove_added b net os n = record {
    operations = map-append operation_of os (One.Remove net ∷ []) ∙ (λ i. map operation_of os ++ Remove (at_block b net n i) ∷ []);
    truncated = truncated_more os (One.Remove net) b n;
  }

-- the network of a key that is made of bits
pub network_of_bits : (f : Family) {K : Type 0} (of_bits : List Bool → K) (parts_in : K → Network) (parts_are : (s : List Bool) → parts_in (of_bits s) ≡ record { number = number_from (width f) s; len = length s })
    → (s : List Bool) → length s ≤ width f → (k : K) → k ≡ of_bits s → net_in f (parts_in k) ≡ network_at (block_at f s)
network_of_bits f of_bits parts_in parts_are s h k e = ap (λ j. net_in f (parts_in j)) e ∙ ap (net_in f) (parts_are s ∙ network_of_string f s h)

-- ---- the blocks of edits

from_blocks : (t : List (List Bool × Option ℕ)) (b : List Bool) → In b (blocks t) → (r : List Bool × Option ℕ) × In r t × (b ≡ r.0)
from_blocks [] b i = absurd i
from_blocks (r ∷ t) b (inl e) = (r, inl refl, e)
from_blocks (r ∷ t) b (inr i) = let s = from_blocks t b i in (s.0, inr s.1, s.2)

edit_within : (w : ℕ) (es : List Edit) → ((r : List Bool × Option ℕ) → In r (installed_in es) → length r.0 ≤ w) → ((b : List Bool) → In b (removed_in es) → length b ≤ w) → (e : Edit) → In e es → length e.0 ≤ w
edit_within w [] p q e i = absurd i
edit_within w ((b, Some k) ∷ es) p q e (inl z) = subst (λ (d : Edit). length d.0 ≤ w) (sym z) (p (b, k) (inl refl))
edit_within w ((b, Some k) ∷ es) p q e (inr i) = edit_within w es (λ r j. p r (inr j)) q e i
edit_within w ((b, None) ∷ es) p q e (inl z) = subst (λ (d : Edit). length d.0 ≤ w) (sym z) (q b (inl refl))
edit_within w ((b, None) ∷ es) p q e (inr i) = edit_within w es p (λ c j. q c (inr j)) e i

pub edits_within : (w : ℕ) (cs t : List (List Bool × Option ℕ)) (es : List Edit) → IsBitTable w t → MakeNearest w cs t es → AreWithin w es
edits_within w cs t es ok m = All-from_In (λ (e : Edit). length e.0 ≤ w) es (edit_within w es
    (λ r i. lengths w m.table (m.nearest.gives).table r (In-from_filter (λ r. not (has t r)) m.table r (subst (λ l. In r l) m.edits.installs i)).0)
    (λ b i. let s = from_blocks (surplus_routes t m.table) b (subst (λ l. In b l) m.edits.removes i) in
    let l = lengths w t ok s.0 (In-from_filter (λ r. not (stores m.table r.0)) t s.0 s.1).0 in
    subst (λ c. length c ≤ w) (sym s.2) l))
