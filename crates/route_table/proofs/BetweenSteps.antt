-- What is left to install and to remove, when one more route was looked at.
use Rattle.std.proofs.Common.{◌≡◌, ◌<◌, ◌+◌, ◌↔◌, ℕ, inl, inr, Bool, true, false, not, ◌&&◌, ◌||◌, cond, List, [], ◌∷◌, ◌++◌, length, take, drop, Option, Some, None, refl, sym, ap, ◌∙◌, subst, slice_index_or, reverse, arith}
use Rattle.std.specs.Option.{option_eq, option_map}
use Rattle.std.proofs.lemmas.Bool.{and_parts, false_from_ne_true}
use Rattle.std.proofs.lemmas.Grind.{common_steps}
use Rattle.std.proofs.lemmas.List.{map-append, map_more, reverse-append, take-append-drop}
use Rattle.std.proofs.lemmas.List.Elements.{All-head, All-pop, All-tail, filter-append}
use Rattle.ipnet_addr.proofs.Basics.{In-from_list_any, list_any-from_In}
use Rattle.ipnet_addr.proofs.Members.{In}
use Rattle.ipnet_addr.proofs.Ascending.{In-from_Contains}
use Rattle.ipnet_blocks.specs.Blocks.{Block, IsBlock, IsBefore, same_block}
use Rattle.ipnet_blocks.specs.Networks.{IsTruncated}
use Rattle.ipnet_blocks.proofs.BlockLaws.{strict}
use Rattle.ipnet_blocks.proofs.Lists.{rising_cross}
use Rattle.ipnet_blocks.proofs.BlockTests.{same_from_test}
use Rattle.ipnet.specs.IpNets.{block, family, parts, network_at}
use Rattle.ipnet.specs.declared.ip_net.IpNet.{IpNet}
use Rattle.ipnet.specs.declared.ip_net.IpNet.TheVariants.{V4, V6}
use Rattle.route_choices.specs.Choices.{default_preference}
use Rattle.route_choices.specs.declared.hop.Hop.{Hop}
use Rattle.route_choices.proofs.Kept.{same_kept}
use Rattle.route_laws.specs.LeastTables.{routes_for}
use Rattle.route_laws.specs.Operations.{Remove, is_held, missing, removes, same_route, surplus}
use Rattle.route_laws.specs.Tables.{Route, IsTable, is_stored, item_of, match_of, route_of, with_route}
use Rattle.route_laws.proofs.Between.{route_from_test, route_itself}
use Rattle.route_laws.proofs.Networks.{match_of_own}
use Rattle.route_laws.proofs.Insides.{Sooner, rising}
use Rattle.route_laws.proofs.Matches.{bools_same, match_meets, put_last}
use Rattle.route_laws.proofs.NetworksAt.{of_network_at}
use Rattle.route_table.specs.InnerBetween.{AreComing}
use Rattle.route_table.proofs.FlatRuns.{table_left, table_right}

-- a network without host bits is that of its block
pub network_is : (n : IpNet) → IsTruncated (family n) (parts n) → n ≡ network_at (block n)
network_is (V4 n) e = ap V4 e
network_is (V6 n) e = ap V6 e

pub is_truncated : (n : IpNet) → n ≡ network_at (block n) → IsTruncated (family n) (parts n)
is_truncated (V4 n) e = ap parts e
is_truncated (V6 n) e = ap parts e

-- ---- parts of tables

pub rest_is_table : (r : Route) (M : List Route) → IsTable (r ∷ M) → IsTable M
rest_is_table r M t = table_right (r ∷ []) M t

abbrev pub route_for : IpNet × Hop → Route
route_for p = route_of p.0 p.1 default_preference

abbrev IsPlain : IpNet × Hop → Type 0
IsPlain p = IsTruncated (family p.0) (parts p.0)

pub front_comes : (xs front : List (IpNet × Hop)) (p : IpNet × Hop) → xs ≡ front ++ p ∷ [] → AreComing xs → AreComing front × IsBlock (block p.0) × (p.0 ≡ network_at (block p.0))
front_comes xs front p e c =
    let table : IsTable (routes_for front ++ route_for p ∷ []) = subst IsTable (ap routes_for e ∙ map-append route_for front (p ∷ [])) c.table in
    let plain = All-pop IsPlain xs front (Some p) e c.truncated in (
      record { table = table_left (routes_for front) (route_for p ∷ []) table; truncated = plain.0 },
      (All-pop (λ (r : Route). IsBlock r.block) (routes_for front ++ route_for p ∷ []) (routes_for front) (Some (route_for p)) refl table.blocks).1,
      network_is p.0 plain.1,
    )

pub rest_comes : (xs rest : List (IpNet × Hop)) (p : IpNet × Hop) → xs ≡ p ∷ rest → AreComing xs → AreComing rest × IsPlain p
rest_comes xs rest p e c =
    let d : AreComing (p ∷ rest) = subst AreComing e c in
    (record { table = rest_is_table (route_for p) (routes_for rest) d.table; truncated = All-tail IsPlain p rest d.truncated }, All-head IsPlain p rest d.truncated)

-- ---- the last of those that come

pub last_looked_at : (M : List Route) (xs front : List (IpNet × Hop)) (p : IpNet × Hop) (held : Bool) → xs ≡ front ++ p ∷ [] → held ≡ is_held M (route_for p)
    → reverse (missing M (routes_for xs)) ≡ cond held (reverse (missing M (routes_for front))) (route_for p ∷ reverse (missing M (routes_for front)))
last_looked_at M xs front p held is e =
    ap (λ ys. reverse (missing M (routes_for ys))) is
    ∙ ap (λ rs. reverse (missing M rs)) (map-append route_for front (p ∷ []))
    ∙ ap reverse (filter-append (λ r. not (is_held M r)) (routes_for front) (routes_for (p ∷ [])))
    ∙ reverse-append (missing M (routes_for front)) (missing M (routes_for (p ∷ [])))
    ∙ last held e
  where
    last : (b : Bool) → b ≡ is_held M (route_for p) → reverse (missing M (routes_for (p ∷ []))) ++ reverse (missing M (routes_for front)) ≡ cond b (reverse (missing M (routes_for front))) (route_for p ∷ reverse (missing M (routes_for front)))
    last true e = rw (← e) refl
    last false e = rw (← e) refl

-- `==` of what `get` answers, where `==` of each part is equality
pub same_items : {A B C : Type 0} (E : A → A → Bool) (F : B → B → Bool) (G : C → C → Bool) → ((m n : A) → (E m n ≡ true) ↔ (m ≡ n)) → ((j k : B) → (F j k ≡ true) ↔ (j ≡ k)) → ((p q : C) → (G p q ≡ true) ↔ (p ≡ q))
    → (o : Option (A × B × C)) (y : A × B × C) → (option_eq (λ x y. (E x.0 y.0 && F x.1 y.1) && G x.2 y.2) o (Some y) ≡ true) ↔ (o ≡ Some y)
same_items E F G e f g None y = ((λ q. absurd (cc)), (λ q. absurd (cc)))
same_items E F G e f g (Some x) y = (
  (λ q.
      let t = and_parts (E x.0 y.0 && F x.1 y.1) (G x.2 y.2) q in
      let u = and_parts (E x.0 y.0) (F x.1 y.1) t.0 in
      λ i. Some ((e x.0 y.0).0 u.0 i, (f x.1 y.1).0 u.1 i, (g x.2 y.2).0 t.1 i)),
  (λ q. let s : x ≡ y = cc in grind (arith, common_steps, (e x.0 y.0).1, (f x.1 y.1).1, (g x.2 y.2).1)),
)

-- what `get` answers of a network tells whether just this route is there
pub held_by_get : (M : List Route) (n : IpNet) (h : Hop) (o : Option (IpNet × Hop × ℕ)) (b : Bool) → IsTable M → IsBlock (block n) → n ≡ network_at (block n) → o ≡ option_map item_of (match_of M (block n))
    → (b ≡ true) ↔ (o ≡ Some (n, h, default_preference)) → b ≡ is_held M (route_of n h default_preference)
held_by_get M n h o b t ok plain found same = bools_same b (is_held M (route_of n h default_preference))
    (λ e. there (match_of M (block n)) refl (sym found ∙ same.0 e))
    (λ e. same.1 (found ∙ here (In-from_list_any (λ s. same_route s (route_of n h default_preference)) M e)))
  where
    there : (m : Option Route) → match_of M (block n) ≡ m → option_map item_of m ≡ Some (n, h, default_preference) → is_held M (route_of n h default_preference) ≡ true
    there None q e = absurd (cc)
    there (Some s) q e =
        let i : item_of s ≡ (n, h, default_preference) = cc in
        let r : s ≡ route_of n h default_preference = λ k. record { block = (sym (of_network_at s.block) ∙ ap (λ (x : IpNet × Hop × ℕ). block x.0) i) k; hop = (i k).1; pref = (i k).2 } in
        let j = In-from_Contains M s (match_meets M t (block n) ok s q).member in
        list_any-from_In (λ u. same_route u (route_of n h default_preference)) M s j (ap (λ u. same_route u (route_of n h default_preference)) r ∙ route_itself (route_of n h default_preference))

    here : (s : Route) × In s M × (same_route s (route_of n h default_preference) ≡ true) → option_map item_of (match_of M (block n)) ≡ Some (n, h, default_preference)
    here w =
        let r = route_from_test w.0 (route_of n h default_preference) w.2 in
        ap (option_map item_of) (match_of_own M t (route_of n h default_preference) (subst (λ (u : Route). In u M) r w.1)) ∙ ap (λ m. Some (m, h, default_preference)) (sym plain)

-- ---- the first of the routes

pub first_looked_at : (N : List Route) (r : Route) (rs : List Route) (stored : Bool) → stored ≡ is_stored N r.block
    → removes (surplus (r ∷ rs) N) ≡ cond stored (removes (surplus rs N)) (Remove r.block ∷ removes (surplus rs N))
first_looked_at N r rs true e = rw (← e) refl
first_looked_at N r rs false e = rw (← e) refl

-- a list that lost what comes before the first route tells the same of those behind it
pub same_surplus : (L N : List Route) (r : Route) (rs : List Route) → IsTable (r ∷ rs) → ((b : Block) → (IsBefore b r.block → ⊥) → is_stored L b ≡ is_stored N b) → surplus rs L ≡ surplus rs N
same_surplus L N r rs t same = same_kept (λ s. not (is_stored L s.block)) (λ s. not (is_stored N s.block)) rs
    (λ s i. ap not (same s.block (λ l. strict s.block r.block l ((rising (r ∷ rs) t).0 s i))))

-- the first route is removed, where the list hasn't its block
pub next_removed : (L N : List Route) (r : Route) (xs rs : List Route) → xs ≡ r ∷ rs → IsTable xs → false ≡ is_stored N r.block → ((b : Block) → (IsBefore b r.block → ⊥) → is_stored L b ≡ is_stored N b)
    → removes (surplus xs N) ≡ Remove r.block ∷ removes (surplus rs L)
next_removed L N r xs rs is t e same =
    ap (λ ys. removes (surplus ys N)) is ∙ first_looked_at N r rs false e ∙ ap (λ K. Remove r.block ∷ removes K) (sym (same_surplus L N r rs (subst IsTable is t) same))

-- and passed, where it has
pub next_kept : (L N : List Route) (r : Route) (xs rs : List Route) → xs ≡ r ∷ rs → IsTable xs → true ≡ is_stored N r.block → ((b : Block) → (IsBefore b r.block → ⊥) → is_stored L b ≡ is_stored N b)
    → removes (surplus rs L) ≡ removes (surplus xs N)
next_kept L N r xs rs is t e same = ap removes (same_surplus L N r rs (subst IsTable is t) same) ∙ sym (ap (λ ys. removes (surplus ys N)) is ∙ first_looked_at N r rs true e)

-- ---- the first of those that come

module _ (p : IpNet × Hop) (rest : List (IpNet × Hop)) (n : IpNet) where
  pub passed_by : IsBefore (block p.0) (block n) → (b : Block) → (IsBefore b (block n) → ⊥) → is_stored (routes_for rest) b ≡ is_stored (routes_for (p ∷ rest)) b
  passed_by l b behind = ap (λ c. c || is_stored (routes_for rest) b) (sym (false_from_ne_true (same_block (block p.0) b)
      (λ e. behind (subst (λ (d : Block). IsBefore d (block n)) (same_from_test (block p.0) b e) l))))

  pub not_there : IsTable (routes_for (p ∷ rest)) → IsBefore (block n) (block p.0) → false ≡ is_stored (routes_for (p ∷ rest)) (block n)
  not_there t l = sym (false_from_ne_true (is_stored (routes_for (p ∷ rest)) (block n)) (λ e.
      let w = In-from_list_any (λ (s : Route). same_block s.block (block n)) (routes_for (p ∷ rest)) e in
      later w.0 w.1 (same_from_test (Route.block w.0) (block n) w.2)))
    where
      later : (s : Route) → In s (routes_for (p ∷ rest)) → s.block ≡ block n → ⊥
      later s (inl q) e = let m = subst (IsBefore (block n)) (ap Route.block (sym q) ∙ e) l in strict (block n) (block n) m m
      later s (inr j) e = strict (block n) (block p.0) l (subst (IsBefore (block p.0)) e ((rising (routes_for (p ∷ rest)) t).0 s j))

-- ---- a table made of a list

pub routes_more : (xs : List (IpNet × Hop)) (i : ℕ) (p : IpNet × Hop) → i < length xs → p ≡ slice_index_or xs i p → routes_for (take (i + 1) xs) ≡ routes_for (take i xs) ++ route_for p ∷ []
routes_more xs i p l is = map_more route_for xs i p l ∙ ap (λ q. routes_for (take i xs) ++ route_for q ∷ []) (sym is)

-- the next route of the list comes after those before it
pub added_next : (xs : List (IpNet × Hop)) (i : ℕ) (p : IpNet × Hop) → IsTable (routes_for xs) → i < length xs → p ≡ slice_index_or xs i p
    → with_route (routes_for (take i xs)) (route_for p) ≡ routes_for (take (i + 1) xs)
added_next xs i p t h is =
    let more = routes_more xs i p h is in
    let cut = subst IsTable (ap routes_for (sym (take-append-drop (i + 1) xs)) ∙ map-append route_for (take (i + 1) xs) (drop (i + 1) xs)) t in
    let front : IsTable (routes_for (take i xs) ++ route_for p ∷ []) = subst IsTable more (table_left (routes_for (take (i + 1) xs)) (routes_for (drop (i + 1) xs)) cut) in
    put_last Route.block (routes_for (take i xs)) (route_for p)
    (λ r j. rising_cross Sooner (routes_for (take i xs)) (route_for p ∷ []) (rising (routes_for (take i xs) ++ route_for p ∷ []) front) r (route_for p) j (inl refl)) ∙ sym more
