-- Operations towards a table, on whose way the hop of each address turns once. Those between two tables, and how many there are.
use Rattle.std.proofs.Common.{◌≡◌, ℕ, zero, suc, ◌≤◌, ◌⊎◌, inl, inr, ⊎_elim, List, [], ◌∷◌, take, Option, Some, refl, sym, ap, ◌∙◌, arith, ◌&&◌, true, not, ◌++◌, subst, reverse, length, ◌+◌, length-append, append-nil}
use Rattle.std.proofs.lemmas.Bool.{eq-eqb, eqb-true, cases_lt, and_parts, cases_Bool, and_from, cond_both}
use Rattle.ipnet_addr.specs.Addresses.{Address, IsAddress}
use Rattle.ipnet_addr.proofs.Members.{In, In-cases, Distinct, no_more}
use Rattle.ipnet_addr.proofs.Ascending.{In-from_Contains, Contains-from_In, Rising, same_rising, Distinct-from_Rising}
use Rattle.ipnet_blocks.specs.Blocks.{Block, IsBlock, HasAddress, IsInside, IsBefore, host, same_block, is_inside}
use Rattle.ipnet_blocks.proofs.BlockLaws.{nested, same_sets, strict}
use Rattle.ipnet_blocks.proofs.Maximals.{host_is_block, has_host}
use Rattle.route_laws.specs.Operations.{Operation, IsHitless, after, after_all, between, installs, removes, missing, surplus, same_route, is_held, Install, Remove}
use Rattle.route_laws.specs.Tables.{Governed, IsMatch, Route, IsTable, hop_at, match_number, match_of, with_route, without_block, is_stored}
use Rattle.route_laws.proofs.Alterations.{added_match, left_match, added_is_table, left_back, left_is_table, left_other}
use Rattle.route_laws.proofs.Insides.{same_match, sound, Sooner, rising, same_in}
use Rattle.route_laws.proofs.Matches.{block_in, match_from, match_meets, test_from_inside, before_apart, put_back, put_itself, put_other, before_inner, shorter_first, same_or_not, Rising-map, gone_back, gone_other, not_from}
use Rattle.route_choices.specs.Hops.{IsHop}
use Rattle.std.specs.List.{list_any}
use Rattle.std.proofs.lemmas.List.{reverse-append, reverse-reverse, length-map, length-reverse}
use Rattle.std.proofs.lemmas.List.Sorted.{Contains-permutation, IsPermutation-reverse}
use Rattle.ipnet_addr.proofs.Basics.{In-from_list_any, list_any-from_In}
use Rattle.ipnet_blocks.proofs.BlockTests.{same_from_test, test_from_same}
use Rattle.route_choices.proofs.Kept.{Rising-kept, In-from_filter, In-filter, Rising-joined, all_kept, In-map}
use Rattle.route_choices.proofs.Preferences.{hop_from_test, same_itself}
use Rattle.ipnet_blocks.proofs.Parents.{decide_inside}
use Rattle.route_laws.proofs.Overwritten.{outside_back, outside_other, over_back, over_other, routes_placed, Changes, painted_all_is_table, painted_is_table, changes_from}
use Rattle.route_laws.specs.Painted.{most_operations, painted, painted_all, strictly_inside}
use Rattle.route_laws.specs.Nearest.{FewestIsNearest, LeastIsNearest, NearestIsBounded, NearestIsFewest}

module _ (N : List Route) (new : IsTable N) where
  -- a table with a route of N
  pub with_one : (T : List Route) → IsTable T → (r : Route) → In r N → IsTable (with_route T r)
  with_one T table r i = let s = sound N new r i in added_is_table T table r s.0 s.1

  module _ (T : List Route) (table : IsTable T) (x : Address) (a : IsAddress x) where
    -- the hop stays, or is that in N
    abbrev Turns : List Route → Type 0
    Turns M = (hop_at M x ≡ hop_at T x) ⊎ (hop_at M x ≡ hop_at N x)

    -- a route that is installed after those of N that come behind it
    pub install_turns : (r : Route) → In r N → ((s : Route) → In s N → IsBefore r.block s.block → In s T) → Turns (with_route T r)
    install_turns r i behind = ⊎_elim (λ e. inl (ap match_number e))
        (λ t. inr (ap match_number (t.1 ∙ sym (is_new (match_meets _ (with_one T table r i) _ (host_is_block x a) r t.1)))))
        (added_match T table r k.0 k.1 x a)
      where
        k : IsBlock r.block × IsHop r.hop
        k = sound N new r i

        -- a longer one in N comes behind, so it is in T
        is_new : IsMatch (with_route T r) (host x) r → match_of N (host x) ≡ Some r
        is_new m = match_from N new (host x) (host_is_block x a) r (record {
          member = Contains-from_In N r i;
          holds = m.holds;
          longest = λ u c h. ⊎_elim
              (λ l. m.longest u (Contains-from_In (with_route T r) u (put_other Route.block T r u
              (behind u (In-from_Contains N u c) (shorter_first r.block u.block x (block_in N new u (In-from_Contains N u c)) (m.holds x (has_host x)) (h x (has_host x)) l)) (λ e. let w = ap Block.len e in omega (arith, l, w)))) h)
              (λ l. l)
              (cases_lt (Block.len r.block) (Block.len u.block));
        })

    -- a block that is removed when all of N is there, and before it nothing else
    pub remove_turns : (b : Block) → IsBlock b → ((s : Route) → In s N → s.block ≡ b → ⊥) → ((s : Route) → In s N → In s T) → ((s : Route) → In s T → IsBefore s.block b → In s N) → Turns (without_block T b)
    remove_turns b ok apart holds ahead = ⊎_elim (λ e. inl (ap match_number e))
        (λ g. inr (ap match_number (same_match x a (without_block T b) N (left_is_table T table b) new (in_new g) (λ s i h. left_other T table b s (holds s i) (apart s i)))))
        (left_match T table b ok x a)
      where
        -- the routes that are left with the address contain the block, so they are routes of N
        in_new : Governed T b x → (s : Route) → In s (without_block T b) → HasAddress s.block x → In s N
        in_new g s i h =
            let u = left_back T table b s i in
            let k = block_in T table s u.0 in
            let apart_from : IsInside s.block b → IsInside b s.block → ⊥ = λ p q. u.1 (same_sets s.block b k ok p q) in
            let lies = ⊎_elim (λ p. p) (λ p. absurd (g.free s (Contains-from_In T s u.0) (p, apart_from p) h)) (nested b s.block x ok k g.inside h) in
            ahead s u.0 (before_inner s.block b k ok (lies, λ p. apart_from p lies))

module _ (x : Address) where
  -- each operation leaves the hop or makes it h, which it is at the end: so it is h from where it first is
  abbrev pub Once : List Route → List Operation → Option ℕ → Type 0
  Once M [] h = hop_at M x ≡ h
  Once M (o ∷ os) h = ((hop_at (after M o) x ≡ hop_at M x) ⊎ (hop_at (after M o) x ≡ h)) × Once (after M o) os h

  -- it is h, and so it stays
  settled_at : (M : List Route) (os : List Operation) (h : Option ℕ) → hop_at M x ≡ h → Once M os h → (i : ℕ) → hop_at (after_all M (take i os)) x ≡ h
  settled_at M os h e t zero = e
  settled_at M [] h e t (suc i) = e
  settled_at M (o ∷ os) h e t (suc i) = settled_at (after M o) os h (⊎_elim (λ f. f ∙ e) (λ f. f) t.0) t.1 i

  once_end : (M : List Route) (os : List Operation) (h : Option ℕ) → Once M os h → hop_at (after_all M os) x ≡ h
  once_end M [] h t = t
  once_end M (o ∷ os) h t = once_end (after M o) os h t.1

  once_turns : (M : List Route) (os : List Operation) (h : Option ℕ) → Once M os h → (i j : ℕ) → i ≤ j → (hop_at (after_all M (take i os)) x ≡ hop_at M x) ⊎ (hop_at (after_all M (take j os)) x ≡ h)
  once_turns M os h t zero j l = inl refl
  once_turns M [] h t (suc i) j l = inl refl
  once_turns M (o ∷ os) h t (suc i) zero l = absurd (omega arith)
  once_turns M (o ∷ os) h t (suc i) (suc j) l = ⊎_elim
      (λ e. ⊎_elim (λ f. inl (f ∙ e)) (λ f. inr f) (once_turns (after M o) os h t.1 i j (omega arith)))
      (λ e. inr (settled_at (after M o) os h e t.1 j))
      t.0

-- operations that lead to N: each leaves the hop of an address, or makes it that in N
abbrev Leads : List Route → List Route → List Operation → Type 0
Leads N T os = (after_all T os ≡ N) × ((x : Address) → IsAddress x → Once x T os (hop_at N x))

pub hitless_from : (M : List Route) (os : List Operation) → ((x : Address) → IsAddress x → (h : Option ℕ) × Once x M os h) → IsHitless M os
hitless_from M os f = record {
  turns = λ x a i j l. let t = f x a in
      ⊎_elim (λ e. inl e) (λ e. inr (e ∙ sym (once_end x M os t.0 t.1))) (once_turns x M os t.0 t.1 i j l);
}

-- ---- lists turned round

pub In-reverse : {A : Type 0} (xs : List A) (a : A) → In a xs → In a (reverse xs)
In-reverse xs a i = In-from_Contains (reverse xs) a (Contains-permutation xs (reverse xs) a (IsPermutation-reverse xs) (Contains-from_In xs a i))

pub reverse_In : {A : Type 0} (xs : List A) (a : A) → In a (reverse xs) → In a xs
reverse_In xs a i = subst (In a) (reverse-reverse xs) (In-reverse (reverse xs) a i)

abbrev pub Later : Route → Route → Type 0
Later r s = IsBefore s.block r.block

pub falls : (xs : List Route) → Rising Sooner xs → Rising Later (reverse xs)
falls [] h = tt
falls (x ∷ xs) h = subst (λ (ys : List Route). Rising Later ys) (sym (reverse-append (x ∷ []) xs))
    (Rising-joined Later (reverse xs) (x ∷ []) (falls xs h.1) ((λ y i. absurd i), tt) (λ y z i j. ⊎_elim (λ e. subst (λ (u : Route). Later y u) (sym e) (h.0 y (reverse_In xs y i))) (λ k. absurd k) j))

-- ---- tests

pub route_from_test : (r s : Route) → same_route r s ≡ true → r ≡ s
route_from_test r s e =
    let p = and_parts _ _ e in
    let q = and_parts _ _ p.1 in
    let b = same_from_test r.block s.block p.0 in
    let h = hop_from_test r.hop s.hop q.0 in
    let n = eqb-true r.pref s.pref q.1 in
    λ i. record { block = b i; hop = h i; pref = n i }

pub route_itself : (r : Route) → same_route r r ≡ true
route_itself r =
    let b = test_from_same r.block r.block refl in
    let h = same_itself r.hop in
    rw b (rw h (eq-eqb r.pref r.pref refl))

-- a route of N is held by M, or missing
pub held_or_missing : (M N : List Route) (r : Route) → In r N → In r M ⊎ In r (missing M N)
held_or_missing M N r i = ⊎_elim
    (λ e. let t = In-from_list_any (λ s. same_route s r) M e in inl (subst (λ (u : Route). In u M) (route_from_test t.0 r t.2) t.1))
    (λ e. inr (In-filter (λ u. not (list_any (λ s. same_route s u) M)) N r i (ap not e)))
    (cases_Bool (list_any (λ s. same_route s r) M))

pub missing_back : (M N : List Route) (r : Route) → In r (missing M N) → In r N × (In r M → ⊥)
missing_back M N r i =
    let t = In-from_filter (λ u. not (list_any (λ s. same_route s u) M)) N r i in
    (t.0, λ j. let f = ap not (list_any-from_In (λ s. same_route s r) M r j (route_itself r)) in let g = t.1 in cc)

-- a route of M has a block that N stores, or is left over
pub stored_or_surplus : (M N : List Route) (r : Route) → In r M → ((s : Route) × In s N × (s.block ≡ r.block)) ⊎ In r (surplus M N)
stored_or_surplus M N r i = ⊎_elim
    (λ e. let t = In-from_list_any (λ s. same_block s.block r.block) N e in inl (t.0, t.1, same_from_test (Route.block t.0) r.block t.2))
    (λ e. inr (In-filter (λ s. not (is_stored N s.block)) M r i (ap not e)))
    (cases_Bool (is_stored N r.block))

pub surplus_back : (M N : List Route) (r : Route) → In r (surplus M N) → In r M × ((s : Route) → In s N → s.block ≡ r.block → ⊥)
surplus_back M N r i =
    let t = In-from_filter (λ s. not (is_stored N s.block)) M r i in
    (t.0, λ s j e. let f = ap not (list_any-from_In (λ s. same_block s.block r.block) N s j (test_from_same s.block r.block e)) in let g = t.1 in cc)

-- ---- the way

module _ (N : List Route) (new : IsTable N) where
  -- all of N is there, and the rest is to be removed, ascending
  pub second : (K : List Route) (T : List Route) → IsTable T → ((s : Route) → In s N → In s T) → ((s : Route) → In s T → In s N ⊎ In s K) → Rising Sooner K
      → ((s : Route) → In s K → IsBlock s.block × ((u : Route) → In u N → u.block ≡ s.block → ⊥)) → Leads N T (removes K)
  second [] T table holds only up apart =
      let e = same_rising Sooner (λ s u. strict s.block u.block) T N (rising T table) (rising N new)
      (λ s i. ⊎_elim (λ j. j) (λ j. absurd j) (only s i)) holds in
      (e, λ x a. ap (λ M. hop_at M x) e)
  second (k ∷ K) T table holds only up apart =
      let here = apart k (inl refl) in
      let rest = second K (without_block T k.block) (left_is_table T table k.block)
      (λ s i. left_other T table k.block s (holds s i) (here.1 s i))
      (λ s i. let t = left_back T table k.block s i in ⊎_elim (λ j. inl j) (λ j. ⊎_elim (λ e. absurd (t.1 (ap Route.block e))) (λ j. inr j) j) (only s t.0))
      up.1 (λ s i. apart s (inr i)) in (
        rest.0,
        λ x a. (
          remove_turns N new T table x a k.block here.0 here.1 holds (λ s i l. ⊎_elim (λ j. j) (λ j. absurd (⊎_elim
              (λ e. before_apart s.block k.block l (ap Route.block e))
              (λ j. strict s.block k.block l (up.0 s j)) j)) (only s i)),
          rest.1 x a,
        ),
      )

  module _ (M : List Route) (old : IsTable M) where
    -- each route of N is there or yet to come, descending, and what is there is of M or of N
    pub first : (L : List Route) (T : List Route) → IsTable T → ((s : Route) → In s N → In s T ⊎ In s L) → ((s : Route) → In s T → In s M ⊎ In s N) → Rising Later L
        → ((s : Route) → In s L → In s N) → Leads N T (installs L ++ removes (surplus M N))
    first [] T table holds only down come = second (surplus M N) T table there
        (λ s i. ⊎_elim
        (λ j. ⊎_elim (λ t. inl (subst (λ (u : Route). In u N) (same_in T table t.0 s (there t.0 t.1) i t.2) t.1)) (λ k. inr k) (stored_or_surplus M N s j))
        (λ j. inl j) (only s i))
        (Rising-kept Sooner (λ r. not (is_stored N r.block)) M (rising M old))
        (λ s i. let t = surplus_back M N s i in (block_in M old s t.0, t.1))
      where
        there : (s : Route) → In s N → In s T
        there s i = ⊎_elim (λ j. j) (λ j. absurd j) (holds s i)
    first (r ∷ L) T table holds only down come =
        let i = come r (inl refl) in
        let ok = block_in N new r i in
        let rest = first L (with_route T r) (with_one N new T table r i)
        (λ s j. ⊎_elim (λ k. inl (kept s j i ok k)) (λ k. ⊎_elim (λ e. inl (subst (λ (u : Route). In u (with_route T r)) (sym e) (put_itself Route.block T r))) (λ k. inr k) k) (holds s j))
        (λ s j. ⊎_elim (λ e. inr (subst (λ (u : Route). In u N) (sym e) i)) (λ t. only s t.0) (put_back Route.block T r s j))
        down.1 (λ s j. come s (inr j)) in (
          rest.0,
          λ x a. (
            install_turns N new T table x a r i (λ s j l. ⊎_elim (λ k. k) (λ k. absurd (⊎_elim
                (λ e. before_apart r.block s.block l (ap Route.block (sym e)))
                (λ k. strict r.block s.block l (down.0 s k)) k)) (holds s j)),
            rest.1 x a,
          ),
        )
      where
        kept : (s : Route) → In s N → In r N → IsBlock r.block → In s T → In s (with_route T r)
        kept s j i ok k = ⊎_elim
            (λ e. subst (λ (u : Route). In u (with_route T r)) (sym (same_in N new s r j i e)) (put_itself Route.block T r))
            (λ f. put_other Route.block T r s k f)
            (same_or_not s.block r.block)

    pub leads : Leads N M (between M N)
    leads = first (reverse (missing M N)) M old
        (λ s i. ⊎_elim (λ j. inl j) (λ j. inr (In-reverse (missing M N) s j)) (held_or_missing M N s i))
        (λ s i. inl i)
        (falls (missing M N) (Rising-kept Sooner (λ u. not (list_any (λ s. same_route s u) M)) N (rising N new)))
        (λ s i. (missing_back M N s (reverse_In (missing M N) s i)).0)

pub between_reaches : (M N : List Route) → IsTable M → IsTable N → after_all M (between M N) ≡ N
between_reaches M N old new = (leads N new M old).0

pub between_hitless : (M N : List Route) → IsTable M → IsTable N → IsHitless M (between M N)
between_hitless M N old new = hitless_from M (between M N) (λ x a. (hop_at N x, (leads N new M old).1 x a))

pub after-append : (M : List Route) (os ps : List Operation) → after_all M (os ++ ps) ≡ after_all (after_all M os) ps
after-append M [] ps = refl
after-append M (o ∷ os) ps = after-append (after M o) os ps

-- ---- none are fewer, and changes take few

-- a route that was not there is installed
pub is_installed : (M : List Route) (L : List Operation) (r : Route) → In r (after_all M L) → In r M ⊎ In (Install r) L
is_installed M [] r i = inl i
is_installed M (Install s ∷ L) r i = ⊎_elim
    (λ j. ⊎_elim (λ e. inr (inl (ap Install e))) (λ t. inl t.0) (put_back Route.block M s r j))
    (λ j. inr (inr j)) (is_installed (after M (Install s)) L r i)
is_installed M (Remove b ∷ L) r i = ⊎_elim
    (λ j. inl (gone_back Route.block M b r j).0)
    (λ j. inr (inr j)) (is_installed (after M (Remove b)) L r i)

-- a block that is there no more is removed
pub is_removed : (M : List Route) (L : List Operation) (r : Route) → In r M → ((s : Route) → In s (after_all M L) → s.block ≡ r.block → ⊥) → In (Remove r.block) L
is_removed M [] r i none = absurd (none r i refl)
is_removed M (Install s ∷ L) r i none = ⊎_elim
    (λ e. inr (subst (λ (b : Block). In (Remove b) L) (sym e) (is_removed (after M (Install s)) L s (put_itself Route.block M s) (λ u j f. none u j (f ∙ sym e)))))
    (λ f. inr (is_removed (after M (Install s)) L r (put_other Route.block M s r i f) none))
    (same_or_not r.block s.block)
is_removed M (Remove b ∷ L) r i none = ⊎_elim
    (λ e. inl (ap Remove e))
    (λ f. inr (is_removed (after M (Remove b)) L r (gone_other Route.block M b r i f) none))
    (same_or_not r.block b)

-- what an operation between two tables is
abbrev pub IsOne : List Route → List Route → Operation → Type 0
IsOne M N o = ((r : Route) × (In r N × (In r M → ⊥)) × (o ≡ Install r)) ⊎ ((r : Route) × (In r M × ((s : Route) → In s N → s.block ≡ r.block → ⊥)) × (o ≡ Remove r.block))

pub is_one : (M N : List Route) (o : Operation) → In o (between M N) → IsOne M N o
is_one M N o i = ⊎_elim
    (λ j. let t = In-map Install (reverse (missing M N)) o j in inl (t.0, missing_back M N t.0 (reverse_In (missing M N) t.0 t.1), t.2))
    (λ j. let t = In-map (λ r. Remove (Route.block r)) (surplus M N) o j in inr (t.0, surplus_back M N t.0 t.1, t.2))
    (In-cases o (installs (reverse (missing M N))) (removes (surplus M N)) i)

-- installs come before removes
abbrev Comes : Operation → Operation → Type 0
Comes (Install r) (Install s) = Later r s
Comes (Install r) (Remove c) = Unit {0}
Comes (Remove b) (Install s) = ⊥
Comes (Remove b) (Remove c) = IsBefore b c

comes_strict : (o p : Operation) → Comes o p → Comes p o → ⊥
comes_strict (Install r) (Install s) h k = strict s.block r.block h k
comes_strict (Install r) (Remove c) h k = k
comes_strict (Remove b) (Install s) h k = h
comes_strict (Remove b) (Remove c) h k = strict b c h k

module _ (M N : List Route) (old : IsTable M) (new : IsTable N) where
  pub each : Distinct (between M N)
  each = Distinct-from_Rising Comes comes_strict (between M N) (Rising-joined Comes _ _
      (Rising-map Later Comes Install (λ r s h. h) (reverse (missing M N)) (falls (missing M N) (Rising-kept Sooner _ N (rising N new))))
      (Rising-map Sooner Comes (λ r. Remove (Route.block r)) (λ r s h. h) (surplus M N) (Rising-kept Sooner _ M (rising M old)))
      (λ o p i j. let t = In-map Install (reverse (missing M N)) o i in let u = In-map (λ r. Remove (Route.block r)) (surplus M N) p j in
      subst (λ (q : Operation). Comes q p) (sym t.2) (subst (λ (q : Operation). Comes (Install t.0) q) (sym u.2) tt)))

  pub fewest : (L : List Operation) → after_all M L ≡ N → length (between M N) ≤ length L
  fewest L e = no_more (λ o p. o ≡ p) (between M N) L each
      (λ o i.
      let inside : In o L = ⊎_elim
      (λ t. rw t.2 (⊎_elim (λ k. absurd (t.1.1 k)) (λ k. k) (is_installed M L t.0 (rw e t.1.0))))
      (λ t. rw t.2 (is_removed M L t.0 t.1.0 (λ s k f. t.1.1 s (rw e at k) f)))
      (is_one M N o i) in
      (o, inside, refl))
      (λ o p q i j f g. f ∙ sym g)

-- ---- the operations of changes

-- the block of an operation
abbrev pub touched : Operation → Block
touched (Install r) = r.block
touched (Remove b) = b

-- no block has two operations
pub one_each : (M N : List Route) → IsTable N → (o p : Operation) → In o (between M N) → In p (between M N) → touched o ≡ touched p → o ≡ p
one_each M N new o p i j e = go (is_one M N o i) (is_one M N p j)
  where
    same : {b c : Block} → touched o ≡ b → touched p ≡ c → b ≡ c
    same f g = sym f ∙ e ∙ g

    go : IsOne M N o → IsOne M N p → o ≡ p
    go (inl t) (inl u) = t.2 ∙ ap Install (same_in N new t.0 u.0 t.1.0 u.1.0 (same (ap touched t.2) (ap touched u.2))) ∙ sym u.2
    go (inl t) (inr u) = absurd (u.1.1 t.0 t.1.0 (same (ap touched t.2) (ap touched u.2)))
    go (inr t) (inl u) = absurd (t.1.1 u.0 u.1.0 (sym (same (ap touched t.2) (ap touched u.2))))
    go (inr t) (inr u) = t.2 ∙ ap Remove (same (ap touched t.2) (ap touched u.2)) ∙ sym u.2

module _ (M : List Route) (r : Route) (m : IsTable M) (ok : IsBlock r.block) where
  painted_back : (s : Route) → In s (painted M r) → (s ≡ r) ⊎ In s M
  painted_back s = cond_both _ _ _ (λ N. In s N → (s ≡ r) ⊎ In s M)
      (λ e j. inr (outside_back Route.block M (routes_placed M m) r.block ok s j).0)
      (λ e j. ⊎_elim (λ q. inl q) (λ t. inr t.0) (over_back Route.block M (routes_placed M m) r ok s j))

  painted_other : (s : Route) → In s M → (IsInside s.block r.block → ⊥) → In s (painted M r)
  painted_other s i f = cond_both _ _ _ (In s)
      (λ e. outside_other Route.block M (routes_placed M m) r.block ok s i f) (λ e. over_other Route.block M (routes_placed M m) r ok s i f)

  counted : IsHop r.hop → length (between M (painted M r)) ≤ 1 + length (strictly_inside M r.block)
  counted hop =
      let new = painted_is_table M m r ok hop in
      let l : length (between M (painted M r)) ≤ suc (length (strictly_inside M r.block)) =
      no_more (λ o (s : Route). touched o ≡ s.block) (between M (painted M r)) (r ∷ strictly_inside M r.block) (each M (painted M r) m new)
      (λ o i. at o (is_one M (painted M r) o i))
      (λ o p s i j e f. one_each M (painted M r) new o p i j (e ∙ sym f)) in
      omega (arith, l)
    where
      at : (o : Operation) → IsOne M (painted M r) o → (s : Route) × In s (r ∷ strictly_inside M r.block) × (touched o ≡ s.block)
      at o (inl t) = (r, inl refl, ap touched t.2 ∙ ⊎_elim (λ e. ap Route.block e) (λ j. absurd (t.1.1 j)) (painted_back t.0 t.1.0))
      at o (inr t) = ⊎_elim
          (λ e. (r, inl refl, ap touched t.2 ∙ e))
          (λ f. ⊎_elim
          (λ h.
          let s = In-filter (λ s. is_inside s.block r.block && not (same_block s.block r.block)) M t.0 t.1.0
          (and_from _ _ (test_from_inside _ _ (block_in M m t.0 t.1.0) ok h) (not_from _ (λ e. f (same_from_test _ _ e)))) in
          (t.0, inr s, ap touched t.2))
          (λ h. absurd (t.1.1 t.0 (painted_other t.0 t.1.0 h) refl))
          (decide_inside (Route.block t.0) r.block (block_in M m t.0 t.1.0) ok))
          (same_or_not (Route.block t.0) r.block)

-- from M by the changed table, and not straight on, it takes no fewer
pub counted_all : (M rs : List Route) → IsTable M → Changes rs → length (between M (painted_all M rs)) ≤ most_operations M rs
counted_all M [] m c = fewest M M m m [] refl
counted_all M (r ∷ rs) m c =
    let k = c r (inl refl) in
    let p = painted_is_table M m r k.0 k.1 in
    let rest : Changes rs = λ s i. c s (inr i) in
    let all = painted_all_is_table (painted M r) rs p rest in
    let first = between M (painted M r) in
    let then = between (painted M r) (painted_all (painted M r) rs) in
    omega (
      arith,
      fewest M (painted_all (painted M r) rs) m all (first ++ then)
          (after-append M first then ∙ ap (λ T. after_all T then) (between_reaches M (painted M r) m p) ∙ between_reaches (painted M r) (painted_all (painted M r) rs) p all),
      length-append first then,
      counted M r m k.0 k.1,
      counted_all (painted M r) rs p rest,
    )

-- ---- nearest tables and the fewest operations

pub nearest_is_fewest : NearestIsFewest
nearest_is_fewest M h N m n = record {
  hops = rw (between_reaches M N m n.hops.table) n.hops;
  fewest = λ L g. omega (arith, n.nearest (after_all M L) g, fewest M (after_all M L) m g.table L refl);
}

pub fewest_is_nearest : FewestIsNearest
fewest_is_nearest M h os m f = record {
  hops = f.hops;
  nearest = λ L g. omega (arith, fewest M (after_all M os) m f.hops.table os refl, f.fewest (between M L) (rw (between_reaches M L m g.table) g));
}

pub nearest_is_bounded : NearestIsBounded
nearest_is_bounded M rs N m c n =
    let k = changes_from rs c in
    omega (arith, n.nearest (painted_all M rs) (record { table = painted_all_is_table M rs m k; same = λ x a. refl }), counted_all M rs m k)

-- ---- the empty table

from_nothing : (N : List Route) → length (between [] N) ≡ length N
from_nothing N = ap length (append-nil (installs (reverse (missing [] N)))) ∙ length-map (reverse (missing [] N)) Install ∙ length-reverse (missing [] N)
    ∙ ap length (all_kept (λ r. not (is_held [] r)) N (λ r i. refl))

pub least_is_nearest : LeastIsNearest
least_is_nearest h N = (
  (λ l. record { hops = l.hops; nearest = λ L g. omega (arith, l.fewest L g, from_nothing N, from_nothing L) }),
  (λ n. record { hops = n.hops; fewest = λ L g. omega (arith, n.nearest L g, from_nothing N, from_nothing L) }),
)
