-- The routes of a table inside one block, and tables inside two blocks apart.
use Rattle.std.proofs.Common.{◌≡◌, ℕ, ◌+◌, ◌<◌, ◌≤◌, inl, inr, ⊎_elim, Bool, true, cond, List, [], ◌∷◌, ◌++◌, length, filter, ◌⊎◌, MatchOption, Option, Some, None, refl, sym, ap, ◌∙◌, subst, lt-ltb, ◌-◌, ◌/◌, ◌^◌, arith, length-append, ◌≢◌, ◌↔◌, IfSome}
use Rattle.std.proofs.lemmas.Bool.{eqb-true, cond_both, cond-false, false_from_ne_true, and_parts, cases_lt}
use Rattle.ipnet_addr.specs.Addresses.{Address, IsAddress, Family, Ipv4, Ipv6, rank, width}
use Rattle.ipnet_addr.proofs.Members.{In, In-cases, In-left, In-right}
use Rattle.ipnet_addr.proofs.Ascending.{In-from_All, All-from_In, Rising, Rising-from_pairs, pairs_from_Rising, same_rising}
use Rattle.ipnet_blocks.specs.Blocks.{Block, IsBlock, HasAddress, IsInside, IsBefore, is_inside, host, family_block, first_of, free_bits, IsLarger, left, right}
use Rattle.ipnet_blocks.proofs.BlockLaws.{strict, has_first, longer_inside, same_sets}
use Rattle.ipnet_blocks.proofs.Maximals.{host_is_block, has_host, in_host, member_is_address}
use Rattle.route_choices.specs.Hops.{IsHop, number_of, hop_from}
use Rattle.route_choices.proofs.Kept.{Rising-kept, Rising-joined, length-apart, In-filter, In-from_filter}
use Rattle.route_laws.specs.Fewest.{inherited, hop_under, GivesInside, IsFewest, LeastIsFewest, AreHops}
use Rattle.route_laws.specs.Tables.{Route, IsTable, covering, longer, longest, match_of, hop_at, match_number}
use Rattle.route_laws.proofs.Matches.{AtLeast, best_of, inside_from_test, test_from_inside, one_of_block, same_or_not, before_apart, before_inner}
use Rattle.ipnet_addr.proofs.Families.{family_from_test}
use Rattle.ipnet_blocks.proofs.Search.{whole_is_block, inside_whole, left_is_block, right_is_block, left_inside, right_inside, in_a_half, address_in_a_half, leaf_address, halves_in_order}
use Rattle.std.proofs.Math.Nat.{div-eq_of_lt}
use Rattle.route_laws.specs.LeastTables.{HasHops, IsLeast}
use Rattle.ipnet_blocks.proofs.Parents.{larger_is_shorter}
use Rattle.ipnet_blocks.specs.Halves.{IsLesser}

abbrev pub Sooner : Route → Route → Type 0
Sooner r s = IsBefore r.block s.block

abbrev pub Sound : Route → Type 0
Sound r = IsBlock r.block × IsHop r.hop

pub rising : (M : List Route) → IsTable M → Rising Sooner M
rising M t = Rising-from_pairs Sooner M t.ascending

pub sound : (M : List Route) → IsTable M → (r : Route) → In r M → Sound r
sound M t r i = (In-from_All (λ s. IsBlock s.block) M t.blocks r i, In-from_All (λ s. IsHop s.hop) M t.hops r i)

-- two routes of a table with one block are one
pub same_in : (M : List Route) → IsTable M → (r s : Route) → In r M → In s M → r.block ≡ s.block → r ≡ s
same_in M t = one_of_block Route.block M (rising M t)

pub table_of : (M : List Route) → ((r : Route) → In r M → Sound r) → Rising Sooner M → IsTable M
table_of M k up = record {
  blocks = All-from_In (λ s. IsBlock s.block) M (λ s i. (k s i).0);
  hops = All-from_In (λ s. IsHop s.hop) M (λ s i. (k s i).1);
  ascending = pairs_from_Rising Sooner M up;
}

pub empty_is_table : IsTable []
empty_is_table = table_of [] (λ r i. absurd i) tt

-- what passes a test, of a table
pub table_kept : (p : Route → Bool) (M : List Route) → IsTable M → IsTable (filter p M)
table_kept p M t = table_of (filter p M) (λ r i. sound M t r (In-from_filter p M r i).0) (Rising-kept Sooner p M (rising M t))

-- of two tables whose routes that pass are the same
pub same_parts : (p : Route → Bool) (M N : List Route) → IsTable M → IsTable N → ((r : Route) → In r M → p r ≡ true → In r N) → ((r : Route) → In r N → p r ≡ true → In r M) → filter p M ≡ filter p N
same_parts p M N m n f g = same_rising Sooner (λ r s. strict r.block s.block) (filter p M) (filter p N) (Rising-kept Sooner p M (rising M m)) (Rising-kept Sooner p N (rising N n))
    (λ r i. let t = In-from_filter p M r i in In-filter p N r (f r t.0 t.1) t.1)
    (λ r i. let t = In-from_filter p N r i in In-filter p M r (g r t.0 t.1) t.1)

-- a host block is inside each block that has its address
pub host_inside : (x : Address) (b : Block) → HasAddress b x → IsInside (host x) b
host_inside x b h y k = subst (λ (z : Address). HasAddress b z) (sym (in_host x y k)) h

module _ (x : Address) (a : IsAddress x) where
  abbrev pub holds : Route → Bool
  holds r = is_inside (host x) r.block

  pub has_from_test : (r : Route) → IsBlock r.block → holds r ≡ true → HasAddress r.block x
  has_from_test r p e = inside_from_test (host x) r.block (host_is_block x a) p e x (has_host x)

  pub test_from_has : (r : Route) → IsBlock r.block → HasAddress r.block x → holds r ≡ true
  test_from_has r p h = test_from_inside (host x) r.block (host_is_block x a) p (host_inside x r.block h)

  -- the match of an address in two tables whose routes with it are the same
  pub same_match : (M N : List Route) → IsTable M → IsTable N → ((r : Route) → In r M → HasAddress r.block x → In r N) → ((r : Route) → In r N → HasAddress r.block x → In r M) → match_of M (host x) ≡ match_of N (host x)
  same_match M N m n f g = ap longest (same_parts holds M N m n
      (λ r i e. f r i (has_from_test r (sound M m r i).0 e)) (λ r i e. g r i (has_from_test r (sound N n r i).0 e)))

-- a second test that passes whatever the first does changes nothing
pub filter_again : {A : Type 0} (p q : A → Bool) (xs : List A) → ((a : A) → In a xs → q a ≡ true → p a ≡ true) → filter q (filter p xs) ≡ filter q xs
filter_again p q [] h = refl
filter_again p q (x ∷ xs) h =
    let rest = filter_again p q xs (λ a i. h a (inr i)) in
    cond_both (p x) (x ∷ filter p xs) (filter p xs) (λ ys. filter q ys ≡ filter q (x ∷ xs)) (λ e. ap (λ ys. cond (q x) (x ∷ ys) ys) rest)
    (λ e. rest ∙ sym (cond-false (q x) (x ∷ filter q xs) (filter q xs) (false_from_ne_true (q x) (λ f. let g = h x (inl refl) f in cc))))

-- the routes of a table that lie in the block
abbrev pub within : Block → List Route → List Route
within b M = filter (λ r. is_inside r.block b) M

module _ (b : Block) (ok : IsBlock b) (M : List Route) (table : IsTable M) where
  -- where each route that holds an address of the block lies in the block, these alone give its hops
  pub within_gives : (h : Address → Option ℕ) (s : Option ℕ)
      → ((x : Address) → HasAddress b x → (r : Route) → In r M → HasAddress r.block x → IsInside r.block b)
      → ((x : Address) → HasAddress b x → hop_under s M x ≡ h x) → GivesInside h b s (within b M)
  within_gives h s lies same = record {
    table = table_kept (λ r. is_inside r.block b) M table;
    inside = All-from_In (λ r. IsInside r.block b) (within b M) (λ r i.
        let t = In-from_filter (λ q. is_inside q.block b) M r i in inside_from_test r.block b (sound M table r t.0).0 ok t.1);
    same = λ x m.
        let a = member_is_address b x ok m in
        ap (λ N. inherited s (longest N)) (filter_again (λ r. is_inside r.block b) (holds x a) M (λ r i e.
        let p = (sound M table r i).0 in test_from_inside r.block b p ok (lies x m r i (has_from_test x a r p e))))
        ∙ same x m;
  }

-- a route that holds the address hands its hop down to the longer routes
pub under_route : (r : Route) (M : List Route) (s : Option ℕ) (x : Address) → IsAddress x → IsBlock r.block → HasAddress r.block x
    → ((q : Route) → In q M → Block.len r.block < Block.len q.block) → hop_under s (r ∷ M) x ≡ hop_under (number_of r.hop) M x
under_route r M s x a p m longer_than = rw (test_from_has x a r p m) (go (longest (covering M (host x))) (best_of (covering M (host x))))
  where
    go : (o : Option Route) → MatchOption o ((q : Route) → In q (covering M (host x)) → ⊥) (λ q. AtLeast q (covering M (host x))) → inherited s (Some (longer r o)) ≡ inherited (number_of r.hop) o
    go None b = refl
    go (Some q) b = rw (lt-ltb r.block.len q.block.len (longer_than q (In-from_filter (holds x a) M q b.0).0))

-- two blocks: no address and no block lies in both, and the blocks of the one come before those of the other
module _ (c d : Block) (okc : IsBlock c) (okd : IsBlock d)
    (apart : (b : Block) → is_inside b c ≡ true → is_inside b d ≡ true → ⊥)
    (separate : (x : Address) → HasAddress c x → HasAddress d x → ⊥)
    (order : (a b : Block) → IsInside a c → IsInside b d → IsBefore a b) where
  pub few : (M : List Route) → length (within c M) + length (within d M) ≤ length M
  few M = length-apart (λ (r : Route). is_inside r.block c) (λ (r : Route). is_inside r.block d) M (λ r. apart r.block)

  module _ (h : Address → Option ℕ) (s : Option ℕ) (L N : List Route) (gl : GivesInside h c s L) (gn : GivesInside h d s N) where
    lies_c : (r : Route) → In r L → IsInside r.block c
    lies_c r i = In-from_All (λ q. IsInside q.block c) L gl.inside r i

    lies_d : (r : Route) → In r N → IsInside r.block d
    lies_d r i = In-from_All (λ q. IsInside q.block d) N gn.inside r i

    pub joined_table : IsTable (L ++ N)
    joined_table = table_of (L ++ N)
        (λ r i. ⊎_elim (λ j. sound L gl.table r j) (λ j. sound N gn.table r j) (In-cases r L N i))
        (Rising-joined Sooner L N (rising L gl.table) (rising N gn.table) (λ r q i j. order r.block q.block (lies_c r i) (lies_d q j)))

    -- in each the hops are those of its own table
    pub joined_first : (x : Address) → HasAddress c x → hop_under s (L ++ N) x ≡ h x
    joined_first x m = ap (inherited s) (same_match x (member_is_address c x okc m) (L ++ N) L joined_table gl.table
        (λ r i k. ⊎_elim (λ j. j) (λ j. absurd (separate x m (lies_d r j x k))) (In-cases r L N i)) (λ r i k. In-left r L N i)) ∙ gl.same x m

    pub joined_second : (x : Address) → HasAddress d x → hop_under s (L ++ N) x ≡ h x
    joined_second x m = ap (inherited s) (same_match x (member_is_address d x okd m) (L ++ N) N joined_table gn.table
        (λ r i k. ⊎_elim (λ j. absurd (separate x (lies_c r j x k) m)) (λ j. j) (In-cases r L N i)) (λ r i k. In-right r L N i)) ∙ gn.same x m

    pub joined_gives : (b : Block) → IsInside c b → IsInside d b → ((x : Address) → HasAddress b x → (HasAddress c x) ⊎ (HasAddress d x)) → GivesInside h b s (L ++ N)
    joined_gives b u v either = record {
      table = joined_table;
      inside = All-from_In (λ r. IsInside r.block b) (L ++ N) (λ r i. ⊎_elim (λ j x m. u x (lies_c r j x m)) (λ j x m. v x (lies_d r j x m)) (In-cases r L N i));
      same = λ x m. ⊎_elim (joined_first x) (joined_second x) (either x m);
    }

-- ---- least tables, from those of the two families

-- tables with equal hops have the same least tables
pub hops_moved : (g h : Address → Option ℕ) → ((x : Address) → IsAddress x → g x ≡ h x) → (N : List Route) → HasHops g N → HasHops h N
hops_moved g h same N k = record { table = k.table; same = λ x a. k.same x a ∙ same x a }

pub least_too : (g h : Address → Option ℕ) → ((x : Address) → IsAddress x → g x ≡ h x) → (N : List Route) → IsLeast g N → IsLeast h N
least_too g h same N k = record { hops = hops_moved g h same N k.hops; fewest = λ L l. k.fewest L (hops_moved h g (λ x a. sym (same x a)) L l) }

families_apart : Ipv4 ≡ Ipv6 → ⊥
families_apart e = let r = ap rank e in absurd (omega arith)

pub family_tested : (a b : Block) → is_inside a b ≡ true → a.family ≡ b.family
family_tested a b e = family_from_test a.family b.family (and_parts _ _ (and_parts _ _ e).0).0

pub apart : (b : Block) → is_inside b (family_block Ipv4) ≡ true → is_inside b (family_block Ipv6) ≡ true → ⊥
apart b e f = families_apart (sym (family_tested b (family_block Ipv4) e) ∙ family_tested b (family_block Ipv6) f)

pub separate : (x : Address) → HasAddress (family_block Ipv4) x → HasAddress (family_block Ipv6) x → ⊥
separate x h k = families_apart (sym h.0 ∙ k.0)

pub order : (a b : Block) → IsInside a (family_block Ipv4) → IsInside b (family_block Ipv6) → IsBefore a b
order a b h k =
    let f = ap rank (h (first_of a) (has_first a)).0 in
    let g = ap rank (k (first_of b) (has_first b)).0 in
    inl (omega arith)

pub in_family : (x : Address) → IsAddress x → HasAddress (family_block x.family) x
in_family x a = (refl, let z : width x.family - 0 ≡ width x.family = omega arith in ap (λ n. x.number / 2 ^ n) z ∙ div-eq_of_lt a)

pub hop_is : (N : List Route) (x : Address) → hop_under None N x ≡ hop_at N x
hop_is N x = elim (match_of N (host x)) as (λ o. inherited None o ≡ match_number o) [ None ↦ refl | Some r ↦ refl ]

-- the routes of one family give its addresses their hops
pub part_hops : (N : List Route) → IsTable N → (f : Family) (s : Option ℕ) → GivesInside (hop_under s N) (family_block f) s (within (family_block f) N)
part_hops N t f s = within_gives (family_block f) (whole_is_block f) N t (hop_under s N) s
    (λ x m r i k. inside_whole r.block f (sound N t r i).0 (sym k.0 ∙ m.0))
    (λ x m. refl)

pub part_gives : (h : Address → Option ℕ) (N : List Route) → HasHops h N → (f : Family) → GivesInside h (family_block f) None (within (family_block f) N)
part_gives h N g f =
    let p = part_hops N g.table f None in
    record { table = p.table; inside = p.inside; same = λ x m. p.same x m ∙ hop_is N x ∙ g.same x (member_is_address (family_block f) x (whole_is_block f) m) }

module _ (h : Address → Option ℕ) (L N : List Route) (gl : GivesInside h (family_block Ipv4) None L) (gn : GivesInside h (family_block Ipv6) None N) where
  pub both_have : HasHops h (L ++ N)
  both_have = record {
    table = joined_table (family_block Ipv4) (family_block Ipv6) (whole_is_block Ipv4) (whole_is_block Ipv6) apart separate order h None L N gl gn;
    same = λ x a. sym (hop_is (L ++ N) x) ∙ at x x.family (in_family x a);
  }
    where
      at : (x : Address) (f : Family) → HasAddress (family_block f) x → hop_under None (L ++ N) x ≡ h x
      at x Ipv4 k = joined_first (family_block Ipv4) (family_block Ipv6) (whole_is_block Ipv4) (whole_is_block Ipv6) apart separate order h None L N gl gn x k
      at x Ipv6 k = joined_second (family_block Ipv4) (family_block Ipv6) (whole_is_block Ipv4) (whole_is_block Ipv6) apart separate order h None L N gl gn x k

-- the fewest routes of both families, one after the other
pub least_of_families : (h : Address → Option ℕ) (L N : List Route) → GivesInside h (family_block Ipv4) None L → GivesInside h (family_block Ipv6) None N
    → IsFewest h (family_block Ipv4) None (length L) → IsFewest h (family_block Ipv6) None (length N) → IsLeast h (L ++ N)
least_of_families h L N gl gn a b = record {
  hops = both_have h L N gl gn;
  fewest = λ M g. omega (
    arith,
    length-append L N,
    few (family_block Ipv4) (family_block Ipv6) (whole_is_block Ipv4) (whole_is_block Ipv6) apart separate order M,
    a.least (within (family_block Ipv4) M) (part_gives h M g Ipv4),
    b.least (within (family_block Ipv6) M) (part_gives h M g Ipv6),
  );
}

module _ (h : Address → Option ℕ) (N : List Route) (least : IsLeast h N) where
  abbrev part : Family → List Route
  part f = within (family_block f) N

  gives : (f : Family) → GivesInside h (family_block f) None (part f)
  gives = part_gives h N least.hops

  parts : length (part Ipv4) + length (part Ipv6) ≤ length N
  parts = few (family_block Ipv4) (family_block Ipv6) (whole_is_block Ipv4) (whole_is_block Ipv6) apart separate order N

  -- no two tables of the families have fewer routes together
  none_fewer : (L R : List Route) → GivesInside h (family_block Ipv4) None L → GivesInside h (family_block Ipv6) None R → length N ≤ length L + length R
  none_fewer L R l r = omega (arith, least.fewest (L ++ R) (both_have h L R l r), length-append L R)

  fewest_in : (f : Family) (L : List Route) → GivesInside h (family_block f) None L → length (part f) ≤ length L
  fewest_in Ipv4 L l = omega (arith, parts, none_fewer L (part Ipv6) l (gives Ipv6))
  fewest_in Ipv6 L l = omega (arith, parts, none_fewer (part Ipv4) L (gives Ipv4) l)

pub least_is_fewest : LeastIsFewest
least_is_fewest h N least = (
  λ f. record { reached = (part h N least f, gives h N least f, refl); least = fewest_in h N least f },
  omega (arith, parts h N least, none_fewer h N least (part h N least Ipv4) (part h N least Ipv6) (gives h N least Ipv4) (gives h N least Ipv6)),
)

-- ---- the fewest routes inside a block, from those inside its halves

-- every route is strictly inside the block
abbrev Strict : Block → List Route → Type 0
Strict b M = (r : Route) → In r M → IsLarger b r.block

-- a route at the block of one hop
abbrev route_at : Block → Option ℕ → Route
route_at b k = record { block = b; hop = hop_from k; pref = 0 }

pub number_from_hop : (k : Option ℕ) → number_of (hop_from k) ≡ k
number_from_hop None = refl
number_from_hop (Some n) = refl

module _ (b : Block) (ok : IsBlock b) where
  -- a table inside the block is strictly inside it, or has one route at it and is strictly inside after that
  headed : (M : List Route) → IsTable M → ((r : Route) → In r M → IsInside r.block b)
      → (Strict b M) ⊎ ((r : Route) × (N : List Route) × (M ≡ r ∷ N) × (r.block ≡ b) × Strict b N)
  headed [] t lies = inl (λ r i. absurd i)
  headed (r ∷ N) t lies = ⊎_elim
      (λ e. inr (r, N, refl, e, λ q i. inner q (inr i) (λ f. before_apart r.block q.block (up.0 q i) (e ∙ f))))
      (λ n. let l = inner r (inl refl) (λ f. n (sym f)) in inl (λ q i. ⊎_elim
      (λ e. subst (λ (s : Route). IsLarger b s.block) (sym e) l)
      (λ j. inner q (inr j) (λ f. strict r.block q.block (up.0 q j) (subst (λ (c : Block). IsBefore c r.block) f (before_inner b r.block ok (sound (r ∷ N) t r (inl refl)).0 l)))) i))
      (same_or_not r.block b)
    where
      up : Rising Sooner (r ∷ N)
      up = rising (r ∷ N) t

      inner : (q : Route) → In q (r ∷ N) → (b ≡ q.block → ⊥) → IsLarger b q.block
      inner q i n = (lies q i, λ k. n (same_sets b q.block ok (sound (r ∷ N) t q i).0 k (lies q i)))

  -- the route at the block before a table strictly inside it
  pub own_gives : (h : Address → Option ℕ) (s k : Option ℕ) (N : List Route) → IsHop (hop_from k) → Strict b N → GivesInside h b k N → GivesInside h b s (route_at b k ∷ N)
  own_gives h s k N fits inner g = record {
    table = table_of (route_at b k ∷ N)
        (λ q i. ⊎_elim (λ e. subst (λ (r : Route). IsBlock r.block × IsHop r.hop) (sym e) (ok, fits)) (λ j. sound N g.table q j) i)
        ((λ q i. before_inner b q.block ok (sound N g.table q i).0 (inner q i)), rising N g.table);
    inside = All-from_In (λ r. IsInside r.block b) (route_at b k ∷ N) (λ q i. ⊎_elim (λ e. subst (λ (r : Route). IsInside r.block b) (sym e) (λ x m. m)) (λ j. (inner q j).0) i);
    same = λ x m.
        under_route (route_at b k) N s x (member_is_address b x ok m) ok m
        (λ q i. larger_is_shorter b q.block ok (sound N g.table q i).0 (inner q i))
        ∙ ap (λ j. hop_under j N x) (number_from_hop k) ∙ g.same x m;
  }

pub fits_hop : (k : Option ℕ) → IfSome k (λ j. j < 2 ^ 32) → IsHop (hop_from k)
fits_hop None f = tt
fits_hop (Some j) f = f

-- no address takes a hop that is too large: none serves as well
free_of_large : (h : Address → Option ℕ) → AreHops h → (b : Block) → IsBlock b → (j : ℕ) → 2 ^ 32 ≤ j → (N : List Route) → GivesInside h b (Some j) N → GivesInside h b None N
free_of_large h small b ok j large N g = record {
  table = g.table;
  inside = g.inside;
  same = λ x m. (elim (match_of N (host x)) as (λ o. inherited (Some j) o ≡ h x → inherited None o ≡ h x) [
    | None ↦ λ e. let l : j < 2 ^ 32 = rw (← e) at (small x (member_is_address b x ok m)) in absurd (omega (arith, l, large))
    | Some r ↦ λ e. e
  ]) (g.same x m);
}

quotient_tested : (a b : Block) → is_inside a b ≡ true → a.quotient / 2 ^ (a.len - b.len) ≡ b.quotient
quotient_tested a b e = eqb-true _ _ (and_parts _ _ e).1

module _ (h : Address → Option ℕ) (small : AreHops h) (b : Block) (ok : IsBlock b) (room : b.len < width b.family) (f g : Option ℕ → ℕ)
    (below : (k : Option ℕ) → IsFewest h (left b) k (f k)) (above : (k : Option ℕ) → IsFewest h (right b) k (g k)) where
  free : 0 < free_bits b
  free = omega (arith, room)

  okl : IsBlock (left b)
  okl = left_is_block b ok free

  okr : IsBlock (right b)
  okr = right_is_block b ok free

  halves_apart : (c : Block) → is_inside c (left b) ≡ true → is_inside c (right b) ≡ true → ⊥
  halves_apart c e d = absurd (omega (arith, quotient_tested c (left b) e, quotient_tested c (right b) d))

  halves_separate : (x : Address) → HasAddress (left b) x → HasAddress (right b) x → ⊥
  halves_separate x u v = absurd (omega (arith, u.1, v.1))

  -- a table strictly inside the block, in its halves
  halves_need : (k : Option ℕ) (N : List Route) → IsTable N → Strict b N → ((x : Address) → HasAddress b x → hop_under k N x ≡ h x) → f k + g k ≤ length N
  halves_need k N t inner same =
      let in_left = within_gives (left b) okl N t h k (λ x m r i held. ⊎_elim (λ j. j) (λ j. absurd (halves_separate x m (j x held))) (in_a_half b ok free r.block (sound N t r i).0 (inner r i))) (λ x m. same x (left_inside b ok free x m)) in
      let in_right = within_gives (right b) okr N t h k (λ x m r i held. ⊎_elim (λ j. absurd (halves_separate x (j x held) m)) (λ j. j) (in_a_half b ok free r.block (sound N t r i).0 (inner r i))) (λ x m. same x (right_inside b ok free x m)) in
      omega (arith, few (left b) (right b) okl okr halves_apart halves_separate (halves_in_order b) N, (below k).least (within (left b) N) in_left, (above k).least (within (right b) N) in_right)

  -- what a table needs
  abbrev Needs : Option ℕ → ℕ → Type 0
  Needs s n = (f s + g s ≤ n) ⊎ ((k : Option ℕ) × (f k + g k + 1 ≤ n))

  needs : (s : Option ℕ) (u : List Route) → GivesInside h b s u → Needs s (length u)
  needs s u gives = ⊎_elim (λ inner. inl (halves_need s u gives.table inner gives.same)) (λ w. inr (own w.0 w.1 w.2 w.3 w.4)) (headed b ok u gives.table (λ r i. In-from_All (λ (q : Route). IsInside q.block b) u gives.inside r i))
    where
      own : (r : Route) (N : List Route) → u ≡ r ∷ N → r.block ≡ b → Strict b N → (k : Option ℕ) × (f k + g k + 1 ≤ length u)
      own r N e at inner =
          let t : IsTable (r ∷ N) = subst (λ M. IsTable M) e gives.table in
          let tail : IsTable N = table_of N (λ q i. sound (r ∷ N) t q (inr i)) (rising (r ∷ N) t).1 in
          let okb : IsBlock r.block = (sound (r ∷ N) t r (inl refl)).0 in
          let same : (x : Address) → HasAddress b x → hop_under (number_of r.hop) N x ≡ h x = λ x m.
          sym (under_route r N s x (member_is_address b x ok m) okb (subst (λ (c : Block). HasAddress c x) (sym at) m)
          (λ q i. subst (λ (c : Block). Block.len c < Block.len q.block) (sym at) (larger_is_shorter b q.block ok (sound N tail q i).0 (inner q i))))
          ∙ ap (λ M. hop_under s M x) (sym e) ∙ gives.same x m in
          (number_of r.hop, omega (arith, halves_need (number_of r.hop) N tail inner same, ap length e))

  -- a block inside one half is strictly inside the whole
  larger : (c : Block) → IsBlock c → IsInside c b → c.len ≡ b.len + 1 → b.family ≡ c.family → (q : Block) → IsInside q c → IsLarger b q
  larger c okc up len fam q into = ((λ x m. up x (into x m)), λ k. absurd (omega (arith, longer_inside b c okc fam (λ x m. into x (k x m)), len)))

  -- a table of the whole, of the halves' tables under s
  under_same : (s : Option ℕ) → (t : List Route) × GivesInside h b s t × (length t ≡ f s + g s) × Strict b t
  under_same s =
      let l = (below s).reached in
      let r = (above s).reached in (
        l.0 ++ r.0,
        joined_gives (left b) (right b) okl okr halves_apart halves_separate (halves_in_order b) h s l.0 r.0 l.1 r.1 b (left_inside b ok free) (right_inside b ok free) (address_in_a_half b ok free),
        length-append l.0 r.0 ∙ omega (arith, l.2, r.2),
        λ q i. ⊎_elim
            (λ j. larger (left b) okl (left_inside b ok free) refl refl q.block (In-from_All (λ (p : Route). IsInside p.block (left b)) l.0 (GivesInside.inside l.1) q j))
            (λ j. larger (right b) okr (right_inside b ok free) refl refl q.block (In-from_All (λ (p : Route). IsInside p.block (right b)) r.0 (GivesInside.inside r.1) q j))
            (In-cases q l.0 r.0 i),
      )

  -- and with one more route, of those under any hop
  with_own : (s k : Option ℕ) → IsHop (hop_from k) → (t : List Route) × GivesInside h b s t × (length t ≤ f k + g k + 1)
  with_own s k fits = let u = under_same k in (route_at b k ∷ u.0, own_gives b ok h s k u.0 fits u.3 u.1, omega (arith, u.2))

  -- a hop that is too large serves no better than none
  under_other : (s k : Option ℕ) → (t : List Route) × GivesInside h b s t × (length t ≤ f k + g k + 1)
  under_other s None = with_own s None tt
  under_other s (Some j) = ⊎_elim (with_own s (Some j))
      (λ large.
      let u = with_own s None tt in
      let l = (below (Some j)).reached in
      let r = (above (Some j)).reached in
      let low = (below None).least l.0 (free_of_large h small (left b) okl j large l.0 l.1) in
      let high = (above None).least r.0 (free_of_large h small (right b) okr j large r.0 r.1) in
      (u.0, u.1, omega (arith, u.2, l.2, r.2, low, high)))
      (cases_lt j (2 ^ 32))

  pub from_lesser : (s : Option ℕ) (n : ℕ) → IsLesser f g s n → IsFewest h b s n
  from_lesser s n l = record {
    reached = ⊎_elim (λ e. let u = under_same s in (u.0, u.1, u.2 ∙ sym e)) (λ p. let u = under_other s p.0 in (u.0, u.1, omega (arith, u.2, p.1, no_less (needs s u.0 u.1)))) l.reached;
    least = λ u gives. no_less (needs s u gives);
  }
    where
      no_less : {m : ℕ} → Needs s m → n ≤ m
      no_less (inl e) = omega (arith, e, l.under_s)
      no_less (inr p) = omega (arith, p.1, l.under_any p.0)

  pub to_lesser : (s : Option ℕ) (n : ℕ) → IsFewest h b s n → IsLesser f g s n
  to_lesser s n l =
      let same : n ≤ f s + g s = (let u = under_same s in omega (arith, l.least u.0 u.1, u.2)) in
      let any : (k : Option ℕ) → n ≤ f k + g k + 1 = λ k. let u = under_other s k in omega (arith, l.least u.0 u.1, u.2) in
      record {
        reached = ⊎_elim (λ e. inl (omega (arith, e, l.reached.2, same))) (λ p. inr (p.0, omega (arith, p.1, l.reached.2, any p.0))) (needs s l.reached.0 l.reached.1);
        under_s = same;
        under_any = any;
      }

-- the block of one address
module _ (h : Address → Option ℕ) (small : AreHops h) (b : Block) (ok : IsBlock b) (whole : b.len ≡ width b.family) where
  empty : (s : Option ℕ) → h (first_of b) ≡ s → GivesInside h b s []
  empty s e = record {
    table = empty_is_table;
    inside = All-from_In (λ (r : Route). IsInside r.block b) [] (λ r i. absurd i);
    same = λ x m. sym e ∙ ap h (leaf_address b (omega (arith, whole)) x m);
  }

  one : (s : Option ℕ) → GivesInside h b s (route_at b (h (first_of b)) ∷ [])
  one s = own_gives b ok h s (h (first_of b)) [] (fits_hop (h (first_of b)) (small (first_of b) (member_is_address b (first_of b) ok (has_first b)))) (λ r i. absurd i) (empty (h (first_of b)) refl)

  none_or_one : (s : Option ℕ) (u : List Route) → GivesInside h b s u → (h (first_of b) ≡ s) ⊎ (1 ≤ length u)
  none_or_one s [] gives = inl (sym (gives.same (first_of b) (has_first b)))
  none_or_one s (r ∷ u) gives = inr (omega arith)

  pub fewest_of_host : (s : Option ℕ) (n : ℕ) → IsFewest h b s n ↔ (((h (first_of b) ≡ s) × (n ≡ 0)) ⊎ ((h (first_of b) ≢ s) × (n ≡ 1)))
  fewest_of_host s n = (
    (λ l. ⊎_elim (λ e. inl (e, omega (arith, l.least [] (empty s e))))
        (λ m. inr ((λ p. absurd (omega (arith, m, l.reached.2, l.least [] (empty s p)))), omega (arith, m, l.reached.2, l.least (route_at b (h (first_of b)) ∷ []) (one s))))
        (none_or_one s l.reached.0 l.reached.1)),
    ⊎_elim (λ p. record { reached = ([], empty s p.0, sym p.1); least = λ u g. omega (arith, p.1) })
        (λ p. record { reached = (route_at b (h (first_of b)) ∷ [], one s, sym p.1); least = λ u g. ⊎_elim (λ e. absurd (p.0 e)) (λ m. omega (arith, m, p.1)) (none_or_one s u g) }),
  )
