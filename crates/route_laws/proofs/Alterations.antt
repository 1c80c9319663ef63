-- What a table holds after a change of one route, the longest matches then, and the hops that change.
use Rattle.std.proofs.Common.{◌≡◌, ◌⊎◌, ⊎_elim, not, List, sym, subst, inl, inr, true, cond, ◌∷◌, filter, Option, Some, None, refl, ap, ◌∙◌, Contains, ◌≢◌, ◌↔◌, arith, ℕ, false, []}
use Rattle.ipnet_blocks.specs.Blocks.{Block, IsBlock, same_block, IsInside, is_before, is_inside, HasAddress, host}
use Rattle.ipnet_addr.proofs.Members.{In, In-right}
use Rattle.route_choices.specs.Hops.{IsHop, number_of}
use Rattle.route_laws.specs.Tables.{Route, IsTable, with_route, without_block, covering, longer, longest, match_of, hop_at, Changed, match_number, is_stored, Governed}
use Rattle.route_laws.proofs.Insides.{Sound, rising, sound, table_kept, table_of, same_parts, host_inside}
pub use Rattle.route_laws.proofs.Insides.{Sooner}
use Rattle.route_laws.proofs.Matches.{none_or_some, put_back, put_itself, put_other, put_rises, gone_back, gone_other, not_cases, not_from, same_or_not, put_gone, block_in, no_match, match_meets, match_from, inside_from_test, best_of, covers_in, in_covers, longer_cases, none_from, governed_match, match_of_own}
use Rattle.std.proofs.lemmas.Bool.{eq-eqb, eqb-true, cond_both, cases_Bool, cond-true, cond-false}
use Rattle.ipnet_addr.proofs.Ascending.{In-from_Contains, Contains-from_In}
use Rattle.ipnet_blocks.specs.Maximal.{IsMaximal, maximal_of}
use Rattle.ipnet_blocks.proofs.Search.{search_is_maximal}
use Rattle.route_laws.specs.Changes.{changed, same_number}
use Rattle.ipnet_blocks.proofs.Unions.{maximal_same, maximal_none}
use Rattle.ipnet_addr.specs.Addresses.{Family, Address, IsAddress, same_family}
use Rattle.ipnet_addr.proofs.Families.{family_from_test}
use Rattle.ipnet_blocks.proofs.BlockTests.{test_from_same}
use Rattle.ipnet_blocks.proofs.Parents.{larger_is_shorter}
use Rattle.ipnet_blocks.proofs.Maximals.{host_is_block, has_host, member_is_address}
use Rattle.ipnet_addr.proofs.Basics.{list_any-from_In}

module _ (M : List Route) (table : IsTable M) where
  module _ (r : Route) (ok : IsBlock r.block) where
    pub added_is_table : IsHop r.hop → IsTable (with_route M r)
    added_is_table hop = table_of (with_route M r) (λ s i. ⊎_elim (λ e. subst Sound (sym e) (ok, hop)) (λ t. sound M table s t.0) (put_back Route.block M r s i)) (put_rises Route.block M r (rising M table))

  module _ (n : Block) where
    pub left_back : (s : Route) → In s (without_block M n) → In s M × (s.block ≡ n → ⊥)
    left_back s i = gone_back Route.block M n s i

    pub left_other : (s : Route) → In s M → (s.block ≡ n → ⊥) → In s (without_block M n)
    left_other s i not_it = gone_other Route.block M n s i not_it

    pub left_is_table : IsTable (without_block M n)
    left_is_table = table_kept (λ s. not (same_block s.block n)) M table

pub members_after_add : (M : List Route) (r s : Route) → IsTable M → IsBlock r.block → Contains (with_route M r) s ↔ ((s ≡ r) ⊎ (Contains M s × (s.block ≢ r.block)))
members_after_add M r s m ok = (
  (λ c. ⊎_elim (λ e. inl e) (λ t. inr (Contains-from_In M s t.0, t.1)) (put_back Route.block M r s (In-from_Contains (with_route M r) s c))),
  (λ c. Contains-from_In (with_route M r) s (⊎_elim
      (λ e. subst (λ (t : Route). In t (with_route M r)) (sym e) (put_itself Route.block M r))
      (λ t. put_other Route.block M r s (In-from_Contains M s t.0) t.1) c)),
)

pub members_after_del : (M : List Route) (n : Block) (s : Route) → IsTable M → Contains (without_block M n) s ↔ (Contains M s × (s.block ≢ n))
members_after_del M n s m = (
  (λ c. let t = left_back M m n s (In-from_Contains (without_block M n) s c) in (Contains-from_In M s t.0, t.1)),
  (λ t. Contains-from_In (without_block M n) s (left_other M m n s (In-from_Contains M s t.0) t.1)),
)

module _ (M : List Route) (r : Route) (n : Block) (m : IsTable M) (table : IsTable (with_route M r)) (is : IsBlock n) where
  ok : IsBlock r.block
  ok = block_in (with_route M r) table r (In-right r (filter (λ s. is_before s.block r.block) M) (r ∷ filter (λ s. is_before r.block s.block) M) (inl refl))

  -- where the new route contains the block: the longest of it and of those that contained the block
  contained : IsInside n r.block → match_of (with_route M r) n ≡ Some (longer r (match_of M n))
  contained h =
      let best = best_of (r ∷ covering M n) in
      let itself : longer r (match_of M n) ≡ r → In (longer r (match_of M n)) (with_route M r) = λ e. rw e (put_itself Route.block M r) in
      match_from (with_route M r) table n is (longer r (match_of M n)) (record {
        member = Contains-from_In (with_route M r) (longer r (match_of M n)) (⊎_elim itself (λ l. ⊎_elim itself
            (λ i. put_other Route.block M r (longer r (match_of M n)) (in_covers M m n is (longer r (match_of M n)) i).0 (λ q. let w = ap Block.len q in omega (arith, l.1, w))) best.0)
            (longer_cases r (match_of M n)));
        holds = ⊎_elim (λ e. subst (λ (s : Route). IsInside n s.block) (sym e) h) (λ i. (in_covers M m n is (longer r (match_of M n)) i).1) best.0;
        longest = λ s c k. best.1 s (⊎_elim (λ e. inl e) (λ t. inr (covers_in M m n is s t.0 k)) (put_back Route.block M r s (In-from_Contains (with_route M r) s c)));
      })

  -- where it doesn't, the same routes contain the block
  apart : (is_inside n r.block ≡ true → ⊥) → match_of (with_route M r) n ≡ match_of M n
  apart out = ap longest (same_parts (λ s. is_inside n s.block) (with_route M r) M table m
      (λ s i e. ⊎_elim (λ q. absurd (out (ap (λ (t : Route). is_inside n t.block) (sym q) ∙ e))) (λ t. t.0) (put_back Route.block M r s i))
      (λ s i e. put_other Route.block M r s i (λ q. out (ap (is_inside n) (sym q) ∙ e))))

  pub match_after_add : match_of (with_route M r) n ≡ cond (is_inside n r.block) (Some (longer r (match_of M n))) (match_of M n)
  match_after_add = cond_both (is_inside n r.block) (Some (longer r (match_of M n))) (match_of M n) (λ o. match_of (with_route M r) n ≡ o)
      (λ e. contained (inside_from_test n r.block is ok e)) (λ e. apart (λ f. let g = e in cc))

pub match_after_del : (M : List Route) (n b : Block) → IsTable M → IsBlock n → ((r : Route) → match_of M n ≡ Some r → r.block ≢ b) → match_of (without_block M b) n ≡ match_of M n
match_after_del M n b m is other = ⊎_elim
    (λ e. none_from (without_block M b) table n is (λ s i. no_match M m n is e s (left_back M m b s i).0) ∙ sym e)
    (λ t.
    let k = match_meets M m n is t.0 t.1 in
    match_from (without_block M b) table n is t.0 (record {
      member = Contains-from_In (without_block M b) t.0 (left_other M m b t.0 (In-from_Contains M t.0 k.member) (other t.0 t.1));
      holds = k.holds;
      longest = λ s c j. k.longest s (Contains-from_In M s (left_back M m b s (In-from_Contains (without_block M b) s c)).0) j;
    }) ∙ sym t.1)
    (none_or_some (match_of M n))
  where
    table : IsTable (without_block M b)
    table = left_is_table M m b

-- ---- the list that a change prints: the maximal blocks of the addresses whose hop differs, as a fact and not as a test

pub same_from_test : (o p : Option ℕ) → same_number o p ≡ true → o ≡ p
same_from_test None None e = refl
same_from_test None (Some j) e = absurd (cc)
same_from_test (Some k) None e = absurd (cc)
same_from_test (Some k) (Some j) e = ap (λ n. Some n) (eqb-true k j e)

pub same_itself : (o : Option ℕ) → same_number o o ≡ true
same_itself None = refl
same_itself (Some k) = eq-eqb k k refl

pub changed_is_maximal : (M N : List Route) → IsMaximal (Changed M N) (maximal_of (changed M N))
changed_is_maximal M N = maximal_same (λ x. changed M N x ≡ true) (Changed M N)
    (λ x a e q. not_cases (same_number (hop_at M x) (hop_at N x)) e (ap (same_number (hop_at M x)) (sym q) ∙ same_itself (hop_at M x)))
    (λ x a d. not_from (same_number (hop_at M x) (hop_at N x)) (λ e. d (same_from_test (hop_at M x) (hop_at N x) e)))
    (maximal_of (changed M N)) (search_is_maximal (changed M N))

-- ---- which hops an added route changes, and one that is taken out

-- two tables with the same routes of all blocks but n
abbrev pub SameBut : List Route → List Route → Block → Type 0
SameBut M N n = (s : Route) → (s.block ≡ n → ⊥) → In s M ↔ In s N

added_same : (M : List Route) (r : Route) → SameBut M (with_route M r) r.block
added_same M r s f = ((λ i. put_other Route.block M r s i f), (λ i. ⊎_elim (λ e. absurd (f (ap Route.block e))) (λ t. t.0) (put_back Route.block M r s i)))

-- n governs the same in both
governed_from : (M N : List Route) (n : Block) → ((s : Route) → (s.block ≡ n → ⊥) → In s N → In s M) → (x : Address) → Governed M n x → Governed N n x
governed_from M N n back x g = record {
  inside = g.inside;
  free = λ u c l h. g.free u (Contains-from_In M u (back u (λ e. l.1 (λ y k. subst (λ (b : Block). HasAddress b y) (sym e) k)) (In-from_Contains N u c))) l h;
}

pub governed_after : (M : List Route) (r : Route) → IsTable M → IsBlock r.block → (x : Address) → Governed (with_route M r) r.block x ↔ Governed M r.block x
governed_after M r m _ x = (
  governed_from (with_route M r) M r.block (λ s f. (added_same M r s f).0) x,
  governed_from M (with_route M r) r.block (λ s f. (added_same M r s f).1) x,
)

-- the match of an address that is the route of a block: the block governs the address
governed_by_match : (M : List Route) (m : IsTable M) (n : Block) (ok : IsBlock n) (x : Address) (a : IsAddress x) (s : Route) → match_of M (host x) ≡ Some s → s.block ≡ n → Governed M n x
governed_by_match M m n ok x a s e f =
    let k = match_meets M m (host x) (host_is_block x a) s e in
    record {
      inside = subst (λ (b : Block). HasAddress b x) f (k.holds x (has_host x));
      free = λ u c l h.
          let q = k.longest u c (host_inside x u.block h) in
          let p = larger_is_shorter n u.block ok (block_in M m u (In-from_Contains M u c)) l in
          let w = ap Block.len f in
          omega arith;
    }

-- ---- what a change of one block changes

pub no_blocks : (S : Address → Type 0) → ((x : Address) → IsAddress x → S x → ⊥) → IsMaximal S []
no_blocks S none = maximal_same (λ x. ⊥) S (λ x a e. absurd e) none [] (maximal_none (λ x. ⊥) (λ x e. e))

-- the routes of other blocks stay; and the match of an address, which n governs else
pub record IsChange (M N : List Route) (n : Block) : Type 0 where
  pub table : IsTable N
  pub others : SameBut M N n
  pub stays : (x : Address) → IsAddress x → (match_of N (host x) ≡ match_of M (host x)) ⊎ Governed M n x

module _ (M N : List Route) (n : Block) (m : IsTable M) (ok : IsBlock n) (c : IsChange M N n) where
  now : (x : Address) → IsAddress x → Governed M n x → match_of N (host x) ≡ match_of N n
  now x a g = governed_match N c.table n ok x a (governed_from M N n (λ s f. (c.others s f).1) x g)

  -- o is the number at the block's match after the change
  module _ (o : Option ℕ) (at : match_number (match_of N n) ≡ o) where
    pub changed_by : (x : Address) → IsAddress x → Changed M N x ↔ (Governed M n x × (match_number (match_of M n) ≢ o))
    changed_by x a = (
      (λ d. ⊎_elim (λ e. absurd (d (ap match_number (sym e))))
          (λ g. (g, λ z. d (ap match_number (governed_match M m n ok x a g) ∙ z ∙ sym (ap match_number (now x a g) ∙ at)))) (c.stays x a)),
      (λ t e. t.1 (ap match_number (sym (governed_match M m n ok x a t.0)) ∙ e ∙ ap match_number (now x a t.0) ∙ at)),
    )

    pub blocks_by : (bs : List Block) → IsMaximal (Governed M n) bs
        → ((match_number (match_of M n) ≢ o) → IsMaximal (Changed M N) bs) × (match_number (match_of M n) ≡ o → IsMaximal (Changed M N) [])
    blocks_by bs t = (
      (λ d. maximal_same (Governed M n) (Changed M N) (λ x a g. (changed_by x a).1 (g, d)) (λ x a k. ((changed_by x a).0 k).0) bs t),
      (λ e. no_blocks (Changed M N) (λ x a k. ((changed_by x a).0 k).1 e)),
    )

    -- all lines of the change carry one hop
    pub lines_by : (d : Block) → Contains (maximal_of (changed M N)) d → (x : Address) → HasAddress d x → hop_at N x ≡ o
    lines_by d k x h =
        let w = (((changed_is_maximal M N).exact d).0 k).within in
        let a = member_is_address d x w.block h in
        ap match_number (now x a ((changed_by x a).0 (w.all x h)).0) ∙ at

  -- the routes of another family stay, and so do the hops of its addresses
  pub family_apart : ((f : Family) → (n.family ≡ f → ⊥) → filter (λ s. same_family s.block.family f) N ≡ filter (λ s. same_family s.block.family f) M)
      × ((x : Address) → IsAddress x → (x.family ≡ n.family → ⊥) → hop_at N x ≡ hop_at M x)
  family_apart = (
    (λ f apart.
        let far = λ (s : Route) (e : same_family s.block.family f ≡ true) (q : s.block ≡ n).
        apart (ap Block.family (sym q) ∙ family_from_test s.block.family f e) in
        same_parts (λ s. same_family s.block.family f) N M c.table m (λ s i e. (c.others s (far s e)).1 i) (λ s i e. (c.others s (far s e)).0 i)),
    (λ x a apart. ⊎_elim (λ e. ap match_number e) (λ g. absurd (apart g.inside.0)) (c.stays x a)),
  )

-- ---- one route more, or one less

module _ (M : List Route) (m : IsTable M) where
  module _ (r : Route) (ok : IsBlock r.block) (hop : IsHop r.hop) where
    new : IsTable (with_route M r)
    new = added_is_table M m r ok hop

    -- the match of an address stays; or it is the route, whose block governs the address
    pub added_match : (x : Address) → IsAddress x → (match_of (with_route M r) (host x) ≡ match_of M (host x)) ⊎ (Governed M r.block x × (match_of (with_route M r) (host x) ≡ Some r))
    added_match x a =
        let m' = match_after_add M r (host x) m new (host_is_block x a) in
        ⊎_elim
        (λ b. let e = m' ∙ cond-true (is_inside (host x) r.block) (Some (longer r (match_of M (host x)))) (match_of M (host x)) b in ⊎_elim
        (λ q. let f : match_of (with_route M r) (host x) ≡ Some r = e ∙ ap (λ (s : Route). Some s) q in inr ((governed_after M r m ok x).0 (governed_by_match (with_route M r) new r.block ok x a r f refl), f))
        (λ t. inl (e ∙ t.0)) (longer_cases r (match_of M (host x))))
        (λ b. inl (m' ∙ cond-false (is_inside (host x) r.block) (Some (longer r (match_of M (host x)))) (match_of M (host x)) b))
        (cases_Bool (is_inside (host x) r.block))

    pub added_change : IsChange M (with_route M r) r.block
    added_change = record { table = new; others = added_same M r; stays = λ x a. ⊎_elim (λ e. inl e) (λ t. inr t.0) (added_match x a) }

    -- its match then is the route
    pub added_number : match_number (match_of (with_route M r) r.block) ≡ number_of r.hop
    added_number = ap match_number (match_of_own (with_route M r) new r (put_itself Route.block M r))

  module _ (n : Block) (ok : IsBlock n) where
    -- the match of an address stays, or the block governs the address
    pub left_match : (x : Address) → IsAddress x → (match_of (without_block M n) (host x) ≡ match_of M (host x)) ⊎ Governed M n x
    left_match x a = ⊎_elim
        (λ e. inl (match_after_del M (host x) n m (host_is_block x a) (λ s q f. let p = sym e ∙ q in cc)))
        (λ s. ⊎_elim
        (λ f. inr (governed_by_match M m n ok x a s.0 s.1 f))
        (λ f. inl (match_after_del M (host x) n m (host_is_block x a) (λ t q g. let p = sym s.1 ∙ q in let same : s.0 ≡ t = cc in f (ap Route.block same ∙ g))))
        (same_or_not s.0.block n))
        (none_or_some (match_of M (host x)))

    pub left_change : IsChange M (without_block M n) n
    left_change = record { table = left_is_table M m n; others = λ s f. ((λ i. left_other M m n s i f), (λ i. (left_back M m n s i).0)); stays = left_match }

-- a new route that is taken out again
pub restored : (M : List Route) (r : Route) → IsTable M → is_stored M r.block ≡ false → without_block (with_route M r) r.block ≡ M
restored M r m none = put_gone Route.block M r (rising M m) (λ s i q. let h = list_any-from_In (λ (s : Route). same_block s.block r.block) M s i (test_from_same s.block r.block q) in cc)
