-- One thing in the place of all those inside its block: its members, how it is made, and the hops of a table then.
use Rattle.std.proofs.Common.{◌≡◌, ◌<◌, ◌⊎◌, inl, inr, ⊎_elim, Bool, false, not, cond, List, [], ◌∷◌, filter, ℕ, Option, None, Some, IsTrue, true, refl, ◌↔◌, sym, ap, ◌∙◌, subst, arith, ◌-◌}
use Rattle.std.proofs.lemmas.Bool.{cond-false, false_from_ne_true, cond_both, cases_lt}
use Rattle.ipnet_addr.specs.Addresses.{Address, IsAddress}
use Rattle.ipnet_addr.proofs.Members.{In}
use Rattle.ipnet_addr.proofs.Ascending.{In-from_Contains, Contains-from_In, Rising, Rising-from_pairs, same_rising, All-from_In, In-from_All}
use Rattle.ipnet_blocks.specs.Blocks.{Block, IsBlock, HasAddress, IsInside, IsLarger, free_bits, is_inside, has_address, host, left, right, parent}
use Rattle.ipnet_blocks.proofs.BlockLaws.{numbers_from_inside, same_sets, strict}
use Rattle.ipnet_blocks.proofs.BlockTests.{has_from_test, test_from_has}
use Rattle.ipnet_blocks.proofs.Maximals.{host_is_block}
use Rattle.ipnet_blocks.proofs.Search.{left_is_block, right_is_block, left_inside, right_inside, in_a_half}
use Rattle.ipnet.specs.IpNets.{block}
use Rattle.ipnet.specs.declared.ip_net.IpNet.{IpNet}
use Rattle.route_choices.specs.Hops.{IsHop, number_of}
use Rattle.route_choices.specs.Choices.{Choice, default_preference}
use Rattle.route_choices.proofs.Kept.{Rising-kept, filter_map_swap, In-from_filter, In-filter, none_kept, same_kept}
use Rattle.route_laws.specs.Fewest.{inherited, hop_under}
use Rattle.route_laws.specs.Overwritten.{without_inside, overwritten}
use Rattle.route_laws.specs.Tables.{Route, IsTable, longer, longest, match_of, hop_at, with_route, match_number}
use Rattle.route_laws.proofs.Insides.{hop_is, Sooner, filter_again, has_from_test as held_from_test, table_kept}
use Rattle.route_laws.proofs.Alterations.{match_after_add, added_is_table, same_from_test}
use Rattle.route_laws.specs.Networks.{IsLeaf, Stored, IsStoredTable, best_route, networks_outside, overwritten_by, routes_of}
use Rattle.route_laws.proofs.Matches.{block_in, governed_match, inside_from_test, match_of_own, test_from_inside, bools_same, Earlier, put, put_back, put_itself, put_other, put_rises, not_cases, not_from, alone}
use Rattle.route_laws.proofs.Networks.{routes_with, stored_block, stored_kept}
use Rattle.std.proofs.lemmas.List.Elements.{All-map}
use Rattle.ipnet_blocks.specs.Maximal.{IsMaximal}
use Rattle.route_choices.specs.declared.hop.Hop.{Hop}
use Rattle.route_laws.specs.Painted.{AreChanges, changes_to, hop_over, painted, painted_all}
use Rattle.ipnet_blocks.proofs.Parents.{inside_parent, larger_is_shorter, parent_in_larger, parent_is_block}

-- a block is in none that is longer, as its halves are
not_in_longer : (b c : Block) → IsBlock b → IsBlock c → b.len < c.len → IsInside b c → ⊥
not_in_longer b c okb okc l i = absurd (omega (arith, l, (numbers_from_inside b c okb okc i).long))

-- a block inside itself
inside_itself : (a b : Block) → a ≡ b → IsInside a b
inside_itself a b e x h = subst (λ (c : Block). HasAddress c x) e h

-- things at blocks, ascending
module _ {X : Type 0} (at : X → Block) where
  pub record AreAt (M : List X) : Type 0 where
    pub blocks : (x : X) → In x M → IsBlock (at x)
    pub rising : Rising (Earlier at) M

  -- those that are not inside n
  abbrev pub outside : List X → Block → List X
  outside M n = filter (λ y. not (is_inside (at y) n)) M

  -- x in the place of all those inside its block
  abbrev pub over : List X → X → List X
  over M x = put at (outside M (at x)) x

  module _ (M : List X) (m : AreAt M) (n : Block) (ok : IsBlock n) where
    pub outside_back : (y : X) → In y (outside M n) → In y M × (IsInside (at y) n → ⊥)
    outside_back y i = let t = In-from_filter (λ y. not (is_inside (at y) n)) M y i in
        (t.0, λ h. not_cases (is_inside (at y) n) t.1 (test_from_inside (at y) n (m.blocks y t.0) ok h))

    pub outside_other : (y : X) → In y M → (IsInside (at y) n → ⊥) → In y (outside M n)
    outside_other y i f = In-filter (λ y. not (is_inside (at y) n)) M y i (not_from (is_inside (at y) n) (λ e. f (inside_from_test (at y) n (m.blocks y i) ok e)))

    pub outside_are : AreAt (outside M n)
    outside_are = record {
      blocks = λ y i. m.blocks y (outside_back y i).0;
      rising = Rising-kept (Earlier at) (λ y. not (is_inside (at y) n)) M m.rising;
    }

  module _ (M : List X) (m : AreAt M) (x : X) (ok : IsBlock (at x)) where
    pub put_are : AreAt (put at M x)
    put_are = record {
      blocks = λ y i. ⊎_elim (λ e. subst (λ (z : X). IsBlock (at z)) (sym e) ok) (λ t. m.blocks y t.0) (put_back at M x y i);
      rising = put_rises at M x m.rising;
    }

    -- the members
    pub over_back : (y : X) → In y (over M x) → (y ≡ x) ⊎ (In y M × (IsInside (at y) (at x) → ⊥))
    over_back y i = ⊎_elim (λ e. inl e) (λ t. inr (outside_back M m (at x) ok y t.0)) (put_back at (outside M (at x)) x y i)

    pub over_other : (y : X) → In y M → (IsInside (at y) (at x) → ⊥) → In y (over M x)
    over_other y i f = put_other at (outside M (at x)) x y (outside_other M m (at x) ok y i f) (λ e. f (inside_itself (at y) (at x) e))

    -- it is the one list with these members
    pub over_is : (N : List X) → AreAt N → ((y : X) → In y N → (y ≡ x) ⊎ (In y M × (IsInside (at y) (at x) → ⊥))) → In x N → ((y : X) → In y M → (IsInside (at y) (at x) → ⊥) → In y N) → N ≡ over M x
    over_is N t back itself other = same_rising (Earlier at) (λ y z. strict (at y) (at z)) N (over M x) t.rising (put_rises at (outside M (at x)) x (outside_are M m (at x) ok).rising)
        (λ y i. ⊎_elim (λ e. subst (λ (z : X). In z (over M x)) (sym e) (put_itself at _ x)) (λ u. over_other y u.0 u.1) (back y i))
        (λ y i. ⊎_elim (λ e. subst (λ (z : X). In z N) (sym e) itself) (λ u. other y u.0 u.1) (over_back y i))

    -- where nothing lies strictly inside its block
    pub over_leaf : ((y : X) → In y (put at M x) → IsLarger (at x) (at y) → ⊥) → put at M x ≡ over M x
    over_leaf leaf = over_is (put at M x) put_are
        (λ y i. ⊎_elim (λ e. inl e) (λ t. inr (t.0, λ l. leaf y i (l, λ k. t.1 (same_sets (at y) (at x) (m.blocks y t.0) ok l k)))) (put_back at M x y i))
        (put_itself at M x)
        (λ y i out. put_other at M x y i (λ e. out (inside_itself (at y) (at x) e)))

    module _ (h : 0 < free_bits (at x)) where
      okl : IsBlock (left (at x))
      okl = left_is_block (at x) ok h

      okr : IsBlock (right (at x))
      okr = right_is_block (at x) ok h

      low : AreAt (outside (put at M x) (left (at x)))
      low = outside_are (put at M x) put_are (left (at x)) okl

      abbrev emptied : List X
      emptied = outside (outside (put at M x) (left (at x))) (right (at x))

      kept : (y : X) → In y (put at M x) → (IsInside (at y) (left (at x)) → ⊥) → (IsInside (at y) (right (at x)) → ⊥) → In y emptied
      kept y i f g = outside_other (outside (put at M x) (left (at x))) low (right (at x)) okr y (outside_other (put at M x) put_are (left (at x)) okl y i f) g

      pub over_halves : emptied ≡ over M x
      over_halves = over_is emptied (outside_are (outside (put at M x) (left (at x))) low (right (at x)) okr)
          (λ y i.
          let t = outside_back (outside (put at M x) (left (at x))) low (right (at x)) okr y i in
          let u = outside_back (put at M x) put_are (left (at x)) okl y t.0 in
          ⊎_elim
          (λ e. inl e)
          (λ w. inr (w.0, λ l. ⊎_elim u.1 t.1 (in_a_half (at x) ok h (at y) (m.blocks y w.0) (l, λ k. w.1 (same_sets (at y) (at x) (m.blocks y w.0) ok l k)))))
          (put_back at M x y u.0))
          (kept x (put_itself at M x) (not_in_longer (at x) (left (at x)) ok okl (omega arith)) (not_in_longer (at x) (right (at x)) ok okr (omega arith)))
          (λ y i out. kept y (put_other at M x y i (λ e. out (inside_itself (at y) (at x) e)))
          (λ l. out (λ z k. left_inside (at x) ok h z (l z k)))
          (λ l. out (λ z k. right_inside (at x) ok h z (l z k))))

    -- the same, as the call makes it
    pub halves_overwritten : 0 < free_bits (at x) → (l u : IpNet) → block l ≡ left (at x) → block u ≡ right (at x) → (S L U : List X) → S ≡ put at M x → L ≡ outside S (block l) → U ≡ outside L (block u) → U ≡ over M x
    halves_overwritten h l u el eu S L U s q p =
        p ∙ ap (outside L) eu ∙ ap (λ T. outside T (right (at x))) (q ∙ ap (outside S) el ∙ ap (λ T. outside T (left (at x))) s)
        ∙ over_halves h

-- ---- tables

pub routes_placed : (M : List Route) → IsTable M → AreAt Route.block M
routes_placed M m = record { blocks = block_in M m; rising = Rising-from_pairs Sooner M m.ascending }

pub networks_placed : (T : List Stored) → IsStoredTable T → AreAt Stored.block T
networks_placed T t = record { blocks = stored_block T t; rising = Rising-from_pairs (Earlier Stored.block) T t.ascending }

-- the network that is put where nothing lies strictly inside
pub leaf_overwritten : (T : List Stored) → IsStoredTable T → (s : Stored) → IsBlock s.block → (S : List Stored) → S ≡ put Stored.block T s → IsLeaf S s.block → S ≡ over Stored.block T s
leaf_overwritten T t s ok S e leaf = e ∙ over_leaf Stored.block T (networks_placed T t) s ok (λ y i l. leaf y (Contains-from_In S y (subst (In y) (sym e) i)) l)

-- a network with another inside is no host
pub room_inside : (T : List Stored) → IsStoredTable T → (b : Block) → IsBlock b → (leaf : Bool) → IsTrue leaf ↔ IsLeaf T b → leaf ≡ false → 0 < free_bits b
room_inside T t b ok leaf h e = ⊎_elim (λ l. l) (λ n. absurd (let z = sym e ∙ h.1 (λ s c l. l.1 (alone b s.block (omega (arith, n)) l.0)) in cc)) (cases_lt 0 (free_bits b))

-- a part of a table of networks is one
pub outside_is_stored : (T : List Stored) → IsStoredTable T → (n : Block) → IsStoredTable (networks_outside T n)
outside_is_stored T t n = stored_kept T t (λ s. not (is_inside s.block n))

pub routes_overwritten : (T : List Stored) (b : Block) (c : Choice) → routes_of (overwritten_by T b c) ≡ overwritten (routes_of T) (record { block = b; hop = c.hop; pref = c.pref })
routes_overwritten T b c =
    routes_with (networks_outside T b) (record { block = b; choices = c ∷ [] })
    ∙ ap (λ M. with_route M (record { block = b; hop = c.hop; pref = c.pref })) (sym (filter_map_swap best_route (λ r. not (is_inside r.block b)) T))

module _ (M : List Route) (m : IsTable M) (r : Route) (ok : IsBlock r.block) where
  pub outside_is_table : IsTable (without_inside M r.block)
  outside_is_table = table_kept (λ s. not (is_inside s.block r.block)) M m

  pub over_is_table : IsHop r.hop → IsTable (overwritten M r)
  over_is_table = added_is_table (without_inside M r.block) outside_is_table r ok

  -- without the routes inside, the addresses outside have the match that they had
  pub outside_match : (x : Address) → IsAddress x → has_address r.block x ≡ false → match_of (without_inside M r.block) (host x) ≡ match_of M (host x)
  outside_match x a e = ap longest (filter_again (λ s. not (is_inside s.block r.block)) (λ s. is_inside (host x) s.block) M (λ s i f. not_from (is_inside s.block r.block) (λ g.
      let t = test_from_has r.block x (inside_from_test s.block r.block (block_in M m s i) ok g x (held_from_test x a s (block_in M m s i) f)) in cc)))

  -- an address of the block matches the new route then, and any other what it did
  pub over_match : IsHop r.hop → (x : Address) → IsAddress x → match_of (overwritten M r) (host x) ≡ cond (has_address r.block x) (Some r) (match_of M (host x))
  over_match hop x a = cond_both (has_address r.block x) (Some r) (match_of M (host x)) (λ o. match_of (overwritten M r) (host x) ≡ o)
      (λ e. governed_match (overwritten M r) (over_is_table hop) r.block ok x a (record {
        inside = has_from_test r.block x e;
        free = λ u c l k. ⊎_elim (λ f. l.1 (inside_itself r.block u.block (ap Route.block (sym f)))) (λ t. t.1 l.0) (over_back Route.block M (routes_placed M m) r ok u (In-from_Contains (overwritten M r) u c));
      }) ∙ match_of_own (overwritten M r) (over_is_table hop) r (put_itself Route.block (without_inside M r.block) r))
      (λ e. match_after_add (without_inside M r.block) r (host x) outside_is_table (over_is_table hop) (host_is_block x a)
      ∙ cond-false (is_inside (host x) r.block) (Some (longer r (match_of (without_inside M r.block) (host x)))) (match_of (without_inside M r.block) (host x))
      (false_from_ne_true (is_inside (host x) r.block) (λ f. let t = test_from_has r.block x (held_from_test x a r ok f) in cc))
      ∙ outside_match x a e)

  -- so if it inherits this hop or none from outside the table
  pub over_under : IsHop r.hop → (s : Option ℕ) (x : Address) → IsAddress x → hop_under s (overwritten M r) x ≡ cond (has_address r.block x) (number_of r.hop) (hop_under s M x)
  over_under hop s x a = ap (inherited s) (over_match hop x a)
      ∙ (elim (has_address r.block x)
      as (λ c. inherited s (cond c (Some r) (match_of M (host x))) ≡ cond c (number_of r.hop) (hop_under s M x))
      [ true ↦ refl | false ↦ refl ])

  pub over_hops : IsHop r.hop → (x : Address) → IsAddress x → hop_at (overwritten M r) x ≡ cond (has_address r.block x) (number_of r.hop) (hop_at M x)
  over_hops hop x a = sym (hop_is (overwritten M r) x) ∙ over_under hop None x a ∙ ap (cond (has_address r.block x) (number_of r.hop)) (hop_is M x)

-- ---- tables all of whose addresses of a block got one hop, by one change or by several

module _ (M : List Route) (m : IsTable M) (r : Route) (ok : IsBlock r.block) where
  -- what the routes outside hand down
  handed_down : (x : Address) → IsAddress x → HasAddress r.block x → match_of (without_inside M r.block) (host x) ≡ match_of (without_inside M r.block) r.block
  handed_down x a h = governed_match _ (outside_is_table M m r ok) r.block ok x a (record {
    inside = h;
    free = λ u c l k. (outside_back Route.block M (routes_placed M m) r.block ok u (In-from_Contains _ u c)).1 l.0;
  })

  pub painted_is_table : IsHop r.hop → IsTable (painted M r)
  painted_is_table hop = cond_both _ _ _ IsTable (λ e. outside_is_table M m r ok) (λ e. over_is_table M m r ok hop)

  pub painted_hops : IsHop r.hop → (x : Address) → IsAddress x → hop_at (painted M r) x ≡ cond (has_address r.block x) (number_of r.hop) (hop_at M x)
  painted_hops hop x a = cond_both _ _ _
      (λ N. hop_at N x ≡ cond (has_address r.block x) (number_of r.hop) (hop_at M x))
      (λ e. cond_both (has_address r.block x) (number_of r.hop) (hop_at M x) (λ o. hop_at (without_inside M r.block) x ≡ o)
      (λ f. ap match_number (handed_down x a (has_from_test r.block x f)) ∙ same_from_test _ _ e)
      (λ f. ap match_number (outside_match M m r ok x a f)))
      (λ e. over_hops M m r ok hop x a)

-- ---- several changes

-- changes by recursion
abbrev pub Changes : List Route → Type 0
Changes rs = (r : Route) → In r rs → IsBlock r.block × IsHop r.hop

pub changes_from : (rs : List Route) → AreChanges rs → Changes rs
changes_from rs c r i = (In-from_All (λ s. IsBlock s.block) rs c.blocks r i, In-from_All (λ s. IsHop s.hop) rs c.hops r i)

pub painted_all_is_table : (M rs : List Route) → IsTable M → Changes rs → IsTable (painted_all M rs)
painted_all_is_table M [] m c = m
painted_all_is_table M (r ∷ rs) m c =
    let k = c r (inl refl) in
    painted_all_is_table (painted M r) rs (painted_is_table M m r k.0 k.1) (λ s i. c s (inr i))

pub painted_all_hops : (M rs : List Route) → IsTable M → Changes rs → (x : Address) → IsAddress x → hop_at (painted_all M rs) x ≡ hop_over (hop_at M x) rs x
painted_all_hops M [] m c x a = refl
painted_all_hops M (r ∷ rs) m c x a =
    let k = c r (inl refl) in
    painted_all_hops (painted M r) rs (painted_is_table M m r k.0 k.1) (λ s i. c s (inr i)) x a
    ∙ ap (λ h. hop_over h rs x) (painted_hops M m r k.0 k.1 x a)

pub told_are_changes : (S : Address → Type 0) (bs : List Block) (hop : Hop) → IsMaximal S bs → IsHop hop → AreChanges (changes_to hop bs)
told_are_changes S bs hop m k = record {
  blocks = All-map (λ r. IsBlock r.block) (λ b. record { block = b; hop = hop; pref = default_preference }) bs (All-from_In IsBlock bs (λ b i. ((m.exact b).0 (Contains-from_In bs b i)).within.block));
  hops = All-map (λ r. IsHop r.hop) (λ b. record { block = b; hop = hop; pref = default_preference }) bs (All-from_In (λ b. IsHop hop) bs (λ b i. k));
}

-- ---- what the routes outside a block hand down is the match of its parent

module _ (M : List Route) (m : IsTable M) (b : Block) (ok : IsBlock b) where
  its_block : (s : Route) → In s (without_inside M b) → IsBlock s.block
  its_block s i = block_in M m s (In-from_filter (λ s. not (is_inside s.block b)) M s i).0

  -- a route outside the block that contains it is larger
  larger : (s : Route) → In s (without_inside M b) → is_inside b s.block ≡ true → IsLarger s.block b
  larger s i e = (
    inside_from_test b s.block ok (its_block s i) e,
    λ k. not_cases (is_inside s.block b) (In-from_filter (λ s. not (is_inside s.block b)) M s i).1 (test_from_inside s.block b (its_block s i) ok k),
  )

  pub inherited_from_parent : 0 < b.len → match_of (without_inside M b) b ≡ match_of M (parent b)
  inherited_from_parent l = ap longest (
      same_kept (λ s. is_inside b s.block) (λ s. is_inside (parent b) s.block) (without_inside M b) (λ s i. bools_same (is_inside b s.block) (is_inside (parent b) s.block)
      (λ e. test_from_inside (parent b) s.block up (its_block s i) (parent_in_larger s.block b (its_block s i) ok (larger s i e)))
      (λ e. test_from_inside b s.block ok (its_block s i) (λ x y. inside_from_test (parent b) s.block up (its_block s i) e x (inside_parent b ok l x y))))
      ∙ filter_again (λ s. not (is_inside s.block b)) (λ s. is_inside (parent b) s.block) M (λ s i e. not_from (is_inside s.block b) (λ f.
      let h = inside_from_test s.block b (block_in M m s i) ok f in
      let k = inside_from_test (parent b) s.block up (block_in M m s i) e in
      let n = (numbers_from_inside (parent b) b up ok (λ x y. h x (k x y))).long in
      let z : Block.len (parent b) ≡ b.len - 1 = refl in omega (arith, n, l))))
    where
      up : IsBlock (parent b)
      up = parent_is_block b ok l

  -- nothing is outside all addresses of a family
  pub inherited_from_none : b.len ≡ 0 → match_of (without_inside M b) b ≡ None
  inherited_from_none z = ap longest (none_kept (λ s. is_inside b s.block) (without_inside M b) (λ s i. false_from_ne_true (is_inside b s.block) (λ e.
      let l = larger_is_shorter s.block b (its_block s i) ok (larger s i e) in omega (arith, l, z))))
