-- Flat lists are the shortest admissible ones, and tell the hops.
use Rattle.std.proofs.Common.{◌≡◌, ◌∷◌, ℕ, ◌≤◌, ◌⊎◌, ◌↔◌, inl, inr, ⊎_elim, List, length, Option, Some, None, IsSome, refl, sym, ap, ◌∙◌, subst, ◌==◌, zero, suc, ◌+◌, ◌-◌, ◌*◌, ◌/◌, ◌<◌, [], ◌++◌, arith, Bool, filter, eq-eqb, eqb-true, ◌&&◌, not, true, false, cond, nat_lt, sum_by, length-append}
use Rattle.std.proofs.lemmas.Bool.{cases_eq, cond-true, eq-eqb, eqb-true, cond_both, and_parts, and_from, and_right, cases_lt, cond-false, lt-ltb, ltb-true, not_from_true}
use Rattle.std.proofs.lemmas.List.{length-map}
use Rattle.ipnet_addr.specs.Addresses.{width, Address, IsAddress, Family, Ipv4, Ipv6, rank, same_family}
use Rattle.ipnet_blocks.specs.Blocks.{Block, IsBlock, HasAddress, IsInside, IsBefore, IsAscending, host, first_of, free_bits, IsLarger, family_block, left, right, parent, has_address, is_inside}
use Rattle.ipnet_blocks.specs.Maximal.{IsWithin, IsMaximalBlock, IsMaximal}
use Rattle.ipnet_addr.proofs.Basics.{none_some, In-from_list_any, list_any-from_In}
use Rattle.ipnet_addr.proofs.Members.{In, Distinct, In-left, In-right, In-cases, no_more, one_or_all}
use Rattle.ipnet_addr.proofs.Ascending.{In-from_Contains, Contains-from_In, In-from_All, All-from_In, In-from_Any, Any-from_In, Rising, Rising-from_pairs, Distinct-from_Rising, same_rising, pairs_from_Rising}
use Rattle.ipnet_blocks.proofs.Cover.{Top, Covers, least, cover_in, in_cover}
use Rattle.ipnet_blocks.proofs.BlockLaws.{same_sets, nested, has_first, strict, numbers_from_inside}
use Rattle.ipnet_blocks.proofs.Parents.{climb, decide_inside, larger_is_shorter, parent_in_larger}
use Rattle.ipnet_blocks.proofs.Maximals.{host_is_block, in_host, has_host, member_is_address, maximal_is_top}
use Rattle.route_laws.specs.Flats.{Piece, IsFlat, blocks_of, HasOneHop, IsAdmissible, common, one_hop_in, flat_in, flat_of, piece_or}
use Rattle.std.proofs.lemmas.Option.{cond_some, none-some}
use Rattle.ipnet_blocks.proofs.Search.{left_is_block, right_is_block, left_inside, right_inside, in_a_half, address_in_a_half, halves_in_order, whole_is_block, inside_whole, leaf_address}
use Rattle.route_laws.proofs.Matches.{Rising-map, alone, none_or_some, no_members, same_or_not, not_cases, not_from, block_in, bools_same, inside_from_test, same_length, test_from_inside, governed_match}
use Rattle.route_choices.proofs.Kept.{map_In, In-map as In-from_map, Rising-joined, Rising-kept, In-from_filter, In-filter}
use Rattle.std.specs.List.{list_any}
use Rattle.std.proofs.lemmas.Bool.Decides.{nat_tests}
use Rattle.std.proofs.lemmas.List.Sums.{sum_by-cons, sum_by-le-sum_by}
use Rattle.ipnet_blocks.proofs.BlockTests.{has_from_test, test_from_has}
use Rattle.route_laws.specs.Bounds.{excess, pieces_in, lengths_in}
use Rattle.route_laws.specs.Tables.{Route, IsTable, Governed, hop_at, match_of, match_number}
use Rattle.ipnet_addr.proofs.Families.{family_from_test, test_from_family}

pub In-map : (p : Piece) (ps : List Piece) → In p ps → In (Piece.block p) (blocks_of ps)
In-map p ps = map_In Piece.block ps p

pub In-map_back : (b : Block) (ps : List Piece) → In b (blocks_of ps) → (p : Piece) × In p ps × (b ≡ p.block)
In-map_back b ps = In-from_map Piece.block ps b

abbrev pub Sooner : Piece → Piece → Type 0
Sooner p q = IsBefore p.block q.block

decide_number : (o : Option ℕ) (k : ℕ) → (o ≡ Some k) ⊎ (o ≡ Some k → ⊥)
decide_number None k = inr (λ e. cc)
decide_number (Some j) k = ⊎_elim (λ e. inl (ap (λ n. Some n) e)) (λ n. inr (λ e. n (cc))) (cases_eq j k)

-- maximal blocks with an address in common are one
pub maximal_one : (S : Address → Type 0) (b c : Block) → IsMaximalBlock S b → IsMaximalBlock S c → (x : Address) → HasAddress b x → HasAddress c x → b ≡ c
maximal_one S b c m n x h k = ⊎_elim (λ i. sym ((maximal_is_top S b m).1 c n.within i)) (λ i. (maximal_is_top S c n).1 b m.within i) (nested b c x m.within.block n.within.block h k)

module _ (h : Address → Option ℕ) where
  point : (b : Block) → HasOneHop h b → (x : Address) × HasAddress b x
  point b w = (first_of b, has_first b)

  nests : (a b : Block) (x : Address) → HasOneHop h a → HasOneHop h b → HasAddress a x → HasAddress b x → IsInside a b ⊎ IsInside b a
  nests a b x v w p q = nested a b x v.block w.block p q

  same : (a b : Block) → HasOneHop h a → HasOneHop h b → IsInside a b → IsInside b a → a ≡ b
  same a b v w p q = same_sets a b v.block w.block p q

  pub one_hop : (p : Piece) → IsMaximalBlock (λ x. h x ≡ Some p.number) p.block → HasOneHop h p.block
  one_hop p m = record { block = m.within.block; number = p.number; all = m.within.all }

  -- a maximal block of one number is a maximal block of one hop
  pub top_of : (p : Piece) → IsMaximalBlock (λ x. h x ≡ Some p.number) p.block → Top Block Address HasAddress (HasOneHop h) p.block
  top_of p m = (
    one_hop p m,
    λ c w i.
        let x = first_of p.block in
        let here : h x ≡ Some p.number = m.within.all x (has_first p.block) in
        let there : h x ≡ Some w.number = w.all x (i x (has_first p.block)) in
        let e : w.number ≡ p.number = cc in
        (maximal_is_top (λ x. h x ≡ Some p.number) p.block m).1 c (record { block = w.block; all = λ y k. subst (λ n. h y ≡ Some n) e (w.all y k) }) i,
  )

  pub tops : (ps : List Piece) → IsFlat h ps → (b : Block) → In b (blocks_of ps) → Top Block Address HasAddress (HasOneHop h) b
  tops ps f b i =
      let t = In-map_back b ps i in
      subst (λ (a : Block). Top Block Address HasAddress (HasOneHop h) a) (sym t.2) (top_of t.0 ((f.exact t.0).0 (Contains-from_In ps t.0 t.1)))

  rising : (ps : List Piece) → IsFlat h ps → Rising IsBefore (blocks_of ps)
  rising ps f = Rising-map Sooner IsBefore Piece.block (λ p q l. l) ps (Rising-from_pairs Sooner ps f.ascending)

  pub apart : (ps : List Piece) → IsFlat h ps → Distinct (blocks_of ps)
  apart ps f = Distinct-from_Rising IsBefore strict (blocks_of ps) (rising ps f)

  covers : (ps : List Piece) (bs : List Block) → IsFlat h ps → IsAdmissible h bs → Covers Block Address HasAddress (HasOneHop h) bs (blocks_of ps)
  covers ps bs f a = (
    In-from_All (HasOneHop h) bs a.one_hop,
    λ b x i m.
        let w = (tops ps f b i).0 in
        let e : h x ≡ Some w.number = w.all x m in
        In-from_Any (λ c. HasAddress c x) bs (a.covers x (member_is_address b x w.block m) (subst (λ (o : Option ℕ). IsSome o) (sym e) refl)),
  )

  pub flat_is_shortest : (ps : List Piece) (bs : List Block) → IsFlat h ps → IsAdmissible h bs → length ps ≤ length bs
  flat_is_shortest ps bs f a =
      subst (λ n. n ≤ length bs) (length-map ps Piece.block)
      (least Block Address HasAddress (HasOneHop h) point nests same (blocks_of ps) bs (apart ps f) (tops ps f) (covers ps bs f a))

  pub shortest_is_flat : (ps : List Piece) (bs : List Block) → IsFlat h ps → IsAdmissible h bs → IsAscending bs → length bs ≤ length ps → blocks_of ps ≡ bs
  shortest_is_flat ps bs f a up few =
      let few' : length bs ≤ length (blocks_of ps) = subst (λ n. length bs ≤ n) (sym (length-map ps Piece.block)) few in
      same_rising IsBefore strict (blocks_of ps) bs (rising ps f) (Rising-from_pairs IsBefore bs up)
      (in_cover Block Address HasAddress (HasOneHop h) point nests same (blocks_of ps) bs (apart ps f) (tops ps f) (covers ps bs f a) few')
      (cover_in Block Address HasAddress (HasOneHop h) point nests same (blocks_of ps) bs (apart ps f) (tops ps f) (covers ps bs f a) few')

  -- an address with a number lies in a piece of that number
  pub piece_at : (ps : List Piece) → IsFlat h ps → (x : Address) → IsAddress x → (k : ℕ) → h x ≡ Some k → (p : Piece) × In p ps × HasAddress p.block x × (p.number ≡ k)
  piece_at ps f x a k e =
      let S : Address → Type 0 = λ y. h y ≡ Some k in
      let w : IsWithin (λ y. h y ≡ Some k) (host x) = record { block = host_is_block x a; all = λ y m. subst S (sym (in_host x y m)) e } in
      let t = climb (λ y. h y ≡ Some k) (λ y. decide_number (h y) k) (width x.family) (host x) refl w in
      let p : Piece = record { block = t.0; number = k } in
      (p, In-from_Contains ps p ((f.exact p).1 t.1), t.2 x (has_host x), refl)

  pub flat_is_admissible : (ps : List Piece) → IsFlat h ps → IsAdmissible h (blocks_of ps)
  flat_is_admissible ps f = record {
    one_hop = All-from_In (HasOneHop h) (blocks_of ps) (λ b i. (tops ps f b i).0);
    covers = λ x a s. ⊎_elim (λ e. absurd (none_some e s))
        (λ n. let t = piece_at ps f x a n.0 n.1 in Any-from_In (λ b. HasAddress b x) (blocks_of ps) _ (In-map t.0 ps t.1) t.2)
        (none_or_some (h x));
  }

  pub piece_is_maximal : (ps : List Piece) → IsFlat h ps → (p : Piece) → In p ps → IsMaximalBlock (λ x. h x ≡ Some p.number) p.block
  piece_is_maximal ps f p i = (f.exact p).0 (Contains-from_In ps p i)

  pub piece_is_block : (ps : List Piece) → IsFlat h ps → (p : Piece) → In p ps → IsBlock p.block
  piece_is_block ps f p i = (piece_is_maximal ps f p i).within.block

  pub tells : (ps : List Piece) → IsFlat h ps → (p : Piece) → In p ps → (x : Address) → HasAddress p.block x → h x ≡ Some p.number
  tells ps f p i x m = (piece_is_maximal ps f p i).within.all x m

  -- pieces with an address in common are at one block
  pub same_piece : (ps : List Piece) → IsFlat h ps → (p q : Piece) → In p ps → In q ps → (x : Address) → HasAddress p.block x → HasAddress q.block x → p.block ≡ q.block
  same_piece ps f p q i j x a b =
      let e : q.number ≡ p.number = (let c = tells ps f p i x a in let d = tells ps f q j x b in cc) in
      maximal_one (λ y. h y ≡ Some p.number) p.block q.block (piece_is_maximal ps f p i) (subst (λ (k : ℕ). IsMaximalBlock (λ y. h y ≡ Some k) q.block) e (piece_is_maximal ps f q j)) x a b

  -- no piece lies in another
  pub not_inside : (ps : List Piece) → IsFlat h ps → (p q : Piece) → In p ps → In q ps → (q.block ≡ p.block → ⊥) → IsInside q.block p.block → ⊥
  not_inside ps f p q i j other k = other (same_piece ps f q p j i (first_of q.block) (has_first q.block) (k (first_of q.block) (has_first q.block)))

pub within_same : (S T : Address → Type 0) → ((x : Address) → IsAddress x → S x → T x) → (b : Block) → IsWithin S b → IsWithin T b
within_same S T f b w = record { block = w.block; all = λ x m. f x (member_is_address b x w.block m) (w.all x m) }

pub maximal_same : (S T : Address → Type 0) → ((x : Address) → IsAddress x → S x → T x) → ((x : Address) → IsAddress x → T x → S x) → (b : Block) → IsMaximalBlock S b → IsMaximalBlock T b
maximal_same S T f g b m = record { within = within_same S T f b m.within; largest = λ c w l. m.largest c (within_same T S g c w) l }

-- equal hops have equal flat lists
pub flat_moved : (g h : Address → Option ℕ) → ((x : Address) → IsAddress x → g x ≡ h x) → (ps : List Piece) → IsFlat h ps → IsFlat g ps
flat_moved g h same ps flat = record {
  ascending = flat.ascending;
  exact = λ p. (
    (λ c. maximal_same (λ x. h x ≡ Some p.number) (λ x. g x ≡ Some p.number) (λ x a e. same x a ∙ e) (λ x a e. sym (same x a) ∙ e) p.block ((flat.exact p).0 c)),
    (λ m. (flat.exact p).1 (maximal_same (λ x. g x ≡ Some p.number) (λ x. h x ≡ Some p.number) (λ x a e. sym (same x a) ∙ e) (λ x a e. same x a ∙ e) p.block m)),
  );
}

one_flat : (h : Address → Option ℕ) (ps qs : List Piece) → IsFlat h ps → IsFlat h qs → ps ≡ qs
one_flat h ps qs f k = same_rising Sooner (λ a b. strict a.block b.block) ps qs (Rising-from_pairs Sooner ps f.ascending) (Rising-from_pairs Sooner qs k.ascending)
    (λ p i. In-from_Contains qs p ((k.exact p).1 ((f.exact p).0 (Contains-from_In ps p i))))
    (λ p i. In-from_Contains ps p ((f.exact p).1 ((k.exact p).0 (Contains-from_In qs p i))))

-- a hop that a flat list tells
hop_told : (g h : Address → Option ℕ) (ps : List Piece) → IsFlat g ps → IsFlat h ps → (x : Address) → IsAddress x → (k : ℕ) → g x ≡ Some k → h x ≡ Some k
hop_told g h ps f i x a k e = let t = piece_at g ps f x a k e in tells h ps i t.0 t.1 x t.2 ∙ ap (λ n. Some n) t.3

pub same_flat : (g h : Address → Option ℕ) (ps qs : List Piece) → IsFlat g ps → IsFlat h qs → (ps ≡ qs) ↔ ((x : Address) → IsAddress x → g x ≡ h x)
same_flat g h ps qs f k = (
  (λ e x a. let l = subst (IsFlat h) (sym e) k in go (g x) (h x) (hop_told g h ps f l x a) (hop_told h g ps l f x a)),
  (λ e. one_flat h ps qs (flat_moved h g (λ x a. sym (e x a)) ps f) k),
)
  where
    go : (o p : Option ℕ) → ((n : ℕ) → o ≡ Some n → p ≡ Some n) → ((n : ℕ) → p ≡ Some n → o ≡ Some n) → o ≡ p
    go None None f g = refl
    go None (Some n) f g = g n refl
    go (Some n) p f g = sym (f n refl)

-- ---- the search of the bit tree finds the flat list

common_parts : (o p : Option ℕ) (n : ℕ) → common o p ≡ Some n → (o ≡ Some n) × (p ≡ Some n)
common_parts None p n e = absurd (cc)
common_parts (Some j) None n e = absurd (cc)
common_parts (Some j) (Some k) n e = let t = cond_some (j == k) j n e in (ap (λ i. Some i) t.1, ap (λ i. Some i) (sym (eqb-true j k t.0) ∙ t.1))

common_both : (o p : Option ℕ) (n : ℕ) → o ≡ Some n → p ≡ Some n → common o p ≡ Some n
common_both o p n e f = rw (e, f) (cond-true (n == n) (Some n) None (eq-eqb n n refl))

-- a block stands above its halves
above_half : (t : Block) (quotient : ℕ) → quotient / 2 ≡ t.quotient → parent (record { family = t.family; len = t.len + 1; quotient = quotient }) ≡ t
above_half t quotient h = (let n : (t.len + 1) - 1 ≡ t.len = omega arith in λ i. record { family = t.family; len = n i; quotient = h i })

module _ (h : Address → Option ℕ) where
  pub all_from_one : (k : ℕ) (t : Block) → IsBlock t → free_bits t ≡ k → (n : ℕ) → one_hop_in h k t ≡ Some n → (x : Address) → HasAddress t x → h x ≡ Some n
  unfolding one_hop_in
  all_from_one zero t p e n o x m = subst (λ y. h y ≡ Some n) (leaf_address t e x m) o
  all_from_one (suc k) t p e n o x m =
      let r : 0 < free_bits t = omega arith in
      let a = common_parts (one_hop_in h k (left t)) (one_hop_in h k (right t)) n o in
      ⊎_elim (λ i. all_from_one k (left t) (left_is_block t p r) (omega arith) n a.0 x i)
      (λ i. all_from_one k (right t) (right_is_block t p r) (omega arith) n a.1 x i)
      (address_in_a_half t p r x m)

  pub one_from_all : (k : ℕ) (t : Block) → IsBlock t → free_bits t ≡ k → (n : ℕ) → ((x : Address) → HasAddress t x → h x ≡ Some n) → one_hop_in h k t ≡ Some n
  unfolding one_hop_in
  one_from_all zero t p e n f = f (first_of t) (has_first t)
  one_from_all (suc k) t p e n f =
      let r : 0 < free_bits t = omega arith in
      common_both (one_hop_in h k (left t)) (one_hop_in h k (right t)) n
      (one_from_all k (left t) (left_is_block t p r) (omega arith) n (λ x i. f x (left_inside t p r x i)))
      (one_from_all k (right t) (right_is_block t p r) (omega arith) n (λ x i. f x (right_inside t p r x i)))

  abbrev NoLarger : Block → Type 0
  NoLarger t = (c : Block) → HasOneHop h c → IsLarger c t → ⊥

  pub not_one : (k : ℕ) (t : Block) → IsBlock t → free_bits t ≡ k → one_hop_in h k t ≡ None → HasOneHop h t → ⊥
  not_one k t p e o w = let a = one_from_all k t p e w.number w.all in cc

  -- what is larger than a half holds the whole
  none_half : (k : ℕ) (t half : Block) → IsBlock t → IsBlock half → parent half ≡ t → free_bits t ≡ suc k → one_hop_in h (suc k) t ≡ None → NoLarger half
  none_half k t half p q above e o c w l =
      let i = parent_in_larger c half w.block q l in
      not_one (suc k) t p e o (record { block = p; number = w.number; all = λ x m. w.all x (i x (subst (λ (a : Block). HasAddress a x) (sym above) m)) })

  -- a block inside one that has no hop of its own is smaller
  or_half : (k : ℕ) (t : Block) → IsBlock t → free_bits t ≡ k → one_hop_in h k t ≡ None → (p : Piece) → IsMaximalBlock (λ x. h x ≡ Some p.number) p.block → IsInside p.block t → IsLarger t p.block
  or_half k t ok e o p m i =
      ⊎_elim
      (λ j. absurd (not_one k t ok e o (subst (λ (a : Block). HasOneHop h a) (same_sets p.block t m.within.block ok i j) (one_hop h p m))))
      (λ far. (i, far))
      (decide_inside t p.block ok m.within.block)

  -- the pieces inside a block, ascending
  pub record Finds (t : Block) (ps : List Piece) : Type 0 where
    pub rising : Rising Sooner ps
    pub sound : (p : Piece) → In p ps → IsMaximalBlock (λ x. h x ≡ Some p.number) p.block × IsInside p.block t
    pub complete : (p : Piece) → IsMaximalBlock (λ x. h x ≡ Some p.number) p.block → IsInside p.block t → In p ps

  found_here : (k : ℕ) (t : Block) → IsBlock t → free_bits t ≡ k → NoLarger t → (n : ℕ) → one_hop_in h k t ≡ Some n
      → Finds t (record { block = t; number = n } ∷ [])
  found_here k t ok e none n o = record {
    rising = ((λ q i. absurd i), tt);
    sound = λ p i. ⊎_elim (λ q. rw q (maximal, λ x m. m)) (λ j. absurd j) i;
    complete = λ p m i.
        let same = (top_of h p m).1 t w i in
        let here : h (first_of p.block) ≡ Some p.number = m.within.all (first_of p.block) (has_first p.block) in
        let there : h (first_of p.block) ≡ Some n = w.all (first_of p.block) (i (first_of p.block) (has_first p.block)) in
        let number : p.number ≡ n = cc in
        inl (λ j. record { block = sym same j; number = number j });
  }
    where
      w : HasOneHop h t
      w = record { block = ok; number = n; all = all_from_one k t ok e n o }

      maximal : IsMaximalBlock (λ x. h x ≡ Some n) t
      maximal = record {
        within = record { block = ok; all = w.all };
        largest = λ c v l. none c (record { block = v.block; number = n; all = v.all }) l;
      }

  found_in_halves : (k : ℕ) (t : Block) → IsBlock t → free_bits t ≡ suc k → one_hop_in h (suc k) t ≡ None → (ps qs : List Piece)
      → Finds (left t) ps → Finds (right t) qs → Finds t (ps ++ qs)
  found_in_halves k t ok e o ps qs f g =
      let r : 0 < free_bits t = omega arith in
      record {
        rising = Rising-joined Sooner ps qs f.rising g.rising (λ x y i j. halves_in_order t _ _ (f.sound x i).1 (g.sound y j).1);
        sound = λ p i. ⊎_elim
            (λ j. let s = f.sound p j in (s.0, λ x m. left_inside t ok r x (s.1 x m)))
            (λ j. let s = g.sound p j in (s.0, λ x m. right_inside t ok r x (s.1 x m)))
            (In-cases p ps qs i);
        complete = λ p m i. ⊎_elim (λ j. In-left p ps qs (f.complete p m j)) (λ j. In-right p ps qs (g.complete p m j))
            (in_a_half t ok r p.block m.within.block (or_half (suc k) t ok e o p m i));
      }

  pub search : (k : ℕ) (t : Block) → IsBlock t → free_bits t ≡ k → NoLarger t → Finds t (flat_in h k t)
  unfolding flat_in one_hop_in
  search zero t ok e none = ⊎_elim
      (λ o. rw o (record {
        rising = tt;
        sound = λ p i. absurd i;
        complete = λ p m i. absurd ((or_half zero t ok e o p m i).1 (alone t p.block e i));
      }))
      (λ n. rw n.1 (found_here zero t ok e none n.0 n.1)) (none_or_some (h (first_of t)))
  search (suc k) t ok e none =
      let r : 0 < free_bits t = omega arith in
      let okl = left_is_block t ok r in
      let okr = right_is_block t ok r in
      ⊎_elim
      (λ o. rw o (found_in_halves k t ok e o (flat_in h k (left t)) (flat_in h k (right t))
      (search k (left t) okl (omega arith) (none_half k t (left t) ok okl (above_half t (2 * t.quotient) (omega arith)) e o))
      (search k (right t) okr (omega arith) (none_half k t (right t) ok okr (above_half t (2 * t.quotient + 1) (omega arith)) e o))))
      (λ n. rw n.1 (found_here (suc k) t ok e none n.0 n.1)) (none_or_some (one_hop_in h (suc k) t))

  none_whole : (f : Family) → NoLarger (family_block f)
  none_whole f c w l = let s = larger_is_shorter c (family_block f) w.block (whole_is_block f) l in omega arith

  search_whole : (f : Family) → Finds (family_block f) (flat_in h (width f) (family_block f))
  search_whole f = search (width f) (family_block f) (whole_is_block f) (omega arith) (none_whole f)

  -- the pieces of one family: the maximal blocks of one hop in it
  pub in_family : (f : Family) (p : Piece) → In p (flat_in h (width f) (family_block f)) ↔ (IsMaximalBlock (λ x. h x ≡ Some p.number) p.block × (Block.family p.block ≡ f))
  in_family f p = (
    (λ i. let s = (search_whole f).sound p i in (s.0, (s.1 (first_of p.block) (has_first p.block)).0)),
    (λ m. (search_whole f).complete p m.0 (inside_whole p.block f m.0.within.block m.1)),
  )

  pub rising_family : (f : Family) → Rising Sooner (flat_in h (width f) (family_block f))
  rising_family f = (search_whole f).rising

  by_family : (p : Piece) → IsMaximalBlock (λ x. h x ≡ Some p.number) p.block → (f : Family) → Block.family p.block ≡ f → In p (flat_of h)
  unfolding flat_of
  by_family p m Ipv4 e = In-left p (flat_in h (width Ipv4) (family_block Ipv4)) (flat_in h (width Ipv6) (family_block Ipv6)) ((in_family Ipv4 p).1 (m, e))
  by_family p m Ipv6 e = In-right p (flat_in h (width Ipv4) (family_block Ipv4)) (flat_in h (width Ipv6) (family_block Ipv6)) ((in_family Ipv6 p).1 (m, e))

  pub search_is_flat : IsFlat h (flat_of h)
  unfolding flat_of
  search_is_flat = record {
    ascending = pairs_from_Rising Sooner (flat_of h) (Rising-joined Sooner (flat_in h (width Ipv4) (family_block Ipv4)) (flat_in h (width Ipv6) (family_block Ipv6)) (rising_family Ipv4) (rising_family Ipv6)
        (λ x y i j. inl (let a = ap rank ((in_family Ipv4 x).0 i).1 in let b = ap rank ((in_family Ipv6 y).0 j).1 in omega arith)));
    exact = λ p. (
      (λ i. ⊎_elim (λ j. ((in_family Ipv4 p).0 j).0) (λ j. ((in_family Ipv6 p).0 j).0)
          (In-cases p (flat_in h (width Ipv4) (family_block Ipv4)) (flat_in h (width Ipv6) (family_block Ipv6)) (In-from_Contains (flat_of h) p i))),
      (λ m. Contains-from_In (flat_of h) p (by_family p m (Block.family p.block) refl)),
    );
  }

-- ---- the blocks of one number in a flat list

pub own_is_maximal : (h : Address → Option ℕ) (ps : List Piece) (k : ℕ) → IsFlat h ps → IsMaximal (λ x. h x ≡ Some k) (blocks_of (filter (λ p. p.number == k) ps))
own_is_maximal h ps k f = record {
  ascending = pairs_from_Rising IsBefore (blocks_of (filter test ps)) (Rising-map Sooner IsBefore Piece.block (λ p q l. l) (filter test ps) (Rising-kept Sooner test ps (Rising-from_pairs Sooner ps f.ascending)));
  exact = λ b. (
    (λ c.
        let t = In-map_back b (filter test ps) (In-from_Contains (blocks_of (filter test ps)) b c) in
        let s = In-from_filter test ps t.0 t.1 in
        let e : Piece.number t.0 ≡ k = eqb-true (Piece.number t.0) k s.1 in
        let m = (f.exact t.0).0 (Contains-from_In ps t.0 s.0) in
        subst (λ (a : Block). IsMaximalBlock (λ x. h x ≡ Some k) a) (sym t.2) (subst (λ (n : ℕ). IsMaximalBlock (λ x. h x ≡ Some n) (Piece.block t.0)) e m)),
    (λ m.
        let p : Piece = record { block = b; number = k } in
        Contains-from_In (blocks_of (filter test ps)) b (In-map p (filter test ps) (In-filter test ps p (In-from_Contains ps p ((f.exact p).1 m)) (eq-eqb k k refl)))),
  );
}
  where
    test : Piece → Bool
    test p = p.number == k

-- ---- how many pieces a search finds inside a block: where a block has no hop of its own, some route inside it is longer. So a
-- block governs few blocks.

-- by how much more than d a route inside a block is longer than it, and whether it is
unfoldable pub weight : ℕ → Block → Route → ℕ
weight d t r = cond (is_inside r.block t) (r.block.len - (t.len + d)) 0

unfoldable pub count : ℕ → Block → Route → ℕ
count d t r = cond (is_inside r.block t && nat_lt (t.len + d) r.block.len) 1 0

halves_of : (a b c : Bool) (m l n : ℕ) → l ≡ n + 1 → (a ≡ true → c ≡ true) → (b ≡ true → c ≡ true) → (a ≡ true → b ≡ true → ⊥)
    → cond a (m - l) 0 + cond b (m - l) 0 + cond (c && nat_lt n m) 1 0 ≤ cond c (m - n) 0
halves_of true true c m l n e f g both = absurd (both refl refl)
halves_of true false c m l n e f g both = rw (f refl) (grind (arith, nat_tests, e))
halves_of false true c m l n e f g both = rw (g refl) (grind (arith, nat_tests, e))
halves_of false false c m l n e f g both = grind (arith, nat_tests)

-- the halves together have a route one less long than the whole
module _ (d : ℕ) (t : Block) (ok : IsBlock t) (room : 0 < free_bits t) where
  in_half : (b c : Block) → IsBlock b → IsBlock c → IsInside c t → is_inside b c ≡ true → is_inside b t ≡ true
  in_half b c k okc i e = test_from_inside b t k ok (λ x h. i x (inside_from_test b c k okc e x h))

  pub halves_all : (rs : List Route) → ((r : Route) → In r rs → IsBlock r.block) → sum_by (weight d (left t)) rs + sum_by (weight d (right t)) rs + sum_by (count d t) rs ≤ sum_by (weight d t) rs
  unfolding weight count
  halves_all [] k = omega arith
  halves_all (r ∷ rs) k =
      let b = r.block in
      let p = k r (inl refl) in
      let okl = left_is_block t ok room in
      let okr = right_is_block t ok room in
      let not_both = λ (e : is_inside b (left t) ≡ true) (f : is_inside b (right t) ≡ true).
      let o = halves_in_order t b b (inside_from_test b _ p okl e) (inside_from_test b _ p okr f) in strict b b o o in
      let h = halves_of (is_inside b (left t)) (is_inside b (right t)) (is_inside b t) b.len (t.len + 1 + d) (t.len + d) (omega arith)
      (in_half b (left t) p okl (left_inside t ok room)) (in_half b (right t) p okr (right_inside t ok room)) not_both in
      omega (arith, h, halves_all rs (λ s j. k s (inr j)), sum_by-cons (weight d (left t)) r rs, sum_by-cons (weight d (right t)) r rs, sum_by-cons (count d t) r rs, sum_by-cons (weight d t) r rs)

pub none_longer : (d : ℕ) (t : Block) (rs : List Route) → sum_by (count d t) rs ≡ 0 → (r : Route) → In r rs → is_inside r.block t ≡ true → t.len + d < r.block.len → ⊥
unfolding count
none_longer d t [] e r i h l = i
none_longer d t (s ∷ rs) e r i h l =
    let c = sum_by-cons (count d t) s rs in
    ⊎_elim (λ q. let one : count d t s ≡ 1 = rw (← q, h) (ap (λ b. cond b 1 0) (lt-ltb _ _ l)) in absurd (omega arith))
    (λ j. none_longer d t rs (omega arith) r j h l) i

-- ---- the pieces inside a block

length_piece : (b : Block) (o : Option ℕ) (ps : List Piece) (n : ℕ) → (o ≡ None → length ps ≤ 1 + n) → length (piece_or b o ps) ≤ 1 + n
length_piece b None ps n h = h refl
length_piece b (Some m) ps n h = omega arith

module _ (h : Address → Option ℕ) where
  abbrev pub IsBare : Block → Type 0
  IsBare t = (x : Address) → HasAddress t x → h x ≡ None

  -- addresses without a hop have no pieces
  no_hop_here : (k : ℕ) (t : Block) → IsBlock t → free_bits t ≡ k → IsBare t → flat_in h k t ≡ []
  no_hop_here k t ok e none = no_members (flat_in h k t) (λ p i.
      let x = first_of p.block in
      let no_larger = λ (c : Block) (w : HasOneHop h c) (l : IsLarger c t). none-some w.number (sym (none (first_of t) (has_first t)) ∙ w.all (first_of t) (l.0 (first_of t) (has_first t))) in
      let s = (search h k t ok e no_larger).sound p i in
      none-some p.number (sym (none x (s.1 x (has_first p.block))) ∙ s.0.within.all x (has_first p.block)))

  module _ (cost : Block → ℕ) where
    -- a block has no hop, or one; or its halves cost one less than the whole, or no more where one of them has no hop
    pub data Rule (t : Block) : Type 0 where
      Even : (o : Option ℕ) → ((x : Address) → HasAddress t x → h x ≡ o) → Rule t
      Less : cost (left t) + cost (right t) + 1 ≤ cost t → Rule t
      Low : IsBare (left t) → cost (left t) + cost (right t) ≤ cost t → Rule t
      High : IsBare (right t) → cost (left t) + cost (right t) ≤ cost t → Rule t

    module _ (n : Block) (rule : (t : Block) → IsBlock t → IsInside t n → 0 < free_bits t → Rule t) where
      pub few_by : (k : ℕ) (t : Block) → IsBlock t → IsInside t n → free_bits t ≡ k → length (flat_in h k t) ≤ 1 + cost t
      unfolding flat_in
      few_by zero t ok i e = length_piece t (h (first_of t)) [] (cost t) (λ q. omega arith)
      few_by (suc k) t ok i e = length_piece t (one_hop_in h (suc k) t) (flat_in h k (left t) ++ flat_in h k (right t)) (cost t) (λ q. by q (rule t ok i room)
          (few_by k (left t) (left_is_block t ok room) (λ x m. i x (left_inside t ok room x m)) (omega arith)) (few_by k (right t) (right_is_block t ok room) (λ x m. i x (right_inside t ok room x m)) (omega arith)))
        where
          room : 0 < free_bits t
          room = omega arith

          empty : (c : Block) → IsBlock c → free_bits c ≡ k → IsBare c → length (flat_in h k c) ≡ 0
          empty c okc ec f = ap length (no_hop_here k c okc ec f)

          by : one_hop_in h (suc k) t ≡ None → Rule t → length (flat_in h k (left t)) ≤ 1 + cost (left t) → length (flat_in h k (right t)) ≤ 1 + cost (right t) → length (flat_in h k (left t) ++ flat_in h k (right t)) ≤ 1 + cost t
          by q (Even None f) low high = omega (arith, length-append (flat_in h k (left t)) (flat_in h k (right t)), empty (left t) (left_is_block t ok room) (omega arith) (λ x m. f x (left_inside t ok room x m)), empty (right t) (right_is_block t ok room) (omega arith) (λ x m. f x (right_inside t ok room x m)))
          by q (Even (Some m) f) low high = absurd (not_one h (suc k) t ok e q (record { block = ok; number = m; all = f }))
          by q (Less l) low high = omega (arith, length-append (flat_in h k (left t)) (flat_in h k (right t)), low, high, l)
          by q (Low f l) low high = omega (arith, length-append (flat_in h k (left t)) (flat_in h k (right t)), empty (left t) (left_is_block t ok room) (omega arith) f, high, l)
          by q (High f l) low high = omega (arith, length-append (flat_in h k (left t)) (flat_in h k (right t)), low, empty (right t) (right_is_block t ok room) (omega arith) f, l)

-- ---- the blocks that a block governs

module _ (M : List Route) (table : IsTable M) (n : Block) (ok : IsBlock n) where
  -- a block strictly inside n
  abbrev deeper : Block → Bool
  deeper b = is_inside b n && nat_lt n.len b.len

  abbrev covered : Address → Bool
  covered x = list_any (λ r. deeper r.block && has_address r.block x) M

  -- one hop where n governs, and none elsewhere
  abbrev hop : Address → Option ℕ
  hop x = cond (has_address n x && not (covered x)) (Some 0) None

  covers_in : (r : Route) → In r M → IsLarger n r.block → (x : Address) → HasAddress r.block x → covered x ≡ true
  covers_in r i l x h =
      let k = block_in M table r i in
      list_any-from_In (λ r. deeper r.block && has_address r.block x) M r i
      (rw (test_from_inside r.block n k ok l.0, lt-ltb _ _ (larger_is_shorter n r.block ok k l)) (test_from_has r.block x h))

  covered_by : (x : Address) → covered x ≡ true → (r : Route) × In r M × IsLarger n r.block × HasAddress r.block x
  covered_by x e =
      let t = In-from_list_any (λ r. deeper r.block && has_address r.block x) M e in
      let b = t.0.block in
      let p = and_parts (deeper b) (has_address b x) t.2 in
      let q = and_parts (is_inside b n) (nat_lt n.len b.len) p.0 in
      let k = block_in M table t.0 t.1 in
      (t.0, t.1, (inside_from_test b n k ok q.0, λ back. absurd (omega (arith, ltb-true _ _ q.1, (numbers_from_inside n b ok k back).long))), has_from_test b x p.1)

  hop_of_governed : (x : Address) → Governed M n x → hop x ≡ Some 0
  hop_of_governed x g = cond-true (has_address n x && not (covered x)) (Some 0) None (and_from (has_address n x) (not (covered x)) (test_from_has n x g.inside)
      (not_from (covered x) (λ e. let t = covered_by x e in g.free t.0 (Contains-from_In M t.0 t.1) t.2 t.3)))

  governed_from_hop : (x : Address) → hop x ≡ Some 0 → Governed M n x
  governed_from_hop x e =
      let p = and_parts (has_address n x) (not (covered x)) (cond_some (has_address n x && not (covered x)) 0 0 e).0 in
      record { inside = has_from_test n x p.0; free = λ r c l h. not_cases (covered x) p.1 (covers_in r (In-from_Contains M r c) l x h) }

  module _ (t : Block) (okt : IsBlock t) (i : IsInside t n) (room : 0 < free_bits t) where
    -- a half that is stored has no hop
    bare_half : (c : Block) → IsBlock c → IsInside c t → c.len ≡ t.len + 1 → (r : Route) → In r M → r.block ≡ c → IsBare hop c
    bare_half c okc in_t l r j e x m =
        let larger : IsLarger n c = (λ y h. i y (in_t y h), λ back. absurd (omega (arith, l, (numbers_from_inside n c ok okc back).long, (numbers_from_inside t n okt ok i).long))) in
        cond-false (has_address n x && not (covered x)) (Some 0) None (and_right (has_address n x) (not (covered x))
        (not_from_true (covered x) (covers_in r j (subst (IsLarger n) (sym e) larger) x (subst (λ (a : Block). HasAddress a x) (sym e) m))))

    module _ (none : sum_by (count 1 t) M ≡ 0) (no_left : (r : Route) → In r M → r.block ≡ left t → ⊥) (no_right : (r : Route) → In r M → r.block ≡ right t → ⊥) where
      -- where nothing is stored strictly inside, what is stored holds all of the block or none
      lies : (r : Route) → In r M → (x : Address) → HasAddress t x → HasAddress r.block x → IsInside t r.block
      lies r j x m h = ⊎_elim (λ in_r. in_r) (λ in_t. ⊎_elim (λ in_r. in_r) (λ far. absurd (⊎_elim (λ k. no_left r j (at (left t) k refl (in_t, far))) (λ k. no_right r j (at (right t) k refl (in_t, far))) (in_a_half t okt room r.block okr (in_t, far))))
          (decide_inside t r.block okt okr)) (nested t r.block x okt okr m h)
        where
          okr : IsBlock r.block
          okr = block_in M table r j

          at : (c : Block) → IsInside r.block c → c.len ≡ t.len + 1 → IsLarger t r.block → r.block ≡ c
          at c k l larger = same_length r.block c (first_of r.block) (has_first r.block) (k (first_of r.block) (has_first r.block))
              (let s = larger_is_shorter t r.block okt okr larger in ⊎_elim (λ long. absurd (none_longer 1 t M none r j (test_from_inside r.block t okr okt larger.0) long)) (λ short. omega arith) (cases_lt (t.len + 1) (Block.len r.block)))

      moves : (x y : Address) → HasAddress t x → HasAddress t y → covered x ≡ true → covered y ≡ true
      moves x y m k e = let s = covered_by x e in covers_in s.0 s.1 s.2 y (lies s.0 s.1 x m s.3 y k)

      steady : (x : Address) → HasAddress t x → hop x ≡ hop (first_of t)
      steady x m =
          let f = has_first t in
          let inside = test_from_has n x (i x m) ∙ sym (test_from_has n (first_of t) (i (first_of t) f)) in
          let same = bools_same (covered x) (covered (first_of t)) (moves x (first_of t) m f) (moves (first_of t) x f m) in
          λ j. cond (inside j && not (same j)) (Some 0) None

    rule : Rule hop (λ t. sum_by (weight 1 t) M) t
    rule = by (sum_by (count 1 t) M) refl
      where
        halves : sum_by (weight 1 (left t)) M + sum_by (weight 1 (right t)) M + sum_by (count 1 t) M ≤ sum_by (weight 1 t) M
        halves = halves_all 1 t okt room M (block_in M table)

        by : (c : ℕ) → sum_by (count 1 t) M ≡ c → Rule hop (λ t. sum_by (weight 1 t) M) t
        by (suc c) z = Less (omega (arith, halves, z))
        by zero z = ⊎_elim
            (λ s. Low (bare_half (left t) (left_is_block t okt room) (left_inside t okt room) refl s.0 s.1 s.2) (omega (arith, halves)))
            (λ no_left. ⊎_elim
            (λ s. High (bare_half (right t) (right_is_block t okt room) (right_inside t okt room) refl s.0 s.1 s.2) (omega (arith, halves)))
            (λ no_right. Even (hop (first_of t)) (steady z no_left no_right))
            (one_or_all (λ r. r.block ≡ right t) (λ r. r.block ≡ right t → ⊥) M (λ r j. same_or_not r.block (right t))))
            (one_or_all (λ r. r.block ≡ left t) (λ r. r.block ≡ left t → ⊥) M (λ r j. same_or_not r.block (left t)))

excess_of : (n : Block) (r : Route) → weight 1 n r ≤ excess n r.block
unfolding weight
excess_of n r = grind (arith, nat_tests)

-- the maximal blocks are among the pieces that a search finds
pub governed_bound : (M : List Route) (n : Block) (bs : List Block) → IsTable M → IsBlock n → IsMaximal (Governed M n) bs → length bs ≤ 1 + sum_by (λ r. excess n r.block) M
governed_bound M n bs table ok max =
    let h = hop M table n ok in
    let no_larger = λ (c : Block) (w : HasOneHop h c) (l : IsLarger c n). l.1 (λ x k.
    has_from_test n x (and_parts _ _ (cond_some _ 0 w.number (w.all x k)).0).0) in
    let found = no_more (λ b (p : Piece). b ≡ p.block) bs (flat_in h (free_bits n) n) (Distinct-from_Rising IsBefore strict bs (Rising-from_pairs IsBefore bs max.ascending))
    (λ b i. let m = (max.exact b).0 (Contains-from_In bs b i) in (
      record { block = b; number = 0 },
      (search h (free_bits n) n ok refl no_larger).complete (record { block = b; number = 0 })
          (maximal_same (Governed M n) (λ x. h x ≡ Some 0) (λ x a g. hop_of_governed M table n ok x g) (λ x a e. governed_from_hop M table n ok x e) b m) (λ x k. Governed.inside (m.within.all x k)),
      refl,
    ))
    (λ a c p i j e f. e ∙ sym f) in
    omega (arith, found, few_by h (λ t. sum_by (weight 1 t) M) n (λ t okt i room. rule M table n ok t okt i room) (free_bits n) n ok (λ x m. m) refl, sum_by-le-sum_by (weight 1 n) (λ r. excess n r.block) M (excess_of n))

-- ---- how many pieces a flat list has: where a block has no hop of its own, some route inside it is longer

module _ (M : List Route) (table : IsTable M) where
  -- without a longer route inside a block all of it has the hop of its match
  steady_below : (t : Block) → IsBlock t → sum_by (count 0 t) M ≡ 0 → (x : Address) → HasAddress t x → hop_at M x ≡ match_number (match_of M t)
  steady_below t ok e x m = ap match_number (governed_match M table t ok x (member_is_address t x ok m) (record {
    inside = m;
    free = λ r c l has.
        let i = In-from_Contains M r c in
        let s = larger_is_shorter t r.block ok (block_in M table r i) l in
        none_longer 0 t M e r i (test_from_inside r.block t (block_in M table r i) ok l.0) (omega arith);
  }))

  few_pieces : (k : ℕ) (t : Block) → IsBlock t → free_bits t ≡ k → length (flat_in (hop_at M) k t) ≤ 1 + sum_by (weight 0 t) M
  few_pieces k n okn = few_by (hop_at M) (λ t. sum_by (weight 0 t) M) n (λ t ok i room. by t ok room (sum_by (count 0 t) M) refl) k n okn (λ x m. m)
    where
      by : (t : Block) → IsBlock t → 0 < free_bits t → (c : ℕ) → sum_by (count 0 t) M ≡ c → Rule (hop_at M) (λ t. sum_by (weight 0 t) M) t
      by t ok room zero z = Even (match_number (match_of M t)) (steady_below t ok z)
      by t ok room (suc c) z = Less (omega (arith, z, halves_all 0 t ok room M (block_in M table)))

-- ---- the pieces of a family

kept_sum : {X : Type 0} (f : X → ℕ) (p : X → Bool) (xs : List X) → sum_by (λ x. cond (p x) (f x) 0) xs ≡ sum_by f (filter p xs)
kept_sum f p [] = refl
kept_sum f p (x ∷ xs) = sum_by-cons (λ x. cond (p x) (f x) 0) x xs ∙ ap (λ n. cond (p x) (f x) 0 + n) (kept_sum f p xs) ∙ by (p x)
  where
    by : (b : Bool) → cond b (f x) 0 + sum_by f (filter p xs) ≡ sum_by f (cond b (x ∷ filter p xs) (filter p xs))
    by true = let s = sum_by-cons f x (filter p xs) in omega arith
    by false = omega arith

-- the weight inside a whole family is at most the length of a route of it
weight_of : (f : Family) (r : Route) → weight 0 (family_block f) r ≤ cond (same_family r.block.family f) r.block.len 0
unfolding weight
weight_of f r = cond_both (is_inside r.block (family_block f)) (r.block.len - (0 + 0)) 0 (λ n. n ≤ cond (same_family r.block.family f) r.block.len 0)
    (λ e. let s = (and_parts (same_family r.block.family f) _ (and_parts _ _ e).0).0 in rw s (omega arith)) (λ e. omega arith)

-- the pieces of a flat list in one family are those that a search of the family finds
pub flat_bound : (M : List Route) → IsTable M → (ps : List Piece) → IsFlat (hop_at M) ps → (f : Family) → length (pieces_in f ps) ≤ 1 + lengths_in f M
flat_bound M table ps flat f =
    let of : Piece → Bool = λ p. same_family p.block.family f in
    let same : pieces_in f ps ≡ flat_in (hop_at M) (width f) (family_block f) =
    same_rising Sooner (λ p q. strict p.block q.block) (pieces_in f ps) (flat_in (hop_at M) (width f) (family_block f)) (Rising-kept Sooner of ps (Rising-from_pairs Sooner ps flat.ascending)) (rising_family (hop_at M) f)
    (λ p i. let t = In-from_filter of ps p i in (in_family (hop_at M) f p).1 ((flat.exact p).0 (Contains-from_In ps p t.0), family_from_test p.block.family f t.1))
    (λ p i. let t = (in_family (hop_at M) f p).0 i in In-filter of ps p (In-from_Contains ps p ((flat.exact p).1 t.0)) (test_from_family p.block.family f t.1)) in
    omega (
      arith,
      ap length same,
      few_pieces M table (width f) (family_block f) (whole_is_block f) (omega arith),
      sum_by-le-sum_by (weight 0 (family_block f)) (λ r. cond (same_family r.block.family f) r.block.len 0) M (weight_of f),
      kept_sum (λ (r : Route). r.block.len) (λ r. same_family r.block.family f) M,
    )
