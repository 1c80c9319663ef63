-- The search of the bit tree finds the maximal blocks.
use Rattle.std.proofs.Common.{◌≡◌, ℕ, zero, suc, ◌+◌, ◌-◌, ◌*◌, ◌/◌, ◌%◌, ◌^◌, ◌<◌, ◌≤◌, ◌⊎◌, inl, inr, ⊎_elim, Bool, true, false, List, [], ◌∷◌, ◌++◌, cond, refl, sym, ap, ◌∙◌, subst, arith, shr-shr, pow_pos, pow-suc, mod-lt, add-one, mul-one, div-one, IsTrue}
use Rattle.std.proofs.Math.Pow.{split}
use Rattle.std.proofs.Math.Nat.{div-eq_of_lt}
use Rattle.std.proofs.lemmas.Bool.{and_parts, and_from}
use Rattle.ipnet_addr.proofs.Basics.{even_or_odd}
use Rattle.ipnet_addr.specs.Addresses.{Family, Ipv4, Ipv6, width, rank, Address}
use Rattle.ipnet_blocks.specs.Blocks.{Block, IsBlock, free_bits, HasAddress, IsInside, IsLarger, IsBefore, first, first_of, family_block, left, right, parent}
use Rattle.ipnet_blocks.specs.Maximal.{IsWithin, IsMaximalBlock, IsMaximal, all_in, maximal_in, maximal_of}
use Rattle.ipnet_addr.proofs.Members.{In, In-left, In-right, In-cases}
use Rattle.ipnet_addr.proofs.Ascending.{In-from_Contains, Contains-from_In, Rising, pairs_from_Rising}
use Rattle.ipnet_blocks.proofs.BlockLaws.{numbers_from_inside, inside_from_numbers, same_sets, has_first}
use Rattle.ipnet_blocks.proofs.Parents.{decide_inside, larger_is_shorter, parent_in_larger}
use Rattle.ipnet_blocks.proofs.Maximals.{maximal_is_top}

module _ (t : Block) (p : IsBlock t) (room : 0 < free_bits t) where
  small : (q : ℕ) → q < 2 * 2 ^ t.len → q < 2 ^ (t.len + 1)
  small q h = rw add-one (rw pow-suc (omega arith))

  pub left_is_block : IsBlock (left t)
  left_is_block = record { in_width = omega arith; in_range = small (2 * t.quotient) (let h = p.in_range in omega arith) }

  pub right_is_block : IsBlock (right t)
  right_is_block = record { in_width = omega arith; in_range = small (2 * t.quotient + 1) (let h = p.in_range in omega arith) }

  one_bit : (t.len + 1) - t.len ≡ 1
  one_bit = omega arith

  pub left_inside : IsInside (left t) t
  left_inside = inside_from_numbers (left t) t left_is_block refl (omega arith)
      (ap (λ n. (2 * t.quotient) / 2 ^ n) one_bit ∙ (let e : (2 * t.quotient) / 2 ≡ t.quotient = omega arith in e))

  pub right_inside : IsInside (right t) t
  right_inside = inside_from_numbers (right t) t right_is_block refl (omega arith)
      (ap (λ n. (2 * t.quotient + 1) / 2 ^ n) one_bit ∙ (let e : (2 * t.quotient + 1) / 2 ≡ t.quotient = omega arith in e))

  -- a block strictly inside is inside one of the halves
  pub in_a_half : (b : Block) → IsBlock b → IsLarger t b → IsInside b (left t) ⊎ IsInside b (right t)
  in_a_half b ok l =
      let n = numbers_from_inside b t ok p l.0 in
      let s = larger_is_shorter t b p ok l in
      let long : t.len + 1 ≤ b.len = omega arith in
      let e : (b.len - (t.len + 1)) + 1 ≡ b.len - t.len = omega arith in
      let h : b.quotient / 2 ^ (b.len - (t.len + 1)) / 2 ≡ t.quotient = shr-shr b.quotient (b.len - (t.len + 1)) 1 ∙ ap (λ i. b.quotient / 2 ^ i) e ∙ n.quotient in
      ⊎_elim (λ z. inl (inside_from_numbers b (left t) ok n.family long z))
      (λ z. inr (inside_from_numbers b (right t) ok n.family long z))
      (even_or_odd (b.quotient / 2 ^ (b.len - (t.len + 1))) t.quotient h)

  -- as is an address
  pub address_in_a_half : (x : Address) → HasAddress t x → HasAddress (left t) x ⊎ HasAddress (right t) x
  address_in_a_half x h =
      let e : (width t.family - (t.len + 1)) + 1 ≡ width t.family - t.len = omega arith in
      let k : x.number / 2 ^ (width t.family - (t.len + 1)) / 2 ≡ t.quotient = shr-shr x.number (width t.family - (t.len + 1)) 1 ∙ ap (λ i. x.number / 2 ^ i) e ∙ h.1 in
      ⊎_elim (λ z. inl (h.0, z)) (λ z. inr (h.0, z)) (even_or_odd (x.number / 2 ^ (width t.family - (t.len + 1))) t.quotient k)

-- a block inside t begins within t
pub first_within : (b t : Block) → IsInside b t → (t.quotient * 2 ^ free_bits t ≤ first b) × (first b < t.quotient * 2 ^ free_bits t + 2 ^ free_bits t)
first_within b t h =
    let q = (h (first_of b) (has_first b)).1 in
    let e : t.quotient * 2 ^ free_bits t + first b % 2 ^ free_bits t ≡ first b = ap (λ n. n * 2 ^ free_bits t + first b % 2 ^ free_bits t) (sym q) ∙ split (first b) (free_bits t) in
    let m : first b % 2 ^ free_bits t < 2 ^ free_bits t = mod-lt (first b) (pow_pos (free_bits t)) in
    (omega arith, omega arith)

-- a block with no free bits has one address
pub leaf_address : (t : Block) → free_bits t ≡ 0 → (x : Address) → HasAddress t x → first_of t ≡ x
leaf_address t e x m =
    let a : first t ≡ t.quotient = ap (λ n. t.quotient * 2 ^ n) e ∙ mul-one t.quotient in
    let b : x.number ≡ t.quotient = sym (ap (λ n. x.number / 2 ^ n) e ∙ div-one x.number) ∙ m.1 in
    let q : first t ≡ x.number = a ∙ sym b in
    λ i. record { family = sym m.0 i; number = q i }

-- blocks of the left half come before those of the right half
pub halves_in_order : (t b c : Block) → IsInside b (left t) → IsInside c (right t) → IsBefore b c
halves_in_order t b c h k =
    let f = ap rank (h (first_of b) (has_first b)).0 in
    let g = ap rank (k (first_of c) (has_first c)).0 in
    let m = first_within b (left t) h in
    let n = first_within c (right t) k in
    let less : first b < first c = omega arith in
    inr (inl (f ∙ sym g, less))

Rising-append : (xs ys : List Block) → Rising IsBefore xs → Rising IsBefore ys → ((x y : Block) → In x xs → In y ys → IsBefore x y) → Rising IsBefore (xs ++ ys)
Rising-append [] ys h k f = k
Rising-append (x ∷ xs) ys h k f =
    ((λ y i. ⊎_elim (λ j. h.0 y j) (λ j. f x y (inl refl) j) (In-cases y xs ys i)), Rising-append xs ys h.1 k (λ a b i j. f a b (inr i) j))

pub whole_is_block : (f : Family) → IsBlock (family_block f)
whole_is_block f = record { in_width = omega arith; in_range = omega arith }

pub inside_whole : (b : Block) (f : Family) → IsBlock b → b.family ≡ f → IsInside b (family_block f)
inside_whole b f p e =
    let z : b.len - 0 ≡ b.len = omega arith in
    inside_from_numbers b (family_block f) p e (omega arith) (ap (λ n. b.quotient / 2 ^ n) z ∙ div-eq_of_lt p.in_range)

module _ (s : Address → Bool) where
  Holds : Address → Type 0
  Holds x = IsTrue (s x)

  pub within_from_all : (k : ℕ) (t : Block) → IsBlock t → free_bits t ≡ k → all_in s k t ≡ true → (x : Address) → HasAddress t x → s x ≡ true
  unfolding all_in
  within_from_all zero t p e h x m = subst (λ y. s y ≡ true) (leaf_address t e x m) h
  within_from_all (suc k) t p e h x m =
      let r : 0 < free_bits t = omega arith in
      let a = and_parts (all_in s k (left t)) (all_in s k (right t)) h in
      ⊎_elim (λ i. within_from_all k (left t) (left_is_block t p r) (omega arith) a.0 x i)
      (λ i. within_from_all k (right t) (right_is_block t p r) (omega arith) a.1 x i)
      (address_in_a_half t p r x m)

  pub all_from_within : (k : ℕ) (t : Block) → IsBlock t → free_bits t ≡ k → ((x : Address) → HasAddress t x → s x ≡ true) → all_in s k t ≡ true
  unfolding all_in
  all_from_within zero t p e h = h (first_of t) (has_first t)
  all_from_within (suc k) t p e h =
      let r : 0 < free_bits t = omega arith in
      and_from (all_in s k (left t)) (all_in s k (right t))
      (all_from_within k (left t) (left_is_block t p r) (omega arith) (λ x i. h x (left_inside t p r x i)))
      (all_from_within k (right t) (right_is_block t p r) (omega arith) (λ x i. h x (right_inside t p r x i)))

  in_cond : (c : Bool) (xs ys : List Block) (b : Block) → In b (cond c xs ys) → ((c ≡ true) × In b xs) ⊎ ((c ≡ false) × In b ys)
  in_cond true xs ys b i = inl (refl, i)
  in_cond false xs ys b i = inr (refl, i)

  cond_in : (c : Bool) (xs ys : List Block) (b : Block) → (c ≡ true → In b xs) → (c ≡ false → In b ys) → In b (cond c xs ys)
  cond_in true xs ys b f g = f refl
  cond_in false xs ys b f g = g refl

  -- no block inside the set is larger
  None : Block → Type 0
  None t = (c : Block) → IsWithin Holds c → IsLarger c t → ⊥

  within_of : (k : ℕ) (t : Block) → IsBlock t → free_bits t ≡ k → all_in s k t ≡ true → IsWithin Holds t
  unfolding Holds
  within_of k t p e h = record { block = p; all = within_from_all k t p e h }

  not_within : (k : ℕ) (t : Block) → IsBlock t → free_bits t ≡ k → all_in s k t ≡ false → IsWithin Holds t → ⊥
  unfolding Holds
  not_within k t p e h w = let a = all_from_within k t p e w.all in cc

  -- what is larger than a half holds the whole
  none_left : (k : ℕ) (t : Block) → IsBlock t → free_bits t ≡ suc k → all_in s (suc k) t ≡ false → None (left t)
  unfolding None
  none_left k t p e h c w l =
      let r : 0 < free_bits t = omega arith in
      let i = parent_in_larger c (left t) w.block (left_is_block t p r) l in
      let n : (t.len + 1) - 1 ≡ t.len = omega arith in
      let q : (2 * t.quotient) / 2 ≡ t.quotient = omega arith in
      let at : parent (left t) ≡ t = λ j. record { family = t.family; len = n j; quotient = q j } in
      not_within (suc k) t p e h (record { block = p; all = λ x m. w.all x (i x (subst (λ (a : Block). HasAddress a x) (sym at) m)) })

  none_right : (k : ℕ) (t : Block) → IsBlock t → free_bits t ≡ suc k → all_in s (suc k) t ≡ false → None (right t)
  unfolding None
  none_right k t p e h c w l =
      let r : 0 < free_bits t = omega arith in
      let i = parent_in_larger c (right t) w.block (right_is_block t p r) l in
      let n : (t.len + 1) - 1 ≡ t.len = omega arith in
      let q : (2 * t.quotient + 1) / 2 ≡ t.quotient = omega arith in
      let at : parent (right t) ≡ t = λ j. record { family = t.family; len = n j; quotient = q j } in
      not_within (suc k) t p e h (record { block = p; all = λ x m. w.all x (i x (subst (λ (a : Block). HasAddress a x) (sym at) m)) })

  located : (k : ℕ) (t : Block) → IsBlock t → free_bits t ≡ k → (b : Block) → In b (maximal_in s k t) → IsInside b t
  unfolding maximal_in
  located zero t p e b i =
      ⊎_elim (λ h. ⊎_elim (λ q x m. subst (λ (a : Block). HasAddress a x) q m) (λ no. absurd no) h.1) (λ h. absurd h.1) (in_cond (s (first_of t)) (t ∷ []) [] b i)
  located (suc k) t p e b i =
      let r : 0 < free_bits t = omega arith in
      ⊎_elim (λ h. ⊎_elim (λ q x m. subst (λ (a : Block). HasAddress a x) q m) (λ no. absurd no) h.1)
      (λ h. ⊎_elim
      (λ j x m. left_inside t p r x (located k (left t) (left_is_block t p r) (omega arith) b j x m))
      (λ j x m. right_inside t p r x (located k (right t) (right_is_block t p r) (omega arith) b j x m))
      (In-cases b (maximal_in s k (left t)) (maximal_in s k (right t)) h.1))
      (in_cond (all_in s (suc k) t) (t ∷ []) (maximal_in s k (left t) ++ maximal_in s k (right t)) b i)

  sound : (k : ℕ) (t : Block) → IsBlock t → free_bits t ≡ k → None t → (b : Block) → In b (maximal_in s k t) → IsMaximalBlock Holds b
  unfolding maximal_in None all_in
  sound zero t p e none b i =
      ⊎_elim
      (λ h. ⊎_elim (λ q. subst (λ (a : Block). IsMaximalBlock Holds a) (sym q) (record { within = within_of zero t p e h.0; largest = none })) (λ no. absurd no) h.1)
      (λ h. absurd h.1) (in_cond (s (first_of t)) (t ∷ []) [] b i)
  sound (suc k) t p e none b i =
      let r : 0 < free_bits t = omega arith in
      ⊎_elim
      (λ h. ⊎_elim (λ q. subst (λ (a : Block). IsMaximalBlock Holds a) (sym q) (record { within = within_of (suc k) t p e h.0; largest = none })) (λ no. absurd no) h.1)
      (λ h. ⊎_elim
      (λ j. sound k (left t) (left_is_block t p r) (omega arith) (none_left k t p e h.0) b j)
      (λ j. sound k (right t) (right_is_block t p r) (omega arith) (none_right k t p e h.0) b j)
      (In-cases b (maximal_in s k (left t)) (maximal_in s k (right t)) h.1))
      (in_cond (all_in s (suc k) t) (t ∷ []) (maximal_in s k (left t) ++ maximal_in s k (right t)) b i)

  -- a maximal block inside a searched one is that one, or lies in one of its halves
  or_half : (k : ℕ) (t : Block) → IsBlock t → free_bits t ≡ k → all_in s k t ≡ false → (b : Block) → IsMaximalBlock Holds b → IsInside b t → IsLarger t b
  or_half k t p e h b m i =
      ⊎_elim
      (λ j. absurd (not_within k t p e h (subst (λ (a : Block). IsWithin Holds a) (same_sets b t m.within.block p i j) m.within)))
      (λ no. (i, no))
      (decide_inside t b p m.within.block)

  complete : (k : ℕ) (t : Block) → IsBlock t → free_bits t ≡ k → (b : Block) → IsMaximalBlock Holds b → IsInside b t → In b (maximal_in s k t)
  unfolding maximal_in all_in
  complete zero t p e b m i =
      cond_in (s (first_of t)) (t ∷ []) [] b
      (λ h. inl (sym ((maximal_is_top Holds b m).1 t (within_of zero t p e h) i)))
      (λ h. let l = larger_is_shorter t b p m.within.block (or_half zero t p e h b m i) in
      let fits = m.within.block.in_width in
      let n = (numbers_from_inside b t m.within.block p i).family in
      let w : width b.family ≡ width t.family = ap width n in
      absurd (omega arith))
  complete (suc k) t p e b m i =
      let r : 0 < free_bits t = omega arith in
      cond_in (all_in s (suc k) t) (t ∷ []) (maximal_in s k (left t) ++ maximal_in s k (right t)) b
      (λ h. inl (sym ((maximal_is_top Holds b m).1 t (within_of (suc k) t p e h) i)))
      (λ h. ⊎_elim
      (λ j. In-left b (maximal_in s k (left t)) (maximal_in s k (right t)) (complete k (left t) (left_is_block t p r) (omega arith) b m j))
      (λ j. In-right b (maximal_in s k (left t)) (maximal_in s k (right t)) (complete k (right t) (right_is_block t p r) (omega arith) b m j))
      (in_a_half t p r b m.within.block (or_half (suc k) t p e h b m i)))

  rising_cond : (c : Bool) (xs ys : List Block) → Rising IsBefore xs → Rising IsBefore ys → Rising IsBefore (cond c xs ys)
  rising_cond true xs ys h k = h
  rising_cond false xs ys h k = k

  pub rising : (k : ℕ) (t : Block) → IsBlock t → free_bits t ≡ k → Rising IsBefore (maximal_in s k t)
  unfolding maximal_in
  rising zero t p e = rising_cond (s (first_of t)) (t ∷ []) [] ((λ y i. absurd i), tt) tt
  rising (suc k) t p e =
      let r : 0 < free_bits t = omega arith in
      rising_cond (all_in s (suc k) t) (t ∷ []) (maximal_in s k (left t) ++ maximal_in s k (right t)) ((λ y i. absurd i), tt)
      (Rising-append (maximal_in s k (left t)) (maximal_in s k (right t))
      (rising k (left t) (left_is_block t p r) (omega arith)) (rising k (right t) (right_is_block t p r) (omega arith))
      (λ x y i j. halves_in_order t x y (located k (left t) (left_is_block t p r) (omega arith) x i) (located k (right t) (right_is_block t p r) (omega arith) y j)))

  none_whole : (f : Family) → None (family_block f)
  unfolding None
  none_whole f c w l = let h = larger_is_shorter c (family_block f) w.block (whole_is_block f) l in omega arith

  pub search_is_maximal : IsMaximal (λ x. IsTrue (s x)) (maximal_of s)
  unfolding maximal_of Holds
  search_is_maximal = record {
    ascending = pairs_from_Rising IsBefore (four ++ six) (Rising-append four six (rising (width Ipv4) (family_block Ipv4) (whole_is_block Ipv4) refl) (rising (width Ipv6) (family_block Ipv6) (whole_is_block Ipv6) refl)
        (λ x y i j. inl (let a = ap rank (located (width Ipv4) (family_block Ipv4) (whole_is_block Ipv4) refl x i (first_of x) (has_first x)).0 in
        let b = ap rank (located (width Ipv6) (family_block Ipv6) (whole_is_block Ipv6) refl y j (first_of y) (has_first y)).0 in omega arith)));
    exact = λ b. (
      (λ i. ⊎_elim (sound (width Ipv4) (family_block Ipv4) (whole_is_block Ipv4) refl (none_whole Ipv4) b) (sound (width Ipv6) (family_block Ipv6) (whole_is_block Ipv6) refl (none_whole Ipv6) b)
          (In-cases b four six (In-from_Contains (four ++ six) b i))),
      (λ m. Contains-from_In (four ++ six) b (by_family b m b.family refl)),
    );
  }
    where
      four : List Block
      four = maximal_in s (width Ipv4) (family_block Ipv4)

      six : List Block
      six = maximal_in s (width Ipv6) (family_block Ipv6)

      by_family : (b : Block) → IsMaximalBlock Holds b → (f : Family) → b.family ≡ f → In b (four ++ six)
      by_family b m Ipv4 e = In-left b four six (complete (width Ipv4) (family_block Ipv4) (whole_is_block Ipv4) refl b m (inside_whole b Ipv4 m.within.block e))
      by_family b m Ipv6 e = In-right b four six (complete (width Ipv6) (family_block Ipv6) (whole_is_block Ipv6) refl b m (inside_whole b Ipv6 m.within.block e))
