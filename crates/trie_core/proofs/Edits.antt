-- Changes of the things at the places of a bitmap.
use Rattle.std.proofs.Common.{◌≡◌, ℕ, zero, suc, ◌+◌, ◌-◌, ◌/◌, ◌%◌, ◌^◌, ◌<◌, ◌≤◌, true, false, cond, not, List, [], ◌∷◌, length, set, refl, sym, ap, ◌∙◌, inl, inr, ◌*◌, None, eqb, count_ones, ◌⊎◌, T, insert, remove, add-mul, one-mul, arith}
use Rattle.std.specs.Ordering.{nat_cmp, eq_by_cmp}
use Rattle.std.specs.FinMap.{find, is_sorted, put}
use Rattle.std.specs.FinMap.Entries.{below_all}
use Rattle.std.proofs.lemmas.Nat.{shr-shr, mod_below, pow_pos, shr_split, ones_cat}
use Rattle.std.proofs.lemmas.Bool.Decides.{nat_tests}
use Rattle.ipnet_addr.proofs.Basics.{T-and, T-parts}
use Rattle.trie_core.specs.InnerPlaces.{at_places, without}
use Rattle.trie_core.proofs.Numbers.{ones_bit, double}
use Rattle.trie_core.proofs.Places.{ones_half, ones_below_suc, ones_split}

pub low_bit : (b : ℕ) → (b % 2 ≡ 0) ⊎ (b % 2 ≡ 1)
low_bit b = elim (eqb (b % 2) 1) as (λ t. eqb (b % 2) 1 ≡ t → (b % 2 ≡ 0) ⊎ (b % 2 ≡ 1)) [
  | true ↦ λ e. inr (grind (arith, nat_tests))
  | false ↦ λ e. inl (grind (arith, nat_tests))
] refl

shifted : (bits i : ℕ) → bits / 2 / 2 ^ i ≡ bits / 2 ^ suc i
shifted bits i = shr-shr bits 1 i ∙ let e : 1 + i ≡ suc i = omega arith in ap (λ k. bits / 2 ^ k) e

-- the bit above the lowest, in the half
pub higher_bit : (bits i b : ℕ) → bits / 2 ^ suc i % 2 ≡ b → bits / 2 / 2 ^ i % 2 ≡ b
higher_bit bits i b h = ap (λ y. y % 2) (shifted bits i) ∙ h

-- a bit that is not set, set
half_more : (bits i : ℕ) → (bits + 2 ^ suc i) / 2 ≡ bits / 2 + 2 ^ i
half_more bits i = omega (arith, double i)

low_more : (bits i : ℕ) → (bits + 2 ^ suc i) % 2 ≡ bits % 2
low_more bits i = omega (arith, double i)

pub bit_within : (bits i : ℕ) → bits / 2 ^ i % 2 ≡ 1 → 2 ^ i ≤ bits
bit_within bits zero h = omega (arith, h)
bit_within bits (suc i) h = omega (arith, double i, bit_within (bits / 2) i (higher_bit bits i 1 h))

pub half_less : (bits i : ℕ) → 2 ^ suc i ≤ bits → (bits - 2 ^ suc i) / 2 ≡ bits / 2 - 2 ^ i
half_less bits i h = omega (arith, double i, h)

pub low_less : (bits i : ℕ) → 2 ^ suc i ≤ bits → (bits - 2 ^ suc i) % 2 ≡ bits % 2
low_less bits i h = omega (arith, double i, h)

pub set_fits : (w i bits : ℕ) → i < w → bits < 2 ^ w → bits / 2 ^ i % 2 ≡ 0 → bits + 2 ^ i < 2 ^ w
set_fits zero i bits l h z = absurd (omega (arith, l))
set_fits (suc w) zero bits l h z = omega (arith, double w, h, z)
set_fits (suc w) (suc i) bits l h z =
    let r = set_fits w i (bits / 2) (omega (arith, l)) (omega (arith, double w, h)) (higher_bit bits i 0 z) in
    omega (arith, double w, double i, r)

pub ones_set : (i bits : ℕ) → bits / 2 ^ i % 2 ≡ 0 → count_ones (bits + 2 ^ i) ≡ count_ones bits + 1
ones_set i bits z =
    let q = bits / 2 ^ i in
    let e : bits + 2 ^ i ≡ (q + 1) * 2 ^ i + bits % 2 ^ i = omega (arith, shr_split bits i, add-mul q 1 (2 ^ i), one-mul (2 ^ i)) in
    let half : (q + 1) / 2 ≡ q / 2 = omega (arith, z) in
    omega (arith, ap count_ones e, ones_cat i (q + 1) (bits % 2 ^ i) (mod_below bits (2 ^ i) (pow_pos i)), ones_split i bits, ones_half q, ones_half (q + 1), ap count_ones half, z)

-- a bit that is set, out
pub cut_bit : (i bits : ℕ) → bits / 2 ^ i % 2 ≡ 1 → bits - 2 ^ i ≡ (bits / 2 ^ i - 1) * 2 ^ i + bits % 2 ^ i
cut_bit i bits z =
    let q = bits / 2 ^ i in
    let one : q - 1 + 1 ≡ q = omega (arith, z) in
    omega (arith, shr_split bits i, ap (λ x. x * 2 ^ i) one, add-mul (q - 1) 1 (2 ^ i), one-mul (2 ^ i))

pub ones_clear : (i bits : ℕ) → bits / 2 ^ i % 2 ≡ 1 → count_ones (bits - 2 ^ i) + 1 ≡ count_ones bits
ones_clear i bits z =
    let q = bits / 2 ^ i in
    let half : (q - 1) / 2 ≡ q / 2 = omega (arith, z) in
    omega (arith, ap count_ones (cut_bit i bits z), ones_cat i (q - 1) (bits % 2 ^ i) (mod_below bits (2 ^ i) (pow_pos i)), ones_split i bits, ones_half q, ones_half (q - 1), ap count_ones half, z)

module _ {X : Type 0} where
  -- nothing stands up to a number that is below all
  pub find_above : (i n : ℕ) (es : List (ℕ × X)) → T (below_all nat_cmp n es) → i ≤ n → find nat_cmp i es ≡ None
  find_above i n [] b h = refl
  find_above i n (e ∷ es) b h =
      let p = T-parts _ _ b in
      let q = p.0 in
      let r = find_above i n es p.1 h in
      grind (arith, nat_tests)

  -- nothing goes where nothing stands
  pub without_none : (n : ℕ) (xs : List (ℕ × X)) → find nat_cmp n xs ≡ None → without n xs ≡ xs
  without_none n [] f = refl
  without_none n (e ∷ es) f = grind (arith, nat_tests, without_none n es)

module _ {X : Type 0} where
  pub at_none : (w n bits : ℕ) → at_places {X = X} w n bits [] ≡ []
  at_none zero n bits = refl
  at_none (suc w) n bits = refl

  pub at_step : (w n bits : ℕ) (xs : List X) → bits % 2 ≡ 0 → at_places (suc w) n bits xs ≡ at_places w (suc n) (bits / 2) xs
  at_step w n bits [] h = sym (at_none w (suc n) (bits / 2))
  at_step w n bits (x ∷ xs) h = let e : eqb (bits % 2) 1 ≡ false = grind (arith, nat_tests) in ap (λ b. cond b ((n, x) ∷ at_places w (suc n) (bits / 2) xs) (at_places w (suc n) (bits / 2) (x ∷ xs))) e

  pub at_first : (w n bits : ℕ) (x : X) (xs : List X) → bits % 2 ≡ 1 → at_places (suc w) n bits (x ∷ xs) ≡ (n, x) ∷ at_places w (suc n) (bits / 2) xs
  at_first w n bits x xs h = let e : eqb (bits % 2) 1 ≡ true = grind (arith, nat_tests) in ap (λ b. cond b ((n, x) ∷ at_places w (suc n) (bits / 2) xs) (at_places w (suc n) (bits / 2) (x ∷ xs))) e

  below_cons : (m n : ℕ) (x : X) (es : List (ℕ × X)) → m < n → T (below_all nat_cmp m es) → T (below_all nat_cmp m ((n, x) ∷ es))
  below_cons m n x es h b = grind (arith, nat_tests)

  -- all places are n or more
  pub at_above : (w n m bits : ℕ) (xs : List X) → m < n → T (below_all nat_cmp m (at_places w n bits xs))
  at_above zero n m bits xs h = tt
  at_above (suc w) n m bits [] h = tt
  at_above (suc w) n m bits (x ∷ xs) h = elim (low_bit bits) [
    | inl e ↦ rw (at_step w n bits (x ∷ xs) e) (at_above w (suc n) m (bits / 2) (x ∷ xs) (omega (arith, h)))
    | inr e ↦ rw (at_first w n bits x xs e) (below_cons m n x _ h (at_above w (suc n) m (bits / 2) xs (omega (arith, h))))
  ]

  -- the places rise
  pub at_sorted : (w n bits : ℕ) (xs : List X) → T (is_sorted nat_cmp (at_places w n bits xs))
  at_sorted zero n bits xs = tt
  at_sorted (suc w) n bits [] = tt
  at_sorted (suc w) n bits (x ∷ xs) = elim (low_bit bits) [
    | inl e ↦ rw (at_step w n bits (x ∷ xs) e) (at_sorted w (suc n) (bits / 2) (x ∷ xs))
    | inr e ↦ rw (at_first w n bits x xs e) (T-and _ _ (at_above w (suc n) n (bits / 2) xs (omega arith)) (at_sorted w (suc n) (bits / 2) xs))
  ]

  put_past : (m n : ℕ) (x v : X) (es : List (ℕ × X)) → n < m → put nat_cmp m v ((n, x) ∷ es) ≡ (n, x) ∷ put nat_cmp m v es
  put_past m n x v es h = grind (arith, nat_tests)

  put_here : (n : ℕ) (x v : X) (es : List (ℕ × X)) → put nat_cmp n v ((n, x) ∷ es) ≡ (n, v) ∷ es
  put_here n x v es = grind (arith, nat_tests)

  put_front : (n : ℕ) (v : X) (es : List (ℕ × X)) → T (below_all nat_cmp n es) → put nat_cmp n v es ≡ (n, v) ∷ es
  put_front n v [] h = refl
  put_front n v (e ∷ es) h = grind (arith, nat_tests)

  without_past : (m n : ℕ) (x : X) (es : List (ℕ × X)) → n < m → without m ((n, x) ∷ es) ≡ (n, x) ∷ without m es
  without_past m n x es h =
      let k : not (eq_by_cmp nat_cmp m n) ≡ true = grind (arith, nat_tests) in
      ap (λ b. cond b ((n, x) ∷ without m es) (without m es)) k

  pub without_front : (n : ℕ) (x : X) (es : List (ℕ × X)) → T (below_all nat_cmp n es) → without n ((n, x) ∷ es) ≡ es
  without_front n x es h =
      let k : not (eq_by_cmp nat_cmp n n) ≡ false = grind (arith, nat_tests) in
      ap (λ b. cond b ((n, x) ∷ without n es) (without n es)) k ∙ without_none n es (find_above n n es h (omega arith))

  -- the k-th thing replaced is the one at the place that has k places below it
  pub set_is_put : (w n i bits : ℕ) (xs : List X) (k : ℕ) (v : X) → i < w → bits / 2 ^ i % 2 ≡ 1 → k ≡ count_ones (bits % 2 ^ i) → k < length xs → at_places w n bits (set xs k v) ≡ put nat_cmp (n + i) v (at_places w n bits xs)
  set_is_put zero n i bits xs k v l h c m = absurd (omega (arith, l))
  set_is_put (suc w) n i bits [] k v l h c m = absurd (omega (arith, m))
  set_is_put (suc w) n zero bits (x ∷ xs) k v l h c m =
      let z : bits % 2 ^ 0 ≡ 0 = omega arith in
      let k0 : k ≡ 0 = c ∙ ap count_ones z ∙ ones_bit 0 (omega arith) in
      let o : bits % 2 ≡ 1 = omega (arith, h) in
      let p : n + 0 ≡ n = omega arith in
      ap (λ j. at_places (suc w) n bits (set (x ∷ xs) j v)) k0 ∙ at_first w n bits v xs o ∙ sym (put_here n x v _) ∙ ap (put nat_cmp n v) (sym (at_first w n bits x xs o)) ∙ ap (λ j. put nat_cmp j v (at_places (suc w) n bits (x ∷ xs))) (sym p)
  set_is_put (suc w) n (suc i) bits (x ∷ xs) k v l h c m =
      let q = higher_bit bits i 1 h in
      let f : n + suc i ≡ suc n + i = omega arith in
      let s = ones_below_suc i bits in
      rw f (elim (low_bit bits) [
        | inl o ↦
            at_step w n bits (set (x ∷ xs) k v) o ∙ set_is_put w (suc n) i (bits / 2) (x ∷ xs) k v (omega (arith, l)) q (omega (arith, c, s, o)) m ∙ ap (put nat_cmp (suc n + i) v) (sym (at_step w n bits (x ∷ xs) o))
        | inr o ↦
            let j = count_ones (bits / 2 % 2 ^ i) in
            let kj : k ≡ suc j = omega (arith, c, s, o) in
            ap (λ y. at_places (suc w) n bits (set (x ∷ xs) y v)) kj ∙ at_first w n bits x (set xs j v) o ∙ ap (λ es. (n, x) ∷ es) (set_is_put w (suc n) i (bits / 2) xs j v (omega (arith, l)) q refl (omega (arith, m, kj))) ∙ sym (put_past (suc n + i) n x v _ (omega arith)) ∙ ap (put nat_cmp (suc n + i) v) (sym (at_first w n bits x xs o))
      ])

  more_by : (w n i bits : ℕ) (xs : List X) (k j : ℕ) (v : X) → k ≡ suc j → k ≤ length xs → bits % 2 ≡ 1 → (bits + 2 ^ suc i) / 2 ≡ bits / 2 + 2 ^ i → ((ys : List X) → j ≤ length ys → at_places w (suc n) (bits / 2 + 2 ^ i) (insert ys j v) ≡ put nat_cmp (suc n + i) v (at_places w (suc n) (bits / 2) ys)) → at_places (suc w) n (bits + 2 ^ suc i) (insert xs k v) ≡ put nat_cmp (suc n + i) v (at_places (suc w) n bits xs)
  more_by w n i bits [] k j v kj m o hm r = absurd (omega (arith, m, kj))
  more_by w n i bits (x ∷ xs) k j v kj m o hm r =
      ap (λ t. at_places (suc w) n (bits + 2 ^ suc i) (insert (x ∷ xs) t v)) kj ∙ at_first w n (bits + 2 ^ suc i) x (insert xs j v) (low_more bits i ∙ o) ∙ ap (λ b. (n, x) ∷ at_places w (suc n) b (insert xs j v)) hm ∙ ap (λ es. (n, x) ∷ es) (r xs (omega (arith, m, kj))) ∙ sym (put_past (suc n + i) n x v _ (omega arith)) ∙ ap (put nat_cmp (suc n + i) v) (sym (at_first w n bits x xs o))

  -- a thing put in after k others stands at the place that has k places below it
  pub insert_is_put : (w n i bits : ℕ) (xs : List X) (k : ℕ) (v : X) → i < w → bits / 2 ^ i % 2 ≡ 0 → k ≡ count_ones (bits % 2 ^ i) → k ≤ length xs → at_places w n (bits + 2 ^ i) (insert xs k v) ≡ put nat_cmp (n + i) v (at_places w n bits xs)
  insert_is_put zero n i bits xs k v l h c m = absurd (omega (arith, l))
  insert_is_put (suc w) n zero bits xs k v l h c m =
      let z : bits % 2 ^ 0 ≡ 0 = omega arith in
      let k0 : k ≡ 0 = c ∙ ap count_ones z ∙ ones_bit 0 (omega arith) in
      let o : (bits + 2 ^ 0) % 2 ≡ 1 = omega (arith, h) in
      let o0 : bits % 2 ≡ 0 = omega (arith, h) in
      let half : (bits + 2 ^ 0) / 2 ≡ bits / 2 = omega (arith, h) in
      let p : n + 0 ≡ n = omega arith in
      ap (λ j. at_places (suc w) n (bits + 2 ^ 0) (insert xs j v)) k0 ∙ at_first w n (bits + 2 ^ 0) v xs o ∙ ap (λ b. (n, v) ∷ at_places w (suc n) b xs) half ∙ sym (put_front n v _ (at_above w (suc n) n (bits / 2) xs (omega arith))) ∙ ap (put nat_cmp n v) (sym (at_step w n bits xs o0)) ∙ ap (λ j. put nat_cmp j v (at_places (suc w) n bits xs)) (sym p)
  insert_is_put (suc w) n (suc i) bits xs k v l h c m =
      let q = higher_bit bits i 0 h in
      let f : n + suc i ≡ suc n + i = omega arith in
      let s = ones_below_suc i bits in
      let hm = half_more bits i in
      rw f (elim (low_bit bits) [
        | inl o ↦
            at_step w n (bits + 2 ^ suc i) (insert xs k v) (low_more bits i ∙ o) ∙ ap (λ b. at_places w (suc n) b (insert xs k v)) hm ∙ insert_is_put w (suc n) i (bits / 2) xs k v (omega (arith, l)) q (omega (arith, c, s, o)) m ∙ ap (put nat_cmp (suc n + i) v) (sym (at_step w n bits xs o))
        | inr o ↦
            let j = count_ones (bits / 2 % 2 ^ i) in
            let kj : k ≡ suc j = omega (arith, c, s, o) in
            more_by w n i bits xs k j v kj m o hm (λ ys h. insert_is_put w (suc n) i (bits / 2) ys j v (omega (arith, l)) q refl h)
      ])

  -- the k-th thing taken out is the one at the place that has k places below it
  pub remove_is_without : (w n i bits : ℕ) (xs : List X) (k : ℕ) → i < w → bits / 2 ^ i % 2 ≡ 1 → k ≡ count_ones (bits % 2 ^ i) → k < length xs → at_places w n (bits - 2 ^ i) (remove xs k) ≡ without (n + i) (at_places w n bits xs)
  remove_is_without zero n i bits xs k l h c m = absurd (omega (arith, l))
  remove_is_without (suc w) n i bits [] k l h c m = absurd (omega (arith, m))
  remove_is_without (suc w) n zero bits (x ∷ xs) k l h c m =
      let z : bits % 2 ^ 0 ≡ 0 = omega arith in
      let k0 : k ≡ 0 = c ∙ ap count_ones z ∙ ones_bit 0 (omega arith) in
      let o : bits % 2 ≡ 1 = omega (arith, h) in
      let o0 : (bits - 2 ^ 0) % 2 ≡ 0 = omega (arith, h) in
      let half : (bits - 2 ^ 0) / 2 ≡ bits / 2 = omega (arith, h) in
      let p : n + 0 ≡ n = omega arith in
      ap (λ j. at_places (suc w) n (bits - 2 ^ 0) (remove (x ∷ xs) j)) k0 ∙ at_step w n (bits - 2 ^ 0) xs o0 ∙ ap (λ b. at_places w (suc n) b xs) half ∙ sym (without_front n x _ (at_above w (suc n) n (bits / 2) xs (omega arith))) ∙ ap (without n) (sym (at_first w n bits x xs o)) ∙ ap (λ j. without j (at_places (suc w) n bits (x ∷ xs))) (sym p)
  remove_is_without (suc w) n (suc i) bits (x ∷ xs) k l h c m =
      let q = higher_bit bits i 1 h in
      let f : n + suc i ≡ suc n + i = omega arith in
      let s = ones_below_suc i bits in
      let b = bit_within bits (suc i) h in
      let hl = half_less bits i b in
      rw f (elim (low_bit bits) [
        | inl o ↦
            at_step w n (bits - 2 ^ suc i) (remove (x ∷ xs) k) (low_less bits i b ∙ o) ∙ ap (λ b. at_places w (suc n) b (remove (x ∷ xs) k)) hl ∙ remove_is_without w (suc n) i (bits / 2) (x ∷ xs) k (omega (arith, l)) q (omega (arith, c, s, o)) m ∙ ap (without (suc n + i)) (sym (at_step w n bits (x ∷ xs) o))
        | inr o ↦
            let j = count_ones (bits / 2 % 2 ^ i) in
            let kj : k ≡ suc j = omega (arith, c, s, o) in
            ap (λ y. at_places (suc w) n (bits - 2 ^ suc i) (remove (x ∷ xs) y)) kj ∙ at_first w n (bits - 2 ^ suc i) x (remove xs j) (low_less bits i b ∙ o) ∙ ap (λ b. (n, x) ∷ at_places w (suc n) b (remove xs j)) hl ∙ ap (λ es. (n, x) ∷ es) (remove_is_without w (suc n) i (bits / 2) xs j (omega (arith, l)) q refl (omega (arith, m, kj))) ∙ sym (without_past (suc n + i) n x _ (omega arith)) ∙ ap (without (suc n + i)) (sym (at_first w n bits x xs o))
      ])

  -- the first thing stands at the lowest bit that is set
  pub at_lowest : (w n i bits : ℕ) (x : X) (xs : List X) → i < w → bits / 2 ^ i % 2 ≡ 1 → ((j : ℕ) → j < i → bits / 2 ^ j % 2 ≡ 0) → at_places w n bits (x ∷ xs) ≡ (n + i, x) ∷ at_places w n (bits - 2 ^ i) xs
  at_lowest zero n i bits x xs l h z = absurd (omega (arith, l))
  at_lowest (suc w) n zero bits x xs l h z =
      let o : bits % 2 ≡ 1 = omega (arith, h) in
      let o0 : (bits - 2 ^ 0) % 2 ≡ 0 = omega (arith, h) in
      let half : (bits - 2 ^ 0) / 2 ≡ bits / 2 = omega (arith, h) in
      let p : n + 0 ≡ n = omega arith in
      at_first w n bits x xs o ∙ ap (λ b. (n, x) ∷ at_places w (suc n) b xs) (sym half) ∙ ap (λ es. (n, x) ∷ es) (sym (at_step w n (bits - 2 ^ 0) xs o0)) ∙ ap (λ m. (m, x) ∷ at_places (suc w) n (bits - 2 ^ 0) xs) (sym p)
  at_lowest (suc w) n (suc i) bits x xs l h z =
      let q = higher_bit bits i 1 h in
      let f : suc n + i ≡ n + suc i = omega arith in
      let b = bit_within bits (suc i) h in
      let z0 = z 0 (omega arith) in
      let o : bits % 2 ≡ 0 = omega (arith, z0) in
      at_step w n bits (x ∷ xs) o ∙ at_lowest w (suc n) i (bits / 2) x xs (omega (arith, l)) q (λ j m. higher_bit bits j 0 (z (suc j) (omega (arith, m)))) ∙ ap (λ m. (m, x) ∷ at_places w (suc n) (bits / 2 - 2 ^ i) xs) f ∙ ap (λ b. (n + suc i, x) ∷ at_places w (suc n) b xs) (sym (half_less bits i b)) ∙ ap (λ es. (n + suc i, x) ∷ es) (sym (at_step w n (bits - 2 ^ suc i) xs (low_less bits i b ∙ o)))
