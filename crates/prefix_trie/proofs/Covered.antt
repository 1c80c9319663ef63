-- The addresses that keys cover, counted in the order of a walk.
use Rattle.std.proofs.Common.{◌≡◌, ℕ, zero, suc, ◌+◌, ◌-◌, ◌^◌, ◌<◌, ◌≤◌, Bool, true, false, cond, not, ◌&&◌, ◌||◌, List, [], ◌∷◌, length, refl, sym, ap, ◌∙◌, T, Option, Some, None, MatchOption, option_map, Less, pow_pos, arith}
use Rattle.std.specs.FinMap.{is_sorted}
use Rattle.std.specs.FinMap.Entries.{below_all}
use Rattle.std.proofs.lemmas.Bool.{both_ways}
use Rattle.ipnet_addr.proofs.Basics.{T-parts, less_from_T}
use Rattle.ipnet_blocks.specs.BitStrings.{bits_cmp, begins}
use Rattle.trie_core.specs.InnerWalks.{KeysWithin}
use Rattle.trie_core.proofs.Order.{less_trans}
use Rattle.prefix_trie.specs.Covered.{count_strings, is_begun}

-- ---- strings that pass a test

pub count_sum : (w : ℕ) (p q r : List Bool → Bool) → ((s : List Bool) → cond (p s) 1 0 ≡ cond (q s) 1 0 + cond (r s) 1 0) → count_strings w p ≡ count_strings w q + count_strings w r
unfolding count_strings
count_sum zero p q r f = f []
count_sum (suc w) p q r f =
    omega (arith, count_sum w (λ s. p (false ∷ s)) (λ s. q (false ∷ s)) (λ s. r (false ∷ s)) (λ s. f (false ∷ s)), count_sum w (λ s. p (true ∷ s)) (λ s. q (true ∷ s)) (λ s. r (true ∷ s)) (λ s. f (true ∷ s)))

pub count_same : (w : ℕ) (p q : List Bool → Bool) → ((s : List Bool) → p s ≡ q s) → count_strings w p ≡ count_strings w q
unfolding count_strings
count_same zero p q f = ap (λ b. cond b 1 0) (f [])
count_same (suc w) p q f =
    omega (arith, count_same w (λ s. p (false ∷ s)) (λ s. q (false ∷ s)) (λ s. f (false ∷ s)), count_same w (λ s. p (true ∷ s)) (λ s. q (true ∷ s)) (λ s. f (true ∷ s)))

pub count_none : (w : ℕ) (p : List Bool → Bool) → ((s : List Bool) → p s ≡ false) → count_strings w p ≡ 0
unfolding count_strings
count_none zero p f = ap (λ b. cond b 1 0) (f [])
count_none (suc w) p f = omega (arith, count_none w (λ s. p (false ∷ s)) (λ s. f (false ∷ s)), count_none w (λ s. p (true ∷ s)) (λ s. f (true ∷ s)))

pub count_all : (w : ℕ) (p : List Bool → Bool) → ((s : List Bool) → p s ≡ true) → count_strings w p ≡ 2 ^ w
unfolding count_strings
count_all zero p f = ap (λ b. cond b 1 0) (f [])
count_all (suc w) p f = omega (arith, count_all w (λ s. p (false ∷ s)) (λ s. f (false ∷ s)), count_all w (λ s. p (true ∷ s)) (λ s. f (true ∷ s)))

one_most : (b : Bool) → cond b 1 0 ≤ 1
one_most b = grind arith

pub count_most : (w : ℕ) (p : List Bool → Bool) → count_strings w p ≤ 2 ^ w
unfolding count_strings
count_most zero p = one_most (p [])
count_most (suc w) p = omega (arith, count_most w (λ s. p (false ∷ s)), count_most w (λ s. p (true ∷ s)))

-- the addresses of one prefix
pub count_begins : (w : ℕ) (k : List Bool) → length k ≤ w → count_strings w (begins k) ≡ 2 ^ (w - length k)
unfolding count_strings
count_begins w [] h = let e : w ≡ w - 0 = omega arith in count_all w (begins []) (λ s. refl) ∙ ap (λ i. 2 ^ i) e
count_begins zero (b ∷ k) h = absurd (omega arith)
count_begins (suc w) (true ∷ k) h =
    let a : count_strings w (λ s. begins (true ∷ k) (true ∷ s)) ≡ 2 ^ (w - length k) = count_begins w k (omega arith) in
    let z : count_strings w (λ s. begins (true ∷ k) (false ∷ s)) ≡ 0 = count_none w (λ s. false) (λ s. refl) in
    let i : suc w - suc (length k) ≡ w - length k = omega arith in
    omega (arith, a, z, ap (λ n. 2 ^ n) i)
count_begins (suc w) (false ∷ k) h =
    let a : count_strings w (λ s. begins (false ∷ k) (false ∷ s)) ≡ 2 ^ (w - length k) = count_begins w k (omega arith) in
    let z : count_strings w (λ s. begins (false ∷ k) (true ∷ s)) ≡ 0 = count_none w (λ s. false) (λ s. refl) in
    let i : suc w - suc (length k) ≡ w - length k = omega arith in
    omega (arith, a, z, ap (λ n. 2 ^ n) i)

-- ---- beginnings in the order of a walk

pub begins_through : (a b s : List Bool) → begins a b ≡ true → begins b s ≡ true → begins a s ≡ true
begins_through [] b s e f = refl
begins_through (x ∷ a) b s e f = grind (arith, begins_through a)

-- what comes later begins nothing that comes before
not_begun : (a b : List Bool) → bits_cmp a b ≡ Less → begins b a ≡ true → ⊥
not_begun [] b e f = grind arith
not_begun (x ∷ a) b e f = grind (arith, not_begun a)

-- of two beginnings of one string the one begins the other
one_begins : (a b s : List Bool) → begins a s ≡ true → begins b s ≡ true → begins a b ≡ false → begins b a ≡ true
one_begins [] b s e f g = cc
one_begins (x ∷ a) b s e f g = grind (arith, one_begins a)

-- what a begins stands together
between : (a b c : List Bool) → bits_cmp a b ≡ Less → bits_cmp b c ≡ Less → begins a c ≡ true → begins a b ≡ true
between [] b c e f g = refl
between (x ∷ a) b c e f g = grind (arith, between a)

-- no last one, or one that does not begin k
abbrev pub IsOutside : Option (List Bool) → List Bool → Type 0
IsOutside None k = Unit {0}
IsOutside (Some b) k = begins b k ≡ false

abbrev pub IsLastWithin : ℕ → Option (List Bool) → Type 0
IsLastWithin w None = Unit {0}
IsLastWithin w (Some b) = length b ≤ w

pub outside_if : {K : Type 0} (bits : K → List Bool) (k : List Bool) (last : Option K) (r : Bool) → MatchOption last (r ≡ false) (λ b. r ≡ begins (bits b) k) → r ≡ false → IsOutside (option_map bits last) k
outside_if bits k None r m t = tt
outside_if bits k (Some b) r m t = sym m ∙ t

passed : (a x c : Bool) → (a ≡ true → c ≡ true) → ((a || x) && not c) ≡ (x && not c)
passed a x c f = grind arith

first_one : (a x : Bool) → cond (a || x) 1 0 ≡ cond a 1 0 + cond (x && not a) 1 0
first_one a x = grind arith

free_one : (a x c : Bool) → (a ≡ true → c ≡ true → ⊥) → (x ≡ true → c ≡ true → ⊥) → cond ((a || x) && not c) 1 0 ≡ cond a 1 0 + cond (x && not a) 1 0
free_one a x c f g = grind arith

module _ {X : Type 0} where
  -- whether a key of the entries begins s, and the last one counted does not
  abbrev pub is_fresh : Option (List Bool) → List (List Bool × X) → List Bool → Bool
  is_fresh None es s = is_begun es s
  is_fresh (Some b) es s = is_begun es s && not (begins b s)

  abbrev pub Follows : Option (List Bool) → List (List Bool × X) → Type 0
  Follows None es = Unit {0}
  Follows (Some b) es = T (below_all bits_cmp b es)

  -- left is one less than the number of addresses that are not counted; the last prefix counted is given, and the entries still to come
  pub record IsCounting (w total left : ℕ) (last : Option (List Bool)) (es : List (List Bool × X)) : Type 0 where
    pub counted : total + left + 1 ≡ 2 ^ w + count_strings w (is_fresh last es)
    pub below : left < 2 ^ w
    pub rise : T (is_sorted bits_cmp es)
    pub follow : Follows last es
    pub within : KeysWithin w es
    pub last_within : IsLastWithin w last

  later_by : (b k s : List Bool) (e : List Bool × X) (es : List (List Bool × X)) → bits_cmp b k ≡ Less → begins b k ≡ false → bits_cmp k e.0 ≡ Less → begins b s ≡ true → (is_begun es s ≡ true → ⊥) → (p q : Bool) → begins e.0 s ≡ p → begins b e.0 ≡ q → (p || is_begun es s) ≡ true → ⊥
  later_by b k s e es l n m c r true true t f y = both_ways _ n (between b k e.0 l m f)
  later_by b k s e es l n m c r true false t f y = not_begun b e.0 (less_trans b k e.0 l m) (one_begins b e.0 s c t f)
  later_by b k s e es l n m c r false q t f y = r y

  -- what comes after k begins nothing that b begins, where k comes after all of that
  later_free : (b k s : List Bool) (es : List (List Bool × X)) → bits_cmp b k ≡ Less → begins b k ≡ false → T (below_all bits_cmp k es) → is_begun es s ≡ true → begins b s ≡ true → ⊥
  later_free b k s [] l n h x c = cc
  later_free b k s (e ∷ es) l n h x c =
      let p = T-parts _ _ h in
      later_by b k s e es l n (less_from_T _ p.0) c (λ y. later_free b k s es l n p.1 y c) (begins e.0 s) (begins b e.0) refl refl x

  counted_by : (w : ℕ) (last : Option (List Bool)) (e : List Bool × X) (es : List (List Bool × X)) → T (is_sorted bits_cmp (e ∷ es)) → Follows last (e ∷ es) → IsOutside last e.0 → (s : List Bool) → cond (is_fresh last (e ∷ es) s) 1 0 ≡ cond (begins e.0 s) 1 0 + cond (is_fresh (Some e.0) es s) 1 0
  counted_by w None e es r f o s = first_one (begins e.0 s) (is_begun es s)
  counted_by w (Some b) e es r f o s =
      let l = less_from_T _ (T-parts _ _ f).0 in
      free_one (begins e.0 s) (is_begun es s) (begins b s) (λ p q. by_begun (begins b e.0) p q refl) (λ p q. later_free b e.0 s es l o (T-parts _ _ r).0 p q)
    where
      by_begun : (x : Bool) → begins e.0 s ≡ true → begins b s ≡ true → begins b e.0 ≡ x → ⊥
      by_begun true p q z = both_ways _ o z
      by_begun false p q z = not_begun b e.0 (less_from_T _ (T-parts _ _ f).0) (one_begins b e.0 s q p z)

  -- a prefix that the last one does not begin adds all its addresses
  fresh_count : (w : ℕ) (last : Option (List Bool)) (e : List Bool × X) (es : List (List Bool × X)) → T (is_sorted bits_cmp (e ∷ es)) → Follows last (e ∷ es) → length e.0 ≤ w → IsOutside last e.0 → count_strings w (is_fresh last (e ∷ es)) ≡ 2 ^ (w - length e.0) + count_strings w (is_fresh (Some e.0) es)
  fresh_count w last e es r f h o =
      count_sum w (is_fresh last (e ∷ es)) (begins e.0) (is_fresh (Some e.0) es) (counted_by w last e es r f o) ∙ ap (λ n. n + count_strings w (is_fresh (Some e.0) es)) (count_begins w e.0 h)

  pub skip : {w total left : ℕ} {b : List Bool} {e : List Bool × X} {es : List (List Bool × X)} → IsCounting w total left (Some b) (e ∷ es) → begins b e.0 ≡ true → IsCounting w total left (Some b) es
  skip {w} {total} {left} {b} {e} {es} c i = record {
    counted = c.counted ∙ ap (λ n. 2 ^ w + n) (count_same w _ _ (λ s. passed (begins e.0 s) (is_begun es s) (begins b s) (begins_through b e.0 s i)));
    below = c.below;
    rise = (T-parts _ _ c.rise).1;
    follow = (T-parts _ _ c.follow).1;
    within = c.within.1;
    last_within = c.last_within;
  }

  pub add : {w total left : ℕ} {last : Option (List Bool)} {e : List Bool × X} {es : List (List Bool × X)} (rest : ℕ) → IsCounting w total left last (e ∷ es) → IsOutside last e.0 → rest + 2 ^ (w - length e.0) ≡ left → IsCounting w total rest (Some e.0) es
  add {w} {total} {left} {last} {e} {es} rest c o h =
      let f = fresh_count w last e es c.rise c.follow c.within.0 o in
      record {
        counted = omega (arith, c.counted, f, h);
        below = omega (arith, c.below, h);
        rise = (T-parts _ _ c.rise).1;
        follow = (T-parts _ _ c.rise).0;
        within = c.within.1;
        last_within = c.within.0;
      }

  -- there are no more addresses
  pub full : {w total left : ℕ} {last : Option (List Bool)} {e : List Bool × X} {es : List (List Bool × X)} → IsCounting w total left last (e ∷ es) → IsOutside last e.0 → left < 2 ^ (w - length e.0) → total ≤ 2 ^ w → total ≡ 2 ^ w
  full {w} {total} {left} {last} {e} {es} c o h m = omega (arith, c.counted, fresh_count w last e es c.rise c.follow c.within.0 o, h, m)

  none_fresh : (w : ℕ) (last : Option (List Bool)) (es : List (List Bool × X)) → es ≡ [] → count_strings w (is_fresh last es) ≡ 0
  none_fresh w None [] e = count_none w _ (λ s. refl)
  none_fresh w (Some b) [] e = count_none w _ (λ s. refl)
  none_fresh w last (x ∷ es) e = cc

  pub done : {w total left : ℕ} {last : Option (List Bool)} {es : List (List Bool × X)} → IsCounting w total left last es → es ≡ [] → total + left + 1 ≡ 2 ^ w
  done {w} {total} {left} {last} {es} c e = omega (arith, c.counted, none_fresh w last es e)

  pub start : (w : ℕ) (es : List (List Bool × X)) → T (is_sorted bits_cmp es) → KeysWithin w es → IsCounting w (count_strings w (is_begun es)) (2 ^ w - 1) None es
  start w es r k = record {
    counted = omega (arith, pow_pos w);
    below = omega (arith, pow_pos w);
    rise = r;
    follow = tt;
    within = k;
    last_within = tt;
  }

  -- what `is_inside` answers of the last prefix
  module _ {K : Type 0} (bits : K → List Bool) where
    pub skip_if : {w total left : ℕ} {e : List Bool × X} {es : List (List Bool × X)} (last : Option K) (r : Bool) → MatchOption last (r ≡ false) (λ b. r ≡ begins (bits b) e.0) → r ≡ true → IsCounting w total left (option_map bits last) (e ∷ es) → IsCounting w total left (option_map bits last) es
    skip_if None r m t c = cc
    skip_if (Some b) r m t c = skip c (sym m ∙ t)
