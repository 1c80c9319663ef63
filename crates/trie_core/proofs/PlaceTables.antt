-- The tables of places, each item tested against its rule.
use Rattle.std.proofs.Common.{◌≡◌, ℕ, zero, suc, ◌+◌, ◌-◌, ◌/◌, ◌%◌, ◌^◌, leb, subst, ◌<◌, ◌≤◌, Bool, true, false, cond, not, ◌&&◌, List, [], ◌∷◌, length, take, get_or, refl, sym, ap, ◌∙◌, T, eqb, nat_lt, count_ones, is_lt, length-take, take-take, arith}
use Rattle.std.specs.Int.{bit_at}
use Rattle.std.proofs.lemmas.Bool.Decides.{nat_tests}
use Rattle.std.proofs.lemmas.Bool.{eqb-true, ltb-true, and_right}
use Rattle.ipnet_addr.proofs.Basics.{T-true, T-parts}
use Rattle.trie_core.specs.Bits.{number_from, is_from}
use Rattle.ipnet_blocks.specs.BitStrings.{bits_cmp, begins}
use Rattle.trie_core.specs.InnerPlaces.{place_from, place_of, child_of, place_string, IsBeginMask}
use Rattle.trie_core.specs.InnerWalks.{is_past}
use Rattle.trie_core.proofs.Numbers.{place_strings, place_from_number, number-take}

-- a test of all strings of fewer than k bits
abbrev pub every : ℕ → (List Bool → Bool) → Bool
every zero t = true
every (suc k) t = t [] && (every k (λ bs. t (true ∷ bs)) && every k (λ bs. t (false ∷ bs)))

pub every_holds : (k : ℕ) (t : List Bool → Bool) → T (every k t) → (bs : List Bool) → length bs < k → t bs ≡ true
every_holds zero t h bs l = absurd (omega (arith, l))
every_holds (suc k) t h [] l = T-true _ (T-parts (t []) (every k (λ bs. t (true ∷ bs)) && every k (λ bs. t (false ∷ bs))) h).0
every_holds (suc k) t h (true ∷ bs) l = every_holds k (λ bs. t (true ∷ bs)) (T-parts (every k (λ bs. t (true ∷ bs))) (every k (λ bs. t (false ∷ bs))) (T-parts (t []) (every k (λ bs. t (true ∷ bs)) && every k (λ bs. t (false ∷ bs))) h).1).0 bs (omega (arith, l))
every_holds (suc k) t h (false ∷ bs) l = every_holds k (λ bs. t (false ∷ bs)) (T-parts (every k (λ bs. t (true ∷ bs))) (every k (λ bs. t (false ∷ bs))) (T-parts (t []) (every k (λ bs. t (true ∷ bs)) && every k (λ bs. t (false ∷ bs))) h).1).1 bs (omega (arith, l))

-- a test of all strings of k bits
abbrev pub each_of : ℕ → (List Bool → Bool) → Bool
each_of zero t = t []
each_of (suc k) t = each_of k (λ bs. t (true ∷ bs)) && each_of k (λ bs. t (false ∷ bs))

pub each_holds : (k : ℕ) (t : List Bool → Bool) → T (each_of k t) → (bs : List Bool) → length bs ≡ k → t bs ≡ true
each_holds zero t h [] l = T-true _ h
each_holds zero t h (b ∷ bs) l = absurd (omega (arith, l))
each_holds (suc k) t h [] l = absurd (omega (arith, l))
each_holds (suc k) t h (true ∷ bs) l = each_holds k (λ bs. t (true ∷ bs)) (T-parts (each_of k (λ bs. t (true ∷ bs))) (each_of k (λ bs. t (false ∷ bs))) h).0 bs (omega (arith, l))
each_holds (suc k) t h (false ∷ bs) l = each_holds k (λ bs. t (false ∷ bs)) (T-parts (each_of k (λ bs. t (true ∷ bs))) (each_of k (λ bs. t (false ∷ bs))) h).1 bs (omega (arith, l))

abbrev pub masks : List ℕ
masks = 31 ∷ 31 ∷ 47 ∷ 47 ∷ 199 ∷ 199 ∷ 327 ∷ 327 ∷ 3587 ∷ 3587 ∷ 5635 ∷ 5635 ∷ 25091 ∷ 25091 ∷ 41475 ∷ 41475 ∷ 983041 ∷ 983041 ∷ 1507329 ∷ 1507329 ∷ 6488065 ∷ 6488065 ∷ 10682369 ∷ 10682369 ∷ 117506049 ∷ 117506049 ∷ 184614913 ∷ 184614913 ∷ 822149121 ∷ 822149121 ∷ 1359020033 ∷ 1359020033 ∷ []

-- no list item is past the last place
abbrev below_all : List ℕ → Bool
below_all [] = true
below_all (m ∷ ms) = nat_lt m (2 ^ 31) && below_all ms

below_at : (ms : List ℕ) (n : ℕ) → T (below_all ms) → get_or ms n 0 < 2 ^ 31
below_at [] n h = omega arith
below_at (m ∷ ms) zero h = ltb-true _ _ (T-true _ (T-parts (nat_lt m (2 ^ 31)) (below_all ms) h).0)
below_at (m ∷ ms) (suc n) h = below_at ms n (T-parts (nat_lt m (2 ^ 31)) (below_all ms) h).1

pub masks_below : (n : ℕ) → get_or masks n 0 < 2 ^ 31
masks_below n = below_at masks n tt

abbrev lengths : List ℕ
lengths = 0 ∷ 1 ∷ 2 ∷ 3 ∷ 4 ∷ 4 ∷ 3 ∷ 4 ∷ 4 ∷ 2 ∷ 3 ∷ 4 ∷ 4 ∷ 3 ∷ 4 ∷ 4 ∷ 1 ∷ 2 ∷ 3 ∷ 4 ∷ 4 ∷ 3 ∷ 4 ∷ 4 ∷ 2 ∷ 3 ∷ 4 ∷ 4 ∷ 3 ∷ 4 ∷ 4 ∷ []

-- the mask has the bits of the places that begin q
abbrev mask_test : List Bool → ℕ → Bool
mask_test q m = every 5 (λ p. eqb (bit_at m (place_from 5 p)) (cond (begins p q) 1 0))

mask_holds : (q : List Bool) (m : ℕ) → mask_test q m ≡ true → IsBeginMask q m
mask_holds q m h p l = eqb-true _ _ (every_holds 5 (λ p. eqb (bit_at m (place_from 5 p)) (cond (begins p q) 1 0)) (rw h tt) p l)

five_masks : (q : List Bool) → length q ≡ 5 → IsBeginMask q (get_or masks (child_of q) 0)
five_masks q l = mask_holds q (get_or masks (child_of q) 0) (each_holds 5 (λ q. mask_test q (get_or masks (number_from 5 q) 0)) tt q l)

-- fewer than k bits begin a string where they begin its first k
pub begins_front : (k : ℕ) (p q : List Bool) → length p ≤ k → begins p (take k q) ≡ begins p q
begins_front k [] q h = refl
begins_front zero (x ∷ p) q h = absurd (omega (arith, h))
begins_front (suc k) (x ∷ p) q h = grind (arith, begins_front k p)

pub long_mask : (q : List Bool) → 5 ≤ length q → IsBeginMask q (get_or masks (child_of q) 0)
long_mask q h p l =
    ap (λ n. bit_at (get_or masks n 0) (place_of p)) (sym (number-take 5 q))
    ∙ five_masks (take 5 q) (omega (arith, length-take 5 q, h)) p l
    ∙ ap (λ b. cond b 1 0) (begins_front 5 p q (omega (arith, l)))

pub short_mask : (q : List Bool) → length q < 5 → IsBeginMask q (get_or masks (child_of q) 0 % 2 ^ (place_of q + 1))
short_mask q h = mask_holds q (get_or masks (child_of q) 0 % 2 ^ (place_of q + 1)) (every_holds 5 (λ q. mask_test q (get_or masks (number_from 5 q) 0 % 2 ^ (place_from 5 q + 1))) tt q h)

pub length_of_place : (n : ℕ) → n < 31 → get_or lengths n 0 ≡ length (place_string n)
length_of_place n h =
    let s = place_strings n h in
    ap (λ i. get_or lengths i 0) (sym s.place) ∙ eqb-true _ _ (every_holds 5 (λ q. eqb (get_or lengths (place_from 5 q) 0) (length q)) tt (place_string n) s.short)

abbrev firsts : List ℕ
firsts = 0 ∷ 0 ∷ 0 ∷ 0 ∷ 0 ∷ 2 ∷ 4 ∷ 4 ∷ 6 ∷ 8 ∷ 8 ∷ 8 ∷ 10 ∷ 12 ∷ 12 ∷ 14 ∷ 16 ∷ 16 ∷ 16 ∷ 16 ∷ 18 ∷ 20 ∷ 20 ∷ 22 ∷ 24 ∷ 24 ∷ 24 ∷ 26 ∷ 28 ∷ 28 ∷ 30 ∷ []

pub number_of_place : (n : ℕ) → n < 31 → get_or firsts n 0 ≡ child_of (place_string n)
number_of_place n h =
    let s = place_strings n h in
    ap (λ i. get_or firsts i 0) (sym s.place) ∙ eqb-true _ _ (every_holds 5 (λ q. eqb (get_or firsts (place_from 5 q) 0) (number_from 5 q)) tt (place_string n) s.short)

-- a test of two strings, where the one is short and the other has five bits, or both are short
both_hold : (t : List Bool → List Bool → Bool) → T (every 5 (λ q. every 5 (t q))) → (q r : List Bool) → length q < 5 → length r < 5 → t q r ≡ true
both_hold t h q r l m = every_holds 5 (t q) (subst T (sym (every_holds 5 (λ q. every 5 (t q)) h q l)) tt) r m

long_hold : (t : List Bool → List Bool → Bool) → T (every 5 (λ q. each_of 5 (t q))) → (q r : List Bool) → length q < 5 → length r ≡ 5 → t q r ≡ true
long_hold t h q r l m = each_holds 5 (t q) (subst T (sym (every_holds 5 (λ q. each_of 5 (t q)) h q l)) tt) r m

abbrev alike : Bool → Bool → Bool
alike a b = cond a b (not b)

alike_same : (a b : Bool) → alike a b ≡ true → a ≡ b
alike_same a b e = grind arith

-- a value comes before a child whose number is not less
pub value_before : (q c : List Bool) → length q < 5 → length c ≡ 5 → leb (child_of q) (child_of c) ≡ is_lt (bits_cmp q c)
value_before q c l m = alike_same _ _ (long_hold (λ q c. alike (leb (number_from 5 q) (number_from 5 c)) (is_lt (bits_cmp q c))) tt q c l m)

-- the strings that begin with q have a range of places, and one of children
pub inside_short : (q r : List Bool) → length q < 5 → length r < 5 → begins q r ≡ (not (nat_lt (place_of r) (place_of q)) && nat_lt (place_of r) (place_of q + 31 / 2 ^ length q))
inside_short q r l m = alike_same _ _ (both_hold (λ q r. alike (begins q r) (not (nat_lt (place_from 5 r) (place_from 5 q)) && nat_lt (place_from 5 r) (place_from 5 q + 31 / 2 ^ length q))) tt q r l m)

pub inside_long : (q r : List Bool) → length q < 5 → 5 ≤ length r → begins q r ≡ (not (nat_lt (child_of r) (child_of q)) && nat_lt (child_of r) (child_of q + 32 / 2 ^ length q))
inside_long q r l m =
    sym (begins_front 5 q r (omega (arith, l)))
    ∙ alike_same _ _ (long_hold (λ q r. alike (begins q r) (not (nat_lt (number_from 5 r) (number_from 5 q)) && nat_lt (number_from 5 r) (number_from 5 q + 32 / 2 ^ length q))) tt q (take 5 r) l (omega (arith, length-take 5 r, m)))
    ∙ ap (λ n. not (nat_lt n (child_of q)) && nat_lt n (child_of q + 32 / 2 ^ length q)) (number-take 5 r)

pub inside_ends : (q : List Bool) → length q < 5 → (place_of q + 31 / 2 ^ length q ≤ 32) × (child_of q + 32 / 2 ^ length q ≤ 32)
inside_ends q l =
    let a : nat_lt (place_of q + 31 / 2 ^ length q) 33 ≡ true = every_holds 5 (λ q. nat_lt (place_from 5 q + 31 / 2 ^ length q) 33) tt q l in
    let b : nat_lt (child_of q + 32 / 2 ^ length q) 33 ≡ true = every_holds 5 (λ q. nat_lt (number_from 5 q + 32 / 2 ^ length q) 33) tt q l in
    (grind (arith, nat_tests), grind (arith, nat_tests))

-- the string itself is one of them
pub inside_some : (q : List Bool) → length q < 5 → 1 ≤ 31 / 2 ^ length q
inside_some q l = let a : nat_lt 0 (31 / 2 ^ length q) ≡ true = every_holds 5 (λ q. nat_lt 0 (31 / 2 ^ length q)) tt q l in grind (arith, nat_tests)

-- ---- what comes after a string

-- of a string at least as long as b its first bits tell whether it is past b
past_front : (k : ℕ) (b r : List Bool) → length b ≤ k → is_past b (take k r) ≡ is_past b r
past_front k [] r h = and_right (is_lt (bits_cmp [] (take k r))) false refl ∙ sym (and_right (is_lt (bits_cmp [] r)) false refl)
past_front zero (x ∷ b) r h = absurd (omega (arith, h))
past_front (suc k) (x ∷ b) r h = grind (arith, past_front k b)

-- a longer string is before or after q where its first bits are
less_front : (k : ℕ) (q r : List Bool) → length q < k → (bits_cmp (take k r) q ≡ bits_cmp r q) × (bits_cmp q (take k r) ≡ bits_cmp q r)
less_front zero q r h = absurd (omega (arith, h))
less_front (suc k) [] r h = grind arith
less_front (suc k) (x ∷ q) r h = grind (arith, less_front k q)

-- a test of two strings of five bits, and of such a one and a short one
five_hold : (t : List Bool → List Bool → Bool) → T (each_of 5 (λ q. each_of 5 (t q))) → (q r : List Bool) → length q ≡ 5 → length r ≡ 5 → t q r ≡ true
five_hold t h q r l m = each_holds 5 (t q) (subst T (sym (each_holds 5 (λ q. each_of 5 (t q)) h q l)) tt) r m

short_hold : (t : List Bool → List Bool → Bool) → T (each_of 5 (λ q. every 5 (t q))) → (q r : List Bool) → length q ≡ 5 → length r < 5 → t q r ≡ true
short_hold t h q r l m = every_holds 5 (t q) (subst T (sym (each_holds 5 (λ q. every 5 (t q)) h q l)) tt) r m

pub past_short : (b r : List Bool) → length b ≡ 5 → length r < 5 → is_past b r ≡ not (nat_lt (place_of r) (place_of (take 4 b) + 1))
past_short b r l m = alike_same _ _ (short_hold (λ b r. alike (is_past b r) (not (nat_lt (place_from 5 r) (place_from 5 (take 4 b) + 1)))) tt b r l m)

pub past_long : (b r : List Bool) → length b ≡ 5 → 5 ≤ length r → is_past b r ≡ not (nat_lt (child_of r) (child_of b + 1))
past_long b r l m =
    sym (past_front 5 b r (omega (arith, l)))
    ∙ alike_same _ _ (five_hold (λ b r. alike (is_past b r) (not (nat_lt (number_from 5 r) (number_from 5 b + 1)))) tt b (take 5 r) l (omega (arith, length-take 5 r, m)))
    ∙ ap (λ n. not (nat_lt n (child_of b + 1))) (number-take 5 r)

pub from_short : (i : Bool) (q r : List Bool) → length q < 5 → length r < 5 → is_from q i r ≡ not (nat_lt (place_of r) (cond i (place_of q) (place_of q + 1)))
from_short true q r l m = alike_same _ _ (both_hold (λ q r. alike (is_from q true r) (not (nat_lt (place_from 5 r) (place_from 5 q)))) tt q r l m)
from_short false q r l m = alike_same _ _ (both_hold (λ q r. alike (is_from q false r) (not (nat_lt (place_from 5 r) (place_from 5 q + 1)))) tt q r l m)

from_five : (i : Bool) (q r : List Bool) → length q < 5 → length r ≡ 5 → is_from q i r ≡ not (nat_lt (child_of r) (child_of q))
from_five true q r l m = alike_same _ _ (long_hold (λ q r. alike (is_from q true r) (not (nat_lt (number_from 5 r) (number_from 5 q)))) tt q r l m)
from_five false q r l m = alike_same _ _ (long_hold (λ q r. alike (is_from q false r) (not (nat_lt (number_from 5 r) (number_from 5 q)))) tt q r l m)

pub from_long : (i : Bool) (q r : List Bool) → length q < 5 → 5 ≤ length r → is_from q i r ≡ not (nat_lt (child_of r) (child_of q))
from_long i q r l m =
    let e = less_front 5 q r (omega (arith, l)) in
    (λ j. cond i (not (is_lt (sym e.0 j))) (is_lt (sym e.1 j)))
    ∙ from_five i q (take 5 r) l (omega (arith, length-take 5 r, m)) ∙ ap (λ n. not (nat_lt n (child_of q))) (number-take 5 r)

-- the place of the longest short beginning of five bits
longest_place : (q : List Bool) → 5 ≤ length q → place_of (take 4 q) + count_ones (child_of q - child_of q % 2) ≡ child_of q - child_of q % 2 + 4
longest_place q h =
    let b = take 5 q in
    let l : length (take 5 q) ≡ 5 = omega (arith, length-take 5 q, h) in
    let n : child_of (take 5 q) ≡ child_of q = number-take 5 q in
    let t : take 4 (take 5 q) ≡ take 4 q = take-take 4 5 q (omega arith) in
    let e : child_of (take 4 (take 5 q)) ≡ child_of (take 5 q) - child_of (take 5 q) % 2 = eqb-true _ _ (each_holds 5 (λ b. eqb (number_from 5 (take 4 b)) (number_from 5 b - number_from 5 b % 2)) tt b l) in
    let f : child_of (take 4 q) ≡ child_of q - child_of q % 2 = ap child_of (sym t) ∙ e ∙ ap (λ k. k - k % 2) n in
    let p = place_from_number (take 4 q) (omega (arith, length-take 4 q)) in
    omega (arith, p, ap count_ones f, f, length-take 4 q, h)

pub after_longest : (q : List Bool) (five : ℕ) → 5 ≤ length q → child_of q ≡ five → five - five % 2 + 5 - count_ones (five - five % 2) ≡ place_of (take 4 q) + 1
after_longest q five h e = let t = longest_place q h in omega (arith, t, e, ap (λ k. count_ones (k - k % 2)) e)
