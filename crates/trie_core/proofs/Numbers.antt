-- The numbers of places and children: they rise in the order of a walk, and each gives its string back.
use Rattle.std.proofs.Common.{◌≡◌, ℕ, zero, suc, ◌+◌, ◌-◌, ◌*◌, ◌/◌, ◌%◌, ◌^◌, ◌<◌, ◌≤◌, Bool, true, false, cond, ◌==◌, List, [], ◌∷◌, ◌++◌, length, take, drop, refl, sym, ap, ◌∙◌, inl, inr, nat_lt, if◌then◌else◌, count_ones, Less, add-mul, one-mul, zero-mul, zero-add, take_at, length-take-le, arith}
use Rattle.std.proofs.lemmas.Bool.Decides.{nat_tests}
use Rattle.std.proofs.lemmas.Nat.{pow_pos, pow-add, mod-pow-add, ones_cat, shr-shr}
use Rattle.ipnet_blocks.specs.Blocks.{digits}
use Rattle.ipnet_blocks.proofs.Strings.{length-digits, digits_front}
use Rattle.trie_core.specs.Bits.{number_from}
use Rattle.ipnet_blocks.specs.BitStrings.{bits_cmp}
use Rattle.trie_core.specs.InnerPlaces.{place_from, place_of, child_of, place_at, place_string, child_string}
use Rattle.std.proofs.lemmas.Bool.{cases_lt}

pub ones_bit : (b : ℕ) → b < 2 → count_ones b ≡ b
unfolding lib.Count.ones
ones_bit zero h = refl
ones_bit (suc zero) h = refl
ones_bit (suc (suc b)) h = absurd (omega (arith, h))

pub double : (i : ℕ) → 2 ^ suc i ≡ 2 * 2 ^ i
double i = omega arith

-- ---- places

pub place_bound : (k : ℕ) (bs : List Bool) → length bs < k → place_from k bs + 1 < 2 ^ k
place_bound zero bs h = absurd (omega (arith, h))
place_bound (suc k) [] h = omega (arith, double k, pow_pos k)
place_bound (suc k) (b ∷ bs) h = grind (arith, double k, pow_pos k, place_bound k bs)

pub place_less : (k : ℕ) (xs ys : List Bool) → length xs < k → length ys < k → place_from k xs < place_from k ys → bits_cmp xs ys ≡ Less
place_less zero xs ys l m p = absurd (omega (arith, l))
place_less (suc k) [] ys l m p = grind arith
place_less (suc k) (x ∷ xs) ys l m p = grind (arith, place_less k xs, place_bound k)

place_at_first : (k n : ℕ) → n < 2 ^ k - 1 → place_at (suc k) (suc n) ≡ false ∷ place_at k n
place_at_first k n h = let e : nat_lt n (2 ^ k - 1) ≡ true = grind (arith, nat_tests) in ap (λ b. if b then (false ∷ place_at k n) else (true ∷ place_at k (n - (2 ^ k - 1)))) e

place_at_second : (k n : ℕ) → 2 ^ k - 1 ≤ n → place_at (suc k) (suc n) ≡ true ∷ place_at k (n - (2 ^ k - 1))
place_at_second k n h = let e : nat_lt n (2 ^ k - 1) ≡ false = grind (arith, nat_tests) in ap (λ b. if b then (false ∷ place_at k n) else (true ∷ place_at k (n - (2 ^ k - 1)))) e

-- a string of fewer than k bits stands at its place
pub place_at-place_from : (k : ℕ) (bs : List Bool) → length bs < k → place_at k (place_from k bs) ≡ bs
place_at-place_from zero bs h = absurd (omega (arith, h))
place_at-place_from (suc k) [] h = refl
place_at-place_from (suc k) (true ∷ bs) h =
    let z : 2 ^ k - 1 + place_from k bs - (2 ^ k - 1) ≡ place_from k bs = omega arith in
    place_at_second k (2 ^ k - 1 + place_from k bs) (omega arith) ∙ ap (λ n. true ∷ place_at k n) z ∙ ap (λ xs. true ∷ xs) (place_at-place_from k bs (omega (arith, h)))
place_at-place_from (suc k) (false ∷ bs) h =
    let z : 0 + place_from k bs ≡ place_from k bs = omega arith in
    ap (λ n. place_at (suc k) (suc n)) z ∙ place_at_first k (place_from k bs) (omega (arith, place_bound k bs (omega (arith, h)))) ∙ ap (λ xs. false ∷ xs) (place_at-place_from k bs (omega (arith, h)))

-- each of the 2 ^ k - 1 places has a string of fewer than k bits
pub record IsPlaceString (k n : ℕ) (bs : List Bool) : Type 0 where
  pub short : length bs < k
  pub place : place_from k bs ≡ n

pub is_place_string : (k n : ℕ) → n < 2 ^ k - 1 → IsPlaceString k n (place_at k n)
is_place_string zero n h = absurd (omega (arith, h))
is_place_string (suc k) zero h = record { short = omega arith; place = refl }
is_place_string (suc k) (suc n) h = elim (cases_lt n (2 ^ k - 1)) [
  | inl l ↦ let r = is_place_string k n l in rw (place_at_first k n l) (record { short = omega (arith, r.short); place = omega (arith, r.place) })
  | inr l ↦ let r = is_place_string k (n - (2 ^ k - 1)) (omega (arith, h, l, double k)) in rw (place_at_second k n l) (record { short = omega (arith, r.short); place = omega (arith, r.place, l) })
]

pub place_string-place_of : (q : List Bool) → length q < 5 → place_string (place_of q) ≡ q
unfolding place_string
place_string-place_of q h = place_at-place_from 5 q h

pub place_strings : (n : ℕ) → n < 31 → IsPlaceString 5 n (place_string n)
unfolding place_string
place_strings n h = is_place_string 5 n h

-- ---- numbers

pub number_bound : (k : ℕ) (bs : List Bool) → number_from k bs < 2 ^ k
number_bound k [] = pow_pos k
number_bound zero (b ∷ bs) = omega arith
number_bound (suc k) (b ∷ bs) = grind (arith, double k, number_bound k bs)

pub number_less : (k : ℕ) (xs ys : List Bool) → length xs ≡ k → length ys ≡ k → number_from k xs < number_from k ys → bits_cmp xs ys ≡ Less
number_less k [] [] l m p = absurd (omega (arith, p))
number_less k [] (y ∷ ys) l m p = refl
number_less zero (x ∷ xs) ys l m p = absurd (omega (arith, l))
number_less (suc k) (x ∷ xs) ys l m p = grind (arith, number_less k xs, number_bound k)

-- strings of one length differ where their numbers do
pub number_apart : (k : ℕ) (xs ys : List Bool) → length xs ≡ length ys → length xs ≤ k → number_from k xs ≡ number_from k ys → xs ≡ ys
number_apart k [] [] l m p = refl
number_apart k [] (y ∷ ys) l m p = absurd (omega (arith, l))
number_apart k (x ∷ xs) [] l m p = absurd (omega (arith, l))
number_apart zero (x ∷ xs) (y ∷ ys) l m p = absurd (omega (arith, m))
number_apart (suc k) (x ∷ xs) (y ∷ ys) l m p = grind (arith, number_apart k xs ys, number_bound k xs, number_bound k ys)

pub number-take : (k : ℕ) (xs : List Bool) → number_from k (take k xs) ≡ number_from k xs
number-take zero [] = refl
number-take zero (x ∷ xs) = refl
number-take (suc k) [] = refl
number-take (suc k) (x ∷ xs) = ap (λ n. cond x (2 ^ k) 0 + n) (number-take k xs)

-- ---- digits

-- the first digit, and the others
pub digits_first : (n q : ℕ) → digits (suc n) q ≡ (q / 2 ^ n % 2 == 1) ∷ digits n q
digits_first zero q = let e : q / 2 ^ 0 ≡ q = omega arith in rw e refl
digits_first (suc n) q =
    let e : q / 2 / 2 ^ n ≡ q / 2 ^ suc n = shr-shr q 1 n ∙ ap (λ i. q / 2 ^ i) (let z : 1 + n ≡ suc n = omega arith in z) in
    ap (λ ds. ds ++ (q % 2 == 1) ∷ []) (digits_first n (q / 2)) ∙ ap (λ x. (x % 2 == 1) ∷ (digits n (q / 2) ++ (q % 2 == 1) ∷ [])) e

pub take-digits : (m n q : ℕ) → m ≤ n → take m (digits n q) ≡ digits m (q / 2 ^ (n - m))
take-digits m n q h =
    let t = digits_front m (n - m) q in
    let e : m + (n - m) ≡ n = omega arith in
    ap (λ i. take m (digits i q)) (sym e) ∙ ap (take m) t.1 ∙ take_at (digits m (q / 2 ^ (n - m))) t.0 m (length-digits m (q / 2 ^ (n - m)))

pub drop-digits : (m n q : ℕ) → m ≤ n → drop m (digits n q) ≡ digits (n - m) q
drop-digits zero n q h = let e : n - 0 ≡ n = omega arith in rw e refl
drop-digits (suc m) zero q h = absurd (omega (arith, h))
drop-digits (suc m) (suc n) q h = let e : suc n - suc m ≡ n - m = omega arith in ap (drop (suc m)) (digits_first n q) ∙ rw e (drop-digits m n q (omega (arith, h)))

bit_of : (x : ℕ) (b : Bool) → (x % 2 == 1) ≡ b → x % 2 ≡ cond b 1 0
bit_of x b e = grind (arith, nat_tests)

low_part : (q n : ℕ) → q % 2 ^ suc n ≡ (q / 2 ^ n % 2) * 2 ^ n + q % 2 ^ n
low_part q n = let e : suc n ≡ 1 + n = omega arith in rw e (mod-pow-add q 1 n)

number_step : (k n q t : ℕ) (b : Bool) → q / 2 ^ n % 2 ≡ cond b 1 0 → 2 ^ n * t ≡ 2 ^ k → number_from k (digits n q) ≡ q % 2 ^ n * t → cond b (2 ^ k) 0 + number_from k (digits n q) ≡ q % 2 ^ suc n * t
number_step k n q t true e f g = rw (low_part q n, e, add-mul (1 * 2 ^ n) (q % 2 ^ n) t, g, one-mul (2 ^ n), f) (omega arith)
number_step k n q t false e f g = rw (low_part q n, e, zero-mul (2 ^ n), zero-add (q % 2 ^ n), g) (omega arith)

-- the number of fewer digits has zeros after it
pub number-digits : (k n q : ℕ) → n ≤ k → number_from k (digits n q) ≡ q % 2 ^ n * 2 ^ (k - n)
number-digits k zero q h = let e : q % 2 ^ 0 ≡ 0 = omega arith in rw (e, zero-mul (2 ^ (k - 0))) refl
number-digits zero (suc n) q h = absurd (omega (arith, h))
number-digits (suc k) (suc n) q h =
    let d : suc k - suc n ≡ k - n = omega arith in
    let w : n + (k - n) ≡ k = omega arith in
    rw d (ap (number_from (suc k)) (digits_first n q) ∙ number_step k n q (2 ^ (k - n)) (q / 2 ^ n % 2 == 1) (bit_of (q / 2 ^ n) _ refl) (sym (pow-add 2 n (k - n)) ∙ ap (λ i. 2 ^ i) w) (number-digits k n q (omega arith)))

pub one_power : (m k : ℕ) → m * 2 ^ (k - k) ≡ m
one_power m k = let z : k - k ≡ 0 = omega arith in ap (λ i. m * 2 ^ i) z ∙ omega arith

-- and that of more digits is the number of the first ones
pub number-long : (k n q : ℕ) → k ≤ n → number_from k (digits n q) ≡ q / 2 ^ (n - k) % 2 ^ k
number-long k n q h = sym (number-take k (digits n q)) ∙ ap (number_from k) (take-digits k n q h) ∙ number-digits k k (q / 2 ^ (n - k)) (omega arith) ∙ one_power (q / 2 ^ (n - k) % 2 ^ k) k

-- ---- children

pub child_of-string : (n : ℕ) → n < 32 → child_of (child_string n) ≡ n
unfolding child_string
child_of-string n h = number-digits 5 5 n (omega arith) ∙ one_power (n % 2 ^ 5) 5 ∙ omega (arith, h)

pub length-child_string : (n : ℕ) → length (child_string n) ≡ 5
unfolding child_string
length-child_string n = length-digits 5 n

pub child_string-child_of : (q : List Bool) → 5 ≤ length q → child_string (child_of q) ≡ take 5 q
child_string-child_of q h =
    let l : length (take 5 q) ≡ 5 = length-take-le 5 q h in
    number_apart 5 (child_string (child_of q)) (take 5 q) (omega (arith, length-child_string (child_of q), l)) (omega (arith, length-child_string (child_of q))) (child_of-string (child_of q) (number_bound 5 q) ∙ sym (number-take 5 q))

-- ---- the number of a place from the number that its bits form

place_by_ones : (k : ℕ) (bs : List Bool) → length bs ≤ k → place_from k bs + count_ones (number_from k bs) ≡ number_from k bs + length bs
place_by_ones k [] h = omega (arith, ones_bit 0 (omega arith))
place_by_ones zero (b ∷ bs) h = absurd (omega (arith, h))
place_by_ones (suc k) (true ∷ bs) h =
    let e : 2 ^ k + number_from k bs ≡ 1 * 2 ^ k + number_from k bs = omega arith in
    let o = ap count_ones e ∙ ones_cat k 1 (number_from k bs) (number_bound k bs) in
    omega (arith, o, ones_bit 1 (omega arith), place_by_ones k bs (omega (arith, h)), pow_pos k)
place_by_ones (suc k) (false ∷ bs) h =
    let e : 0 + number_from k bs ≡ number_from k bs = omega arith in
    omega (arith, ap count_ones e, place_by_ones k bs (omega (arith, h)))

pub place_from_number : (q : List Bool) → length q < 5 → place_of q + count_ones (child_of q) ≡ child_of q + length q
place_from_number q h = place_by_ones 5 q (omega (arith, h))
