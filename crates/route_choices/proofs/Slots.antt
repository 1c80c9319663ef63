-- Choices in their places: found, put in and taken out.
use Rattle.std.proofs.Common.{◌≡◌, ℕ, zero, suc, ◌+◌, ◌-◌, ◌<◌, ◌≤◌, Bool, true, not, cond, List, [], ◌∷◌, ◌++◌, Option, Some, None, length, take, drop, get_or, slice_set, refl, sym, ap, ◌∙◌, arith}
use Rattle.std.proofs.Math.Seq.{set-append_seam}
use Rattle.std.proofs.lemmas.List.{append-nil, drop_all, length-drop, length-take-le, take_all}
use borrow.Rule.Slice.PartMut.{mid_of, post_of, put_mid}
use Rattle.std.specs.List.{position_or_len, insert, remove}
use Rattle.route_choices.specs.Choices.{Choice}
use Rattle.route_choices.specs.InnerSlots.{filled, padded}

pub long : (n : ℕ) (cs : List Choice) → length (padded n cs) ≡ n
long zero cs = refl
long (suc n) [] = ap suc (long n [])
long (suc n) (c ∷ cs) = ap suc (long n cs)

pub filled_padded : (n : ℕ) (cs : List Choice) → length cs ≤ n → filled (padded n cs) ≡ cs
filled_padded zero [] l = refl
filled_padded zero (c ∷ cs) l = absurd (omega arith)
filled_padded (suc n) [] l = refl
filled_padded (suc n) (c ∷ cs) l = ap (λ ds. c ∷ ds) (filled_padded n cs (omega arith))

pub fewer : (xs : List (Option Choice)) → length (filled xs) ≤ length xs
fewer [] = omega arith
fewer (None ∷ xs) = omega arith
fewer (Some c ∷ xs) = let f = fewer xs in omega arith

-- found where it is in the list, or at the first that is free
pub found : (p : Choice → Bool) (q : Option Choice → Bool) → q None ≡ true → ((c : Choice) → q (Some c) ≡ p c) → (n : ℕ) (cs : List Choice) → length cs ≤ n →
    position_or_len q (padded n cs) ≡ position_or_len p cs
found p q e f zero [] l = refl
found p q e f zero (c ∷ cs) l = absurd (omega arith)
found p q e f (suc n) [] l = ap (λ b. cond (not b) (1 + position_or_len q (padded n [])) 0) e
found p q e f (suc n) (c ∷ cs) l =
    ap (λ b. cond (not b) (1 + position_or_len q (padded n cs)) 0) (f c) ∙ ap (λ k. cond (not (p c)) (1 + k) 0) (found p q e f n cs (omega arith))

-- what a place has
pub is_free : (n k : ℕ) (cs : List Choice) (d : Option Choice) → k < n → get_or (padded n cs) k d ≡ None → length cs ≤ k
is_free zero k cs d l e = absurd (omega arith)
is_free (suc n) k [] d l e = omega arith
is_free (suc n) zero (c ∷ cs) d l e = absurd (cc)
is_free (suc n) (suc k) (c ∷ cs) d l e = let r = is_free n k cs d (omega arith) e in omega arith

pub is_taken : (n k : ℕ) (cs : List Choice) (d : Option Choice) (c : Choice) → k < n → get_or (padded n cs) k d ≡ Some c → k < length cs
is_taken zero k cs d c l e = absurd (omega arith)
is_taken (suc n) zero [] d c l e = absurd (cc)
is_taken (suc n) (suc k) [] d c l e = absurd (let r = is_taken n k [] d c (omega arith) e in omega arith)
is_taken (suc n) zero (b ∷ cs) d c l e = omega arith
is_taken (suc n) (suc k) (b ∷ cs) d c l e = let r = is_taken n k cs d c (omega arith) e in omega arith

-- one more
all_but_one : (n : ℕ) (cs : List Choice) → length cs ≤ n → take n (padded (suc n) cs) ≡ padded n cs
all_but_one zero cs l = refl
all_but_one (suc n) [] l = ap (λ xs. None ∷ xs) (all_but_one n [] (omega arith))
all_but_one (suc n) (c ∷ cs) l = ap (λ xs. Some c ∷ xs) (all_but_one n cs (omega arith))

pub put_in : (n k : ℕ) (cs : List Choice) (c : Choice) → k ≤ length cs → length cs < n → take k (padded n cs) ++ Some c ∷ take (n - (k + 1)) (drop k (padded n cs)) ≡ padded n (insert cs k c)
put_in zero k cs c l m = absurd (omega arith)
put_in (suc n) zero cs c l m =
    let e : suc n - (0 + 1) ≡ n = omega arith in
    ap (λ j. Some c ∷ take j (padded (suc n) cs)) e ∙ ap (λ xs. Some c ∷ xs) (all_but_one n cs (omega arith))
put_in (suc n) (suc k) [] c l m = absurd (omega arith)
put_in (suc n) (suc k) (d ∷ cs) c l m =
    let e : suc n - (suc k + 1) ≡ n - (k + 1) = omega arith in
    ap (λ j. Some d ∷ (take k (padded n cs) ++ Some c ∷ take j (drop k (padded n cs)))) e ∙ ap (λ xs. Some d ∷ xs) (put_in n k cs c (omega arith) (omega arith))

-- one less
one_free : (n : ℕ) (cs : List Choice) → length cs ≤ n → padded n cs ++ None ∷ [] ≡ padded (suc n) cs
one_free zero [] l = refl
one_free zero (c ∷ cs) l = absurd (omega arith)
one_free (suc n) [] l = ap (λ xs. None ∷ xs) (one_free n [] (omega arith))
one_free (suc n) (c ∷ cs) l = ap (λ xs. Some c ∷ xs) (one_free n cs (omega arith))

pub taken_out : (n k : ℕ) (cs : List Choice) → k < length cs → length cs ≤ n → take k (padded n cs) ++ drop (k + 1) (padded n cs) ++ None ∷ [] ≡ padded n (remove cs k)
taken_out zero k cs l m = absurd (omega arith)
taken_out (suc n) k [] l m = absurd (omega arith)
taken_out (suc n) zero (c ∷ cs) l m = one_free n cs (omega arith)
taken_out (suc n) (suc k) (c ∷ cs) l m =
    let e : suc k + 1 ≡ suc (k + 1) = omega arith in
    ap (λ j. Some c ∷ (take k (padded n cs) ++ drop j (Some c ∷ padded n cs) ++ None ∷ [])) e ∙ ap (λ xs. Some c ∷ xs) (taken_out n k cs (omega arith) (omega arith))

-- what a turn by one to the right leaves, once the first element is another
single : {A : Type 0} (ys : List A) → 0 < length ys → (z : A) × (drop (length ys - 1) ys ≡ z ∷ [])
single [] l = absurd (omega arith)
single (y ∷ []) l = (y, refl)
single (y ∷ z ∷ ys) l =
    let r = single (z ∷ ys) (omega arith) in
    let e : length (y ∷ z ∷ ys) - 1 ≡ suc (length (z ∷ ys) - 1) = omega arith in
    (r.0, ap (λ k. drop k (y ∷ z ∷ ys)) e ∙ r.1)

pub turned : {A : Type 0} (xs : List A) (at : ℕ) (s : A) (new : List A) → at < length xs →
    new ≡ drop (length (mid_of at (length xs - at) xs) - 1) (mid_of at (length xs - at) xs) ++ take (length (mid_of at (length xs - at) xs) - 1) (mid_of at (length xs - at) xs) →
    slice_set (put_mid at (length xs - at) xs new) at s ≡ take at xs ++ s ∷ take (length xs - (at + 1)) (drop at xs)
turned {A} xs at s new l e =
    let ys : List A = drop at xs in
    let m : length ys ≡ length xs - at = length-drop at xs in
    let r : mid_of at (length xs - at) xs ≡ ys = take_all (length xs - at) ys (omega arith) in
    let one = single ys (omega arith) in
    let turn : new ≡ one.0 ∷ take (length ys - 1) ys = e ∙ ap (λ zs. drop (length zs - 1) zs ++ take (length zs - 1) zs) r ∙ ap (λ zs. zs ++ take (length ys - 1) ys) one.1 in
    let none : post_of at (length xs - at) xs ≡ [] = drop_all (length xs - at) ys (omega arith) in
    let whole : new ++ post_of at (length xs - at) xs ≡ one.0 ∷ take (length ys - 1) ys = ap (λ zs. new ++ zs) none ∙ append-nil new ∙ turn in
    let k : length ys - 1 ≡ length xs - (at + 1) = omega arith in
    ap (λ zs. slice_set (take at xs ++ zs) at s) whole
    ∙ ap (λ j. slice_set (take at xs ++ one.0 ∷ take (length ys - 1) ys) j s) (sym (length-take-le at xs (omega arith)))
    ∙ set-append_seam (take at xs) one.0 (take (length ys - 1) ys) s
    ∙ ap (λ j. take at xs ++ s ∷ take j ys) k

-- places of which each is free, and one choice in the first
nones : (n : ℕ) (xs : List (Option Choice)) → length xs ≡ n → ((i : ℕ) (d : Option Choice) → i < n → get_or xs i d ≡ None) → xs ≡ padded n []
nones zero [] e h = refl
nones zero (x ∷ xs) e h = absurd (omega arith)
nones (suc n) [] e h = absurd (omega arith)
nones (suc n) (x ∷ xs) e h =
    let first : x ≡ None = h 0 x (omega arith) in
    ap (λ y. y ∷ xs) first ∙ ap (λ ys. None ∷ ys) (nones n xs (omega arith) (λ i d l. h (suc i) d (omega arith)))

pub one_put : (n : ℕ) (xs : List (Option Choice)) (c : Choice) → 0 < n → length xs ≡ n → ((i : ℕ) (d : Option Choice) → i < n → get_or xs i d ≡ None) → slice_set xs 0 (Some c) ≡ padded n (c ∷ [])
one_put zero xs c l e h = absurd (omega arith)
one_put (suc n) xs c l e h = ap (λ ys. slice_set ys 0 (Some c)) (nones (suc n) xs e h)
