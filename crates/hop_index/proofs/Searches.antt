-- How many of ascending ranges end below a number, and its hop.
use Rattle.std.proofs.Common.{rules, ◌≡◌, ℕ, zero, suc, ◌+◌, ◌-◌, ◌*◌, ◌/◌, ◌^◌, ◌<◌, ◌≤◌, ⊎_elim, true, false, cond, nat_le, List, [], ◌∷◌, ◌++◌, Option, None, length, refl, sym, ap, ◌∙◌, arith}
use Rattle.std.proofs.lemmas.Bool.{cases_lt, cond_both}
use Rattle.std.proofs.lemmas.Bool.Decides.{nat_tests}
use Rattle.std.proofs.lemmas.Nat.{le-div, pow_pos}
use Rattle.std.proofs.Math.Nat.{div-mul-le_self, pow-le-pow_right}
use Rattle.std.proofs.lemmas.List.{append-nil, get_or_push, length_push}
use Rattle.std.proofs.lemmas.List.Elements.{All-cons, All-nil, All-tail, All-weaker}
use Rattle.std.proofs.lemmas.List.Quantifiers.{all_pairs_push}
use Rattle.hop_index.specs.Ranges.{HopRange, hop_in}
use Rattle.hop_index.specs.InnerRanges.{AreAscending, ArePadded, EndBelow, IsBetween, head_of, range_at}

pub no_lower : (rs : List HopRange) → AreAscending rs → (j k : ℕ) → j ≤ k → k < length rs → (range_at rs j).last ≤ (range_at rs k).last
no_lower rs up j k le l = grind (arith, up j k (record { last = 0; hop = None }))

-- more at least, if the ranges up to there end below
pub raised : (rs : List HopRange) (x low high more : ℕ) → more ≤ high → ((k : ℕ) → low ≤ k → k < more → (range_at rs k).last < x) → IsBetween rs x low high → IsBetween rs x more high
raised rs x low high more le f b = record { order = le; within = b.within; below = λ k l. ⊎_elim (b.below k) (λ from. f k from l) (cases_lt k low); from = b.from }

-- fewer at most, if the range there doesn't end below
pub lowered : (rs : List HopRange) → AreAscending rs → (x low high fewer : ℕ) → low ≤ fewer → fewer ≤ high → (fewer < high → x ≤ (range_at rs fewer).last) → IsBetween rs x low high → IsBetween rs x low fewer
lowered rs up x low high fewer order le f b =
    let within = b.within in
    let later : (k : ℕ) → fewer ≤ k → k < length rs → x ≤ (range_at rs k).last = λ k from k_in. grind (arith, no_lower rs up fewer k, b.from k) in
    search (rules, b.below, later)

-- a later bound
pub below_later : (rs : List HopRange) (x y : ℕ) → x ≤ y → EndBelow x rs → EndBelow y rs
below_later rs x y le = All-weaker (λ r. r.last < x) (λ r. r.last < y) (λ r l. omega arith) rs

-- at least four ranges do not end below a number
pub before_pads : (rs : List HopRange) (end x low high : ℕ) → ArePadded rs end → x < end → IsBetween rs x low high → low + 4 ≤ length rs
before_pads rs end x low high p le b = let f = b.below (length rs - 4) in let four = p.four in let pads = p.pads in grind arith

-- the first range has the hop if it ends at x or above, and else counts for nothing
module _ (r : HopRange) (rs : List HopRange) (x : ℕ) where
  hit : x ≤ r.last → hop_in (r ∷ rs) x ≡ r.hop
  hit le = let test : nat_le x r.last ≡ true = grind (arith, nat_tests) in ap (λ t. cond t r.hop (hop_in rs x)) test

  missed : r.last < x → hop_in (r ∷ rs) x ≡ hop_in rs x
  missed less = let test : nat_le x r.last ≡ false = grind (arith, nat_tests) in ap (λ t. cond t r.hop (hop_in rs x)) test

-- the hop of the first range that ends at x or above
pub found : (rs : List HopRange) (m x : ℕ) → m < length rs → IsBetween rs x m m → hop_in rs x ≡ (range_at rs m).hop
found [] m x l b = absurd (omega arith)
found (r ∷ rs) zero x l b = hit r rs x (b.from 0 (omega arith) l)
found (r ∷ rs) (suc m) x l b = missed r rs x (b.below 0 (omega arith)) ∙ found rs m x (omega arith) (record { order = omega arith; within = omega arith; below = λ k e. b.below (suc k) (omega arith); from = λ k le k_in. b.from (suc k) (omega arith) (omega arith) })

pub divided_ascends : (a b width : ℕ) → a ≤ b → a / 2 ^ width ≤ b / 2 ^ width
divided_ascends a b width le = let m : a / 2 ^ width * 2 ^ width ≤ a = div-mul-le_self a (2 ^ width) in le-div (a / 2 ^ width) b (2 ^ width) (pow_pos width) (omega arith)

-- numbers are ordered as their first 64 bits are, if these differ
pub head_ascends : (width x y : ℕ) → x ≤ y → head_of width x ≤ head_of width y
head_ascends width x y le = divided_ascends (x * 2 ^ 64) (y * 2 ^ 64) width (omega arith)

pub below_by_head : (width x y : ℕ) → head_of width x < head_of width y → x < y
below_by_head width x y l = ⊎_elim (λ less. less) (λ le. let u = head_ascends width y x le in absurd (omega arith)) (cases_lt x y)

-- those of numbers of at most 64 bits differ
pub from_head : (width x y : ℕ) → width ≤ 64 → head_of width x ≤ head_of width y → x ≤ y
from_head width x y few le = ⊎_elim
    (λ (less : y < x).
    let m : head_of width y * 2 ^ width ≤ y * 2 ^ 64 = div-mul-le_self (y * 2 ^ 64) (2 ^ width) in
    let p : 2 ^ width ≤ 2 ^ 64 = pow-le-pow_right (omega arith) few in
    let h : head_of width y + 1 ≤ head_of width x = le-div (head_of width y + 1) (x * 2 ^ 64) (2 ^ width) (pow_pos width) (omega arith) in
    absurd (omega arith))
    (λ more. more)
    (cases_lt y x)

-- more ranges after all that end below x
past : (rs ss : List HopRange) (x : ℕ) → EndBelow x rs → hop_in (rs ++ ss) x ≡ hop_in ss x
past [] ss x b = refl
past (r ∷ rs) ss x b = missed r (rs ++ ss) x (b 0 r (omega arith)) ∙ past rs ss x (All-tail (λ s. s.last < x) r rs b)

-- more ranges after one that ends at x or above
reached : (rs ss : List HopRange) (x : ℕ) → (EndBelow x rs → ⊥) → hop_in (rs ++ ss) x ≡ hop_in rs x
reached [] ss x n = absurd (n (All-nil (λ r. r.last < x)))
reached (r ∷ rs) ss x n = ⊎_elim
    (λ (less : r.last < x). ap (λ o. cond (nat_le x r.last) r.hop o) (reached rs ss x (λ b. n (All-cons (λ s. s.last < x) r rs less b))))
    (λ more. hit r (rs ++ ss) x more ∙ sym (hit r rs x more))
    (cases_lt r.last x)

-- one more range without a hop
pub push_none : (rs : List HopRange) (y x : ℕ) → hop_in (rs ++ record { last = y; hop = None } ∷ []) x ≡ hop_in rs x
push_none [] y x = cond_both (nat_le x y) None None (λ (o : Option ℕ). o ≡ None) (λ _. refl) (λ _. refl)
push_none (r ∷ rs) y x = ap (λ o. cond (nat_le x r.last) r.hop o) (push_none rs y x)

-- one more range with a hop, which begins after ranges that reach its first number
module _ (rs : List HopRange) (first : ℕ) (r : HopRange) (below : EndBelow first rs) where
  pub push_inside : (x : ℕ) → first ≤ x → x ≤ r.last → hop_in (rs ++ r ∷ []) x ≡ r.hop
  push_inside x from to = past rs (r ∷ []) x (below_later rs first x from below) ∙ hit r [] x to

  pub push_outside : ((x : ℕ) → x < first → EndBelow x rs → ⊥) → (x : ℕ) → (first ≤ x → x ≤ r.last → ⊥) → hop_in (rs ++ r ∷ []) x ≡ hop_in rs x
  push_outside to x out = ⊎_elim
      (λ less. reached rs (r ∷ []) x (to x less))
      (λ le.
      let more : r.last < x = ⊎_elim (λ l. l) (λ in_it. absurd (out le in_it)) (cases_lt r.last x) in
      let b = below_later rs first x le below in
      past rs (r ∷ []) x b ∙ missed r [] x more ∙ sym (ap (λ (ss : List HopRange). hop_in ss x) (sym (append-nil rs)) ∙ past rs [] x b))
      (cases_lt x first)

-- one more range that ends at the ends of the others or above
pub push_ascends : (rs : List HopRange) (r : HopRange) → AreAscending rs → EndBelow (r.last + 1) rs → AreAscending (rs ++ r ∷ [])
push_ascends rs r up below = all_pairs_push (λ s t. s.last ≤ t.last) rs r up (λ k d l. let b = below k d l in omega arith)

-- the new range is past no number up to its end
pub push_reaches : (rs : List HopRange) (r : HopRange) (x : ℕ) → x ≤ r.last → EndBelow x (rs ++ r ∷ []) → ⊥
push_reaches rs r x le b = let f = b (length rs) r (omega (arith, length_push rs r)) in let e = ap (λ (s : HopRange). s.last) (get_or_push rs r r (length rs) refl) in absurd (omega arith)
