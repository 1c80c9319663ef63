use Rattle.std.proofs.Common.{◌≡◌, ℕ, ◌+◌, ◌-◌, ◌*◌, ◌/◌, ◌^◌, ◌<◌, ◌≤◌, Bool, true, false, List, length, take, sym, ap, subst, ◌∙◌, refl, inl, inr, nat_eq, arith}
use Rattle.std.proofs.lemmas.Bool.{cases_order}
use Rattle.std.proofs.lemmas.Bool.Decides.{nat_tests}
use Rattle.std.proofs.lemmas.Nat.{shr_below}
use Rattle.ipnet_blocks.specs.BitStrings.{begins}
use Rattle.ipnet_blocks.specs.Blocks.{digits}
use Rattle.ipnet_blocks.proofs.BitStrings.{begins_take}
use Rattle.ipnet_blocks.proofs.Strings.{digits_apart}
use Rattle.trie_core.proofs.Numbers.{take-digits}
use Rattle.trie_core.proofs.SkippedRemovals.{begins_of_take}
use Rattle.trie_core.proofs.prune.leads_to.Goals as goal

test : (a b : ℕ) (c : Bool) → (a ≡ b → c ≡ true) → (c ≡ true → a ≡ b) → nat_eq a b ≡ c
test a b true f g = let e : a ≡ b = g refl in grind (arith, nat_tests)
test a b false f g = elim (cases_order a b) [
  | inl e ↦ let z : false ≡ true = f e in cc
  | inr (inl p) ↦ grind (arith, nat_tests)
  | inr (inr p) ↦ grind (arith, nat_tests)
]

-- the string of n bits with the number a, and the first n of m bits
same_number : (n m a skip : ℕ) (q : List Bool) → n ≡ length q → n ≤ m → a < 2 ^ n → skip < 2 ^ m → digits n a ≡ q
    → nat_eq a (skip / 2 ^ (m - n)) ≡ begins q (digits m skip)
same_number n m a skip q l h b c e =
    let z : n + (m - n) ≡ m = omega (arith, h) in
    let f : skip / 2 ^ (m - n) < 2 ^ n = shr_below skip n (m - n) (subst (λ i. skip < 2 ^ i) (sym z) c) in
    let t : take n (digits m skip) ≡ digits n (skip / 2 ^ (m - n)) = take-digits n m skip h in
    test a (skip / 2 ^ (m - n)) (begins q (digits m skip))
    (λ i. begins_of_take q (digits m skip) (ap (λ j. take j (digits m skip)) (sym l) ∙ t ∙ ap (digits n) (sym i) ∙ e))
    (λ i. digits_apart n a (skip / 2 ^ (m - n)) b f
    (e ∙ sym (begins_take q (digits m skip) i).1 ∙ ap (λ j. take j (digits m skip)) (sym l) ∙ t))

pub returns : goal.returns
returns c =
    let n = c.len-len.result in
    let m = 5 * c.args.levels in
    let l : n ≡ length c.args.path.now = c.len-len.ensures in
    let z : n + (128 - n) ≡ 128 = omega (arith, c.requires.within, c.requires.levels, l) in
    let b : c.to_bits.result / 2 ^ (128 - n) < 2 ^ n =
    shr_below c.to_bits.result n (128 - n) (subst (λ i. c.to_bits.result < 2 ^ i) (sym z) c.to_bits.ensures.masked.below) in
    ap (nat_eq (c.to_bits.result / 2 ^ (128 - n))) c.from.ensures
    ∙ same_number n m (c.to_bits.result / 2 ^ (128 - n)) c.args.skip c.args.path.now l
    (omega (arith, l, c.requires.within)) b c.requires.skip
    ((λ i. digits (l i) (c.to_bits.result / 2 ^ (128 - l i))) ∙ c.to_bits.ensures.bits)
