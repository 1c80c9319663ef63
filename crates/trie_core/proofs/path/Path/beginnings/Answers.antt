use Rattle.std.proofs.Common.{◌≡◌, ◌<◌, ◌≤◌, ◌+◌, ◌*◌, ◌%◌, ◌^◌, ap, sym, subst, length, arith, ℕ, suc}
use Rattle.std.proofs.Math.Facts.{Fits-of_lt}
use Rattle.std.proofs.Math.Nat.{pow-le-pow_right, mod-le}
use Rattle.std.proofs.lemmas.Bool.Decides.{nat_tests}
use Rattle.trie_core.specs.InnerPlaces.{place_of, IsBeginMask}
use Rattle.trie_core.proofs.path.Path.beginnings.Goals as goal

-- the bit of a place, doubled
doubled : (b n m : ℕ) → b ≡ 2 ^ n → n ≡ m → 2 * b ≡ 2 ^ (m + 1)
doubled b n m e f = let z : m + 1 ≡ suc m = omega arith in omega (arith, e, ap (λ i. 2 ^ i) f, ap (λ i. 2 ^ i) z)

pub returns-then-is_short-clause-mask : goal.returns-then-is_short-clause-mask
returns-then-is_short-clause-mask c =
    let h : length c.args.self.now < 5 = grind (arith, nat_tests) in
    subst (λ n. IsBeginMask c.args.self.now (c.beginnings-all.result % n)) (sym (doubled c.bit.result c.place.result (place_of c.args.self.now) c.bit.ensures c.place.ensures.value)) (c.beginnings-all.ensures.short c.args.self.now h (sym c.five.ensures.value))

pub returns-then-is_short-clause-below : goal.returns-then-is_short-clause-below
returns-then-is_short-clause-below c = omega (arith, c.beginnings-all.ensures.below, mod-le c.beginnings-all.result (2 * c.bit.result))

pub returns-clause-mask : goal.returns-clause-mask
returns-clause-mask c =
    let h : 5 ≤ length c.args.self.now = grind (arith, nat_tests) in
    c.beginnings-all.ensures.long c.args.self.now h (sym c.five.ensures.value)

pub overflow_mul-result : goal.overflow_mul-result
overflow_mul-result c =
    let z : c.place.result + 1 ≡ suc c.place.result = omega arith in
    let b : 2 ^ (c.place.result + 1) ≤ 2 ^ 31 = let l : c.place.result + 1 ≤ 31 = omega (arith, c.place.ensures.below) in pow-le-pow_right {n = 2} (omega arith) l in
    Fits-of_lt (omega (arith, b, ap (λ i. 2 ^ i) z, c.bit.ensures))
