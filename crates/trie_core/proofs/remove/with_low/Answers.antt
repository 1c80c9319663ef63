use Rattle.std.proofs.Common.{◌≡◌, ℕ, ◌+◌, ◌-◌, ◌*◌, ◌^◌, ◌<◌, ◌≤◌, sym, ap, ◌∙◌, pow-add, arith}
use Rattle.std.proofs.Math.Facts.{Fits-of_lt}
use lib.Arith.{digits_lt}
use Rattle.trie_core.proofs.remove.with_low.Goals as goal

bound : (high low below b : ℕ) → below ≤ 4 → high < 2 ^ (25 - 5 * below) → low < 2 ^ (5 * below) → b ≡ 2 ^ (5 * below) → high * b + low < 2 ^ 25
bound high low below b h x y e =
    let z : 25 - 5 * below + 5 * below ≡ 25 = omega (arith, h) in
    let d = digits_lt x y in
    omega (arith, d, sym (pow-add 2 (25 - 5 * below) (5 * below)) ∙ ap (λ i. 2 ^ i) z, ap (λ w. high * w) e)

pub overflow_mul-result : goal.overflow_mul-result
overflow_mul-result c = Fits-of_lt (omega (arith, bound c.args.high c.args.low c.args.below c.bit.result c.requires.below c.requires.high c.requires.low c.bit.ensures))

pub overflow_add-result : goal.overflow_add-result
overflow_add-result c = Fits-of_lt (omega (arith, bound c.args.high c.args.low c.args.below c.bit.result c.requires.below c.requires.high c.requires.low c.bit.ensures))
