use Rattle.std.proofs.Common.{◌≡◌, ℕ, ◌+◌, ◌-◌, ◌*◌, ◌^◌, ◌<◌, ap, ◌∙◌, pow-add, pow_mono, arith}
use Rattle.std.proofs.Math.Facts.{Fits-of_lt}
use lib.Arith.{digits_lt}
use Rattle.trie_core.specs.InnerChains.{chain, skipped}
use Rattle.trie_core.proofs.Shapes.{joined_same}
use Rattle.trie_core.proofs.remove.joined.Goals as goal

-- the bits of the levels and of one more
more : (skip n levels : ℕ) → skip < 2 ^ (5 * levels) → n < 32 → skip * 32 + n < 2 ^ (5 * levels + 5)
more skip n levels h l = omega (arith, digits_lt {c = 32} h l, pow-add 2 (5 * levels) 5)

pub overflow_mul-skip : goal.overflow_mul-skip
overflow_mul-skip g c = Fits-of_lt (omega (arith, c.requires.skip, pow_mono {i = 5 * c.args.levels} {j = 25} (omega (arith, c.requires.levels))))

pub with_low-requires-clause-high : goal.with_low-requires-clause-high
with_low-requires-clause-high g c =
    let f = c.in-Ok.ensures.few in
    let m = more c.args.skip c.from.result c.args.levels c.requires.skip (omega (arith, c.from.ensures, f.0)) in
    omega (arith, m, pow_mono {i = 5 * c.args.levels + 5} {j = 25 - 5 * c.in-Ok.below} (omega (arith, c.requires.levels, f.1)))

pub invariant_of-result-2 : goal.invariant_of-result-2
invariant_of-result-2 g c =
    let f = c.in-Ok.ensures.few in
    let m = more c.args.skip c.from.result c.args.levels c.requires.skip (omega (arith, c.from.ensures, f.0)) in
    let e : 5 * c.args.levels + 5 + 5 * c.in-Ok.below ≡ 5 * (c.args.levels + c.in-Ok.below + 1) = omega arith in
    (omega (arith, c.requires.levels, f.1), omega (arith, c.with_low.ensures, digits_lt m f.2, pow-add 2 (5 * c.args.levels + 5) (5 * c.in-Ok.below), ap (λ i. 2 ^ i) e))

pub returns : goal.returns
returns g c =
    let f = c.in-Ok.ensures.few in
    let e = c.with_low.ensures ∙ ap (λ n. (c.args.skip * 32 + n) * 2 ^ (5 * c.in-Ok.below) + c.in-Ok.low) c.from.ensures in
    ap (λ s. chain (c.args.levels + c.in-Ok.below + 1) (skipped (c.args.levels + c.in-Ok.below + 1) s) c.in-Ok.branch) e
    ∙ joined_same c.args.levels c.in-Ok.below c.args.skip c.in-Ok.number c.in-Ok.low c.in-Ok.branch c.args.branch f.0 f.2 c.in-Ok.ensures.only
