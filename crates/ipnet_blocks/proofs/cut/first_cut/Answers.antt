use Rattle.std.proofs.Common.{◌≡◌, ◌+◌, ◌-◌, ◌^◌, ◌<◌, ◌≤◌, ap, sym, ◌∙◌, arith, ℕ}
use Rattle.std.proofs.lemmas.Nat.{pow_pos}
use Rattle.std.proofs.Math.Nat.{pow-le-pow_right}
use Rattle.ipnet_blocks.specs.Cuts.{first_free}
use Rattle.ipnet_blocks.proofs.Cuts.{next_fits, after_greatest, after_last, after_more}
use Rattle.ipnet_blocks.proofs.cut.first_cut.Goals as goal

-- the block ends in the family
room : (w s e m free ones : ℕ) → s ≤ e → e < 2 ^ w → free ≡ first_free w (record { start = s; end = e; shortest = m }) → ones ≡ 2 ^ free - 1
    → (s + ones + 1 ≡ s + 2 ^ first_free w (record { start = s; end = e; shortest = m })) × (s + ones + 1 ≤ 2 ^ w)
room w s e m free ones le top is h =
    let p = ap (λ n. 2 ^ n) is in
    let some = pow_pos free in
    let fits = next_fits w (record { start = s; end = e; shortest = m }) le top in
    (omega arith, omega arith)

pub overflow_add-last : goal.overflow_add-last
overflow_add-last c =
    let r = room c.args.width c.args.start c.args.end c.args.shortest _ _ c.requires.order c.requires.end_fits c.free_bits-free.ensures.greatest c.ones.ensures in
    let top : 2 ^ c.args.width ≤ 2 ^ 128 = pow-le-pow_right (omega arith) c.requires.wide in
    record { fits = omega (arith, r.1) }

pub overflow_add-result : goal.overflow_add-result
overflow_add-result c =
    let r = room c.args.width c.args.start c.args.end c.args.shortest _ _ c.requires.order c.requires.end_fits c.free_bits-free.ensures.greatest c.ones.ensures in
    let top : 2 ^ c.args.width ≤ 2 ^ 128 = pow-le-pow_right (omega arith) c.requires.wide in
    record { fits = omega (arith, r.1) }

pub returns-then-last-greatest-clause-limits : goal.returns-then-last-greatest-clause-limits
returns-then-last-greatest-clause-limits c =
    let m = c.args.shortest in
    let r = room c.args.width c.args.start c.args.end m _ _ c.requires.order c.requires.end_fits c.free_bits-free.ensures.greatest c.ones.ensures in
    let e : c.ones-greatest.result ≡ 2 ^ c.args.width - 1 = omega arith in
    ap (λ n. record { start = n; end = 0; shortest = m }) e ∙ sym (after_greatest c.args.width (record { start = c.args.start; end = c.args.end; shortest = m }) c.requires.order (omega arith))

pub returns-then-start-end-clause-limits : goal.returns-then-start-end-clause-limits
returns-then-start-end-clause-limits c =
    let m = c.args.shortest in
    let r = room c.args.width c.args.start c.args.end m _ _ c.requires.order c.requires.end_fits c.free_bits-free.ensures.greatest c.ones.ensures in
    ap (λ n. record { start = n; end = 0; shortest = m }) r.0 ∙ sym (after_last c.args.width (record { start = c.args.start; end = c.args.end; shortest = m }) c.requires.order (omega arith) c.if-start-end.true)

pub returns-then-start-end-clause-start_fits : goal.returns-then-start-end-clause-start_fits
returns-then-start-end-clause-start_fits c =
    let r = room c.args.width c.args.start c.args.end c.args.shortest _ _ c.requires.order c.requires.end_fits c.free_bits-free.ensures.greatest c.ones.ensures in
    omega arith

pub returns-else-start-end-clause-limits : goal.returns-else-start-end-clause-limits
returns-else-start-end-clause-limits c =
    let m = c.args.shortest in
    let r = room c.args.width c.args.start c.args.end m _ _ c.requires.order c.requires.end_fits c.free_bits-free.ensures.greatest c.ones.ensures in
    ap (λ n. record { start = n; end = c.args.end; shortest = m }) r.0 ∙ sym (after_more c.args.width (record { start = c.args.start; end = c.args.end; shortest = m }) c.requires.order (omega arith) c.if-start-end.false)

pub returns-else-start-end-clause-start_fits : goal.returns-else-start-end-clause-start_fits
returns-else-start-end-clause-start_fits c =
    let r = room c.args.width c.args.start c.args.end c.args.shortest _ _ c.requires.order c.requires.end_fits c.free_bits-free.ensures.greatest c.ones.ensures in
    omega arith
