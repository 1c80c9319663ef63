use Rattle.std.proofs.Common.{◌≡◌, ◌+◌, ◌-◌, ◌*◌, ◌/◌, ◌^◌, ◌<◌, sym, subst, arith}
use Rattle.std.proofs.lemmas.Nat.{shr_below}
use Rattle.trie_core.proofs.insert.part.Goals as goal

pub returns-in-Ok-clause-skip : goal.returns-in-Ok-clause-skip
returns-in-Ok-clause-skip g c =
    let n = 5 * c.shared-at.result in
    let k = 5 * (c.args.levels.now - c.shared-at.result) in
    let e : n + k ≡ 5 * c.args.levels.now = omega (arith, c.shared-at.ensures.fewer) in
    let b : c.args.skip.now / 2 ^ k < 2 ^ n = shr_below c.args.skip.now n k (subst (λ i. c.args.skip.now < 2 ^ i) (sym e) c.requires.skip) in
    subst (λ w. w < 2 ^ n) (sym c.in-Ok.ensures.high) b
