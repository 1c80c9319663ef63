use Rattle.std.proofs.Common.{◌≡◌, ◌+◌, ◌-◌, ◌*◌, ◌^◌, ◌<◌, subst, sym, arith}
use Rattle.std.proofs.lemmas.Nat.{shr_below}
use Rattle.trie_core.proofs.insert.shared.Goals as goal

pub starts-requires-clause-skip : goal.starts-requires-clause-skip
starts-requires-clause-skip c =
    let n = 5 * (c.level.count + 1) in
    let k = 5 * (c.args.levels - c.level.count - 1) in
    let e : n + k ≡ 5 * c.args.levels = omega (arith, c.level.invariant.fewer) in
    shr_below c.args.skip n k (subst (λ i. c.args.skip < 2 ^ i) (sym e) c.requires.skip)
