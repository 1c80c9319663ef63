use Rattle.std.proofs.Common.{◌-◌, ◌*◌, ◌/◌, ◌^◌, ◌<◌, ◌≤◌, sym, ◌∙◌, eqb-true, eq-eqb, arith}
use Rattle.trie_core.proofs.Aligned.{path_length}
use Rattle.trie_core.proofs.Past.{ends}
use Rattle.trie_core.proofs.path.Path.ends_in.Goals as goal

pub returns-then-self-count : goal.returns-then-self-count
returns-then-self-count c =
    let l = path_length {n = c.self.inside.len} _ c.self.view_is in
    (λ h. absurd (cc), λ s. absurd (omega (arith, s.0, l, c.if-self-count.true)))

pub returns : goal.returns
returns c =
    let l : c.self.inside.len < 5 * c.args.levels = omega (arith, c.if-self-count.false) in
    let few : 5 * c.args.levels ≤ 128 = omega (arith, c.requires.levels) in
    let t = ends c.args.levels c.args.skip c.self.inside.bits c.self.inside.len
    c.self.invariant c.self.view_is l few c.requires.skip in
    let w = c.self.inside.bits / 2 ^ (128 - 5 * c.args.levels) / 2 ^ (5 * c.args.levels - c.self.inside.len) in
    (λ h. t.0 (eqb-true w c.from.result h ∙ c.from.ensures), λ s. eq-eqb w c.from.result (t.1 s ∙ sym c.from.ensures))
