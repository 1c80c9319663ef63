use Rattle.std.proofs.Common.{◌≡◌, ◌∙◌, ◌-◌, length, take, ap, arith}
use Rattle.trie_core.proofs.Covers.{cover_start}
use Rattle.trie_core.proofs.cover.Cover.new.Goals as goal

pub returns : goal.returns
returns g c =
    let z : length c.copied-whole.result - length c.args.path ≡ 0 = omega (arith, ap length c.copied-whole.ensures) in
    c.below.ensures.entries ∙ cover_start c.args.node.now.entries c.args.path (ap (λ i. take i c.copied-whole.result) z)
