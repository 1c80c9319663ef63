use Rattle.std.proofs.Common.{◌∙◌, ap, sym, subst, ◌<◌, ◌^◌}
use Rattle.prefix_trie.proofs.Cleared.{is_cleared}
use Rattle.trie_core.proofs.Masked.{is_masked, masked_bits, number-prefix}
use Rattle.prefix_trie.proofs.prefix.masked_key.Goals as goal

pub returns-clause-number : goal.returns-clause-number
returns-clause-number g c =
    let t = is_cleared g.R.Key.width c.width.result (g.R.Key.number c.args.key) c.to_bits.result c.args.len c.width.ensures.value c.width.ensures.within c.to_bits.ensures.value c.to_bits.ensures.below in
    ap g.R.Key.number c.from_bits-2.ensures ∙ g.met.R.Key.numbered _ t.small ∙ t.cut ∙ sym (number-prefix g.R.Key.width (g.R.Key.number c.args.key) c.args.len (subst (λ n. n < 2 ^ g.R.Key.width) c.to_bits.ensures.value c.to_bits.ensures.below) c.requires)

pub returns-clause-masked : goal.returns-clause-masked
returns-clause-masked g c =
    let t = is_cleared g.R.Key.width c.width.result (g.R.Key.number c.args.key) c.to_bits.result c.args.len c.width.ensures.value c.width.ensures.within c.to_bits.ensures.value c.to_bits.ensures.below in
    is_masked g.R.Key.width (g.R.Key.number c.args.key) c.args.len _ (subst (λ n. n < 2 ^ g.R.Key.width) c.to_bits.ensures.value c.to_bits.ensures.below) (ap g.R.Key.number c.from_bits-2.ensures ∙ g.met.R.Key.numbered _ t.small ∙ t.cut)

pub returns-clause-bits : goal.returns-clause-bits
returns-clause-bits g c =
    let t = is_cleared g.R.Key.width c.width.result (g.R.Key.number c.args.key) c.to_bits.result c.args.len c.width.ensures.value c.width.ensures.within c.to_bits.ensures.value c.to_bits.ensures.below in
    masked_bits g.R.Key.width (g.R.Key.number c.args.key) c.args.len _ (ap g.R.Key.number c.from_bits-2.ensures ∙ g.met.R.Key.numbered _ t.small ∙ t.cut)
