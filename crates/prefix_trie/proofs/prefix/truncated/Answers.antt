use Rattle.std.proofs.Common.{◌≤◌, ◌∙◌, ap, sym, subst, take, length}
use Rattle.trie_core.proofs.Masked.{take-prefix_bits}
use Rattle.prefix_trie.proofs.prefix.truncated.Goals as goal

pub returns-clause-bits : goal.returns-clause-bits
returns-clause-bits g c =
    let whole = subst (λ n. n ≤ g.P.R.Key.width) c.prefix_len-within.ensures.value (c.prefix_len-within.ensures.within c.requires.fits) in
    c.from_repr_len.ensures.bits ∙ c.masked_key.ensures.bits
    ∙ sym (take-prefix_bits _ _ (length (g.P.Prefix.bits c.args.prefix.now)) c.args.len whole c.requires.within)
    ∙ ap (take c.args.len) c.repr.ensures

pub returns-clause-key : goal.returns-clause-key
returns-clause-key g c =
    c.from_repr_len.ensures.masked c.masked_key.ensures.masked
    ∙ ap g.P.Prefix.of_bits (sym c.from_repr_len.ensures.bits ∙ returns-clause-bits g c)
