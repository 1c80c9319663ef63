use Rattle.std.proofs.Common.{◌∙◌, sym, arith}
use Rattle.std.proofs.lemmas.Bool.Decides.{nat_tests}
use Rattle.trie_core.proofs.Strings.{other_length}
use Rattle.prefix_trie.proofs.Same.{same_numbers}
use Rattle.prefix_trie.proofs.equal.is_same.Goals as goal

pub returns-then-len : goal.returns-then-len
returns-then-len c =
    same_numbers c.args.path.now c.args.other.now c.to_bits.result c.to_bits-then-len.result c.requires (sym c.len.ensures ∙ (c.if-len.true ∙ c.len-2.ensures)) c.to_bits.ensures.bits c.to_bits-then-len.ensures.bits c.to_bits.ensures.masked c.to_bits-then-len.ensures.masked

pub returns-else-len : goal.returns-else-len
returns-else-len c =
    let e = other_length c.args.path.now c.args.other.now (λ h. c.if-len.false (c.len.ensures ∙ (h ∙ sym c.len-2.ensures))) in
    grind (arith, nat_tests)
