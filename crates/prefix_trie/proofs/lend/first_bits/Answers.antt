use Rattle.std.proofs.Common.{◌≤◌, ◌∙◌, length, take, sym, ap, arith}
use Rattle.trie_core.proofs.Masked.{length-prefix_bits, take-prefix_bits}
use Rattle.prefix_trie.proofs.lend.first_bits.Goals as goal

pub returns-clause-value : goal.returns-clause-value
returns-clause-value g c =
    let h : c.args.len ≤ length c.path_of.result = omega (arith, c.requires.within, ap length c.path_of.ensures.value) in
    c.new.ensures ∙ sym (take-prefix_bits 128 c.to_bits.result (length c.path_of.result) c.args.len c.path_of.ensures.within h) ∙ ap (take c.args.len) (c.to_bits.ensures.bits ∙ c.path_of.ensures.value)

pub returns-clause-within : goal.returns-clause-within
returns-clause-within g c = omega (arith, ap length c.new.ensures, length-prefix_bits 128 c.to_bits.result c.args.len, c.requires.within, ap length c.path_of.ensures.value, c.path_of.ensures.within)
