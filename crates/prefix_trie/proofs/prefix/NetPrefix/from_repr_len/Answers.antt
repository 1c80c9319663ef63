use Rattle.std.proofs.Common.{◌∙◌, ap, sym}
use Rattle.ipnet_blocks.specs.Blocks.{bit_string}
use Rattle.ipnet_blocks.specs.Networks.{block_of}
use Rattle.trie_core.specs.Prefixes.{prefix_bits}
use Rattle.trie_core.proofs.Masked.{masked_number, length-prefix_bits}
use Rattle.prefix_trie.proofs.prefix.NetPrefix.from_repr_len.Goals as goal

pub returns-clause-bits : goal.returns-clause-bits
returns-clause-bits g c =
    ap (λ n. bit_string (block_of g.N.AddressInt.family n)) c.new_assert.ensures
    ∙ ap (λ r. bit_string (block_of g.N.AddressInt.family (record { number = r; len = c.args.len }))) c.to_addr.ensures
    ∙ ap (λ w. prefix_bits w (g.N.Key.number c.args.repr) c.args.len) (sym g.met.N.AddressInt.sized)

pub returns-clause-masked : goal.returns-clause-masked
returns-clause-masked g c = λ m.
    let k = masked_number g.N.Key.width (g.N.Key.number c.args.repr) c.args.len c.requires m in
    let l = length-prefix_bits g.N.Key.width (g.N.Key.number c.args.repr) c.args.len in
    c.new_assert.ensures ∙ (λ i. record { number = (c.to_addr.ensures ∙ sym k) i; len = sym l i })
