use Rattle.std.proofs.Common.{◌∙◌, length, ap}
use Rattle.ipnet_blocks.proofs.Strings.{length-digits}
use Rattle.ipnet_blocks.specs.Blocks.{bit_string}
use Rattle.ipnet_blocks.specs.Networks.{block_of}
use Rattle.trie_core.specs.Prefixes.{prefix_bits}
use Rattle.prefix_trie.proofs.prefix.NetPrefix.repr.Goals as goal

pub returns-clause-bits : goal.returns-clause-bits
returns-clause-bits g c =
    let n = c.args.self.now in
    ap (λ r. prefix_bits g.N.Key.width r (length (bit_string (block_of g.N.AddressInt.family n)))) (c.of_addr.ensures ∙ c.addr.ensures.value)
    ∙ ap (prefix_bits g.N.Key.width n.number) (length-digits n.len _)
    ∙ ap (λ w. prefix_bits w n.number n.len) g.met.N.AddressInt.sized
