use Rattle.std.proofs.Common.{◌≡◌, ◌-◌, ◌∙◌, sym, ap, take, length, arith}
use Rattle.trie_core.specs.Prefixes.{prefix_bits}
use Rattle.trie_core.proofs.Masked.{take-prefix_bits}
use Rattle.trie_core.proofs.walk.above.Goals as goal

pub returns : goal.returns
returns c =
    let n = length c.args.way.now in
    let e : c.saturating_sub.result ≡ n - c.args.bits = omega (arith, c.saturating_sub.ensures, c.len.ensures) in
    c.new.ensures ∙ ap (prefix_bits 128 c.to_bits.result) e ∙ sym (take-prefix_bits 128 c.to_bits.result n (n - c.args.bits) c.requires (omega arith)) ∙ ap (take (n - c.args.bits)) c.to_bits.ensures.bits
