use Rattle.std.proofs.Common.{◌≤◌, ◌∙◌, length, take, sym, ap, arith}
use Rattle.std.proofs.lemmas.Bool.Decides.{nat_tests}
use Rattle.trie_core.proofs.Masked.{take-prefix_bits}
use Rattle.trie_core.proofs.Strings.{same}
use Rattle.trie_core.proofs.Inside.{begins_longer}
use Rattle.prefix_trie.proofs.Within.{begins_first}
use Rattle.prefix_trie.proofs.iter_mut.is_begun.Goals as goal

pub returns-then-len : goal.returns-then-len
returns-then-len c =
    let p = c.args.path.now in
    let k = c.args.key.now in
    let n = c.len-then-len.result in
    let h : length c.args.path.now ≤ length c.args.key.now = grind (arith, nat_tests, c.if-len.true, c.len.ensures, c.len-2.ensures) in
    let cut = c.new.ensures ∙ sym (take-prefix_bits 128 c.to_bits.result (length k) n c.requires.key_within (omega (arith, h, c.len-then-len.ensures))) ∙ ap (take n) c.to_bits.ensures.bits ∙ ap (λ i. take i k) c.len-then-len.ensures in
    c.is_same.ensures ∙ ap (same p) cut ∙ begins_first p k h

pub returns-else-len : goal.returns-else-len
returns-else-len c =
    let e = begins_longer c.args.path.now c.args.key.now (omega (arith, c.if-len.false, c.len.ensures, c.len-2.ensures)) in
    grind (arith, nat_tests)
