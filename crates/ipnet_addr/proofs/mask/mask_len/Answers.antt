use Rattle.std.proofs.Common.{◌≡◌, ◌-◌, ◌^◌, ◌≤◌, ap, arith}
use Rattle.std.proofs.lemmas.Nat.{pow_pos}
use Rattle.ipnet_addr.proofs.Powers.{mask_and_free, bits_within, ones_len}
use Rattle.ipnet_addr.proofs.mask.mask_len.Goals as goal

pub overflow_sub-result : goal.overflow_sub-result
overflow_sub-result c = bits_within _ _ c.args.width (omega arith) c.bit_len-free.ensures.shortest

pub returns-then-host-ones : goal.returns-then-host-ones
returns-then-host-ones c =
    let free = c.bit_len-free.result in
    let l : free ≤ c.args.width = overflow_sub-result c in
    let e : c.args.width - (c.args.width - free) ≡ free = omega arith in
    (omega arith, omega (arith, pow_pos c.args.width, pow_pos free, ap (λ n. 2 ^ n) e, mask_and_free c.args.width (c.args.width - free) (omega arith)))

pub returns-else-host-ones : goal.returns-else-host-ones
returns-else-host-ones c len l is =
    let all = mask_and_free c.args.width len l in
    let one = pow_pos (c.args.width - len) in
    let free : c.bit_len-free.result ≡ c.args.width - len = ones_len _ _ (c.args.width - len) (omega arith) c.bit_len-free.ensures.below c.bit_len-free.ensures.shortest in
    c.if-host-ones.false (omega (arith, ap (λ n. 2 ^ n) free))
