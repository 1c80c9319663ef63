use Rattle.std.proofs.Common.{◌-◌, ◌^◌, ◌≤◌, arith}
use Rattle.std.proofs.lemmas.Nat.{pow_pos}
use Rattle.std.proofs.Math.Nat.{pow-le-pow_right}
use Rattle.ipnet_addr.proofs.Powers.{mask_and_free}
use Rattle.ipnet_addr.proofs.mask.mask_number.Goals as goal

pub overflow_sub-result : goal.overflow_sub-result
overflow_sub-result c =
    let p : 2 ^ (c.args.width - c.args.len) ≤ 2 ^ c.args.width = pow-le-pow_right (omega arith) (omega arith) in
    omega arith

pub returns-clause-value : goal.returns-clause-value
returns-clause-value c = omega (arith, pow_pos c.args.width, pow_pos (c.args.width - c.args.len), mask_and_free c.args.width c.args.len c.requires.in_width)
