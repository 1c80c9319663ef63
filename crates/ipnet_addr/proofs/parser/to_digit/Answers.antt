use Rattle.std.proofs.Common.{◌≡◌, ℕ, ◌+◌, ◌%◌, ◌<◌, cond, nat_lt, get_or, map, refl, ap, ◌∙◌, arith}
use Rattle.std.proofs.lemmas.Bool.Decides.{nat_tests}
use Rattle.std.proofs.lemmas.List.FromFn.{get_or-map-range_with_len}
use Rattle.std.specs.Char.{digit_value}
use Rattle.std.specs.List.{range_with_len}
use Rattle.ipnet_addr.specs.declared.parser.TheConstants.{HEX_DIGITS}
use Rattle.ipnet_addr.proofs.parser.to_digit.Goals.{then-radix-eq10, else-radix-eq10}
use Rattle.ipnet_addr.proofs.parser.to_digit.Goals as goal

-- where one of them is below the radix, they are one number
abbrev AgreeBelow : ℕ → ℕ → ℕ → Type 0
AgreeBelow radix d v = (d < radix → d ≡ v) × (v < radix → d ≡ v)

decimal : (b : ℕ) → b < 256 → AgreeBelow 10 ((b + 208) % 256) (digit_value b)
decimal b lt = (λ h. grind (arith, nat_tests, h), λ h. grind (arith, nat_tests, h))

-- what the table has for a byte
abbrev hex_digit : ℕ → ℕ
hex_digit b = cond (nat_lt (digit_value b) 16) (digit_value b) 16

-- the table agrees with it at each byte, by computing
hex : (b : ℕ) → b < 256 → AgreeBelow 16 (get_or HEX_DIGITS b 0) (digit_value b)
hex b lt =
    let table : HEX_DIGITS ≡ map hex_digit (range_with_len 0 256) = refl in
    let at : get_or HEX_DIGITS b 0 ≡ hex_digit b = ap (λ t. get_or t b 0) table ∙ get_or-map-range_with_len hex_digit 0 256 b b 0 lt (omega arith) in
    (λ h. grind (arith, nat_tests, at, h), λ h. grind (arith, nat_tests, at, h))

pub returns-then-digit-radix : goal.returns-then-digit-radix
returns-then-digit-radix c = elim c.if-radix-eq10.branch [
  | then-radix-eq10 w ↦ let h = decimal c.args.b (omega arith) in let e = w.digit-is ∙ h.0 (omega arith) in (omega arith, e)
  | else-radix-eq10 w ↦ let h = hex c.args.b (omega arith) in let e = w.digit-is ∙ h.0 (omega arith) in (omega arith, e)
]

pub returns-else-digit-radix : goal.returns-else-digit-radix
returns-else-digit-radix c = elim c.if-radix-eq10.branch [
  | then-radix-eq10 w ↦ λ v. let h = decimal c.args.b (omega arith) in let e = w.digit-is ∙ h.1 (omega arith) in omega arith
  | else-radix-eq10 w ↦ λ v. let h = hex c.args.b (omega arith) in let e = w.digit-is ∙ h.1 (omega arith) in omega arith
]
