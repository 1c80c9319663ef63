use Rattle.std.proofs.Common.{◌≡◌, ◌≢◌, ℕ, List, ◌<◌, ◌≤◌, ◌^◌, get_or, length, sym, ◌∙◌, ⊎_elim, arith, rules}
use Rattle.std.proofs.lemmas.Fmt.{decimal_nonempty}
use Rattle.route_lines.specs.Phrase.{IsDecimal}
use Rattle.route_lines.proofs.Words.{first_of_decimal, is_parsed, not_parsed, parsed}
use Rattle.route_lines.proofs.phrase.read_decimal.Goals as goal

-- the first byte of a decimal text
first_of : (low high n : ℕ) (s : List ℕ) → high < 2 ^ 64 → IsDecimal low high s n → (get_or s 0 0 ≢ 43) × (get_or s 0 0 ≡ 48 → length s ≡ 1) × (0 < length s)
first_of low high n s bound h =
    let small : n < 2 ^ 64 = omega (arith, h.2) in
    let f = first_of_decimal n small in
    let some = decimal_nonempty n small in
    rw h.0 (f.0, f.1, some)

pub returns-in_default : goal.returns-in_default
returns-in_default c = λ n h.
    let none : length c.args.s.now ≤ 0 = search rules in
    omega (arith, none, (first_of _ _ n _ (omega arith) h).2)

pub returns-then-first-eq43 : goal.returns-then-first-eq43
returns-then-first-eq43 c = λ n h. (let f = first_of _ _ n _ (omega arith) h in f.0 (search rules))

pub returns-then-s-gt1 : goal.returns-then-s-gt1
returns-then-s-gt1 c = λ n h. (let f = first_of _ _ n _ (omega arith) h in let one = f.1 (search rules) in omega (arith, one, c.if-s-gt1.true))

pub returns-in_default-parse_u64 : goal.returns-in_default-parse_u64
returns-in_default-parse_u64 c = λ n h.
    not_parsed _ _ n _ c.in_default-parse_u64.field-0 (omega arith) c.in_default-parse_u64.ensures h

pub returns-then-n-low : goal.returns-then-n-low
returns-then-n-low c = λ n h. omega (arith, parsed _ _ n _ _ _ (omega arith) c.parse_u64.ensures c.in-Ok.is h, h.1, c.if-n-low.true)

pub returns-then-n-high : goal.returns-then-n-high
returns-then-n-high c = λ n h. omega (arith, parsed _ _ n _ _ _ (omega arith) c.parse_u64.ensures c.in-Ok.is h, h.2, c.if-n-high.true)

pub returns : goal.returns
returns c =
    let no_plus : get_or c.args.s.now 0 0 ≢ 43 = search rules in
    let lead : get_or c.args.s.now 0 0 ≡ c.in-Some.first.now = search rules in
    let some : 0 < length c.args.s.now = search rules in
    let no_zeros : get_or c.args.s.now 0 0 ≡ 48 → length c.args.s.now ≡ 1 = λ zero. ⊎_elim (λ one. omega (arith, one.1, some)) (λ other. absurd (other (sym lead ∙ zero))) c.else-first-eq48.either in
    (is_parsed _ _ _ no_plus no_zeros c.parse_u64.ensures c.in-Ok.is, omega arith, omega arith)
