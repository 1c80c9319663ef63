use Rattle.std.proofs.Common.{◌∙◌, ap, ◌++◌, ◌∷◌, [], ◌+◌, ◌%◌, ◌/◌, arith}
use Rattle.ipnet_addr.proofs.Decimals.{decimal_one, decimal_two, decimal_three}
use Rattle.ipnet_addr.proofs.printer.push_decimal.Goals.{then-n-ge100, else-n-ge100, then-n-ge10, else-n-ge10}
use Rattle.ipnet_addr.proofs.printer.push_decimal.Goals as goal

pub returns-clause-bytes : goal.returns-clause-bytes
returns-clause-bytes g c =
    let last = c.push-2.ensures.items in
    elim c.if-n-ge100.branch [
      | then-n-ge100 w ↦ elim c.if-n-ge10.branch [
        | then-n-ge10 v ↦ decimal_three c.args.n c.args.out.now.items c.if-n-ge100.out.items c.if-n-ge10.out.items _ (omega arith) (omega arith) (ap (λ o. o.items) w.out-is ∙ w.push.ensures.items) (ap (λ o. o.items) v.out-is ∙ v.push-then-n-ge10.ensures.items) last
        | else-n-ge10 v ↦ absurd (omega arith)
      ]
      | else-n-ge100 w ↦ elim c.if-n-ge10.branch [
        | then-n-ge10 v ↦ decimal_two c.args.n c.args.out.now.items c.if-n-ge10.out.items _ (omega arith) (omega arith) (ap (λ o. o.items) v.out-is ∙ v.push-then-n-ge10.ensures.items ∙ ap (λ o. o.items ++ (48 + c.args.n / 10 % 10) ∷ []) w.out-is) last
        | else-n-ge10 v ↦ decimal_one c.args.n c.args.out.now.items _ (omega arith) (last ∙ ap (λ o. o.items ++ (48 + c.args.n % 10) ∷ []) (v.out-is ∙ w.out-is))
      ]
    ]
