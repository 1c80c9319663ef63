use Rattle.std.proofs.Common.{◌≡◌, ℕ, ◌*◌, ◌/◌, ◌%◌, ◌^◌, ap, ◌∙◌, arith}
use Rattle.std.proofs.Math.Nat.{mul-mod_left}
use Rattle.hop_index.proofs.nodes.Node.over.Goals as goal

starts : (n a s : ℕ) → n ≡ a / 2 ^ s * 2 ^ s → n % 2 ^ s ≡ 0
starts n a s is = ap (λ (m : ℕ). m % 2 ^ s) is ∙ mul-mod_left (a / 2 ^ s) (2 ^ s)

pub steps-last-requires-clause-first : goal.steps-last-requires-clause-first
steps-last-requires-clause-first g c = starts _ _ c.min-shift.result (ap g.N.Key.number c.from_bits-first.ensures ∙ g.met.N.Key.numbered c.cleared.result (omega (arith, c.cleared.ensures.within, c.to_bits-3.ensures.below)) ∙ c.cleared.ensures.value)

pub invariant_of-result : goal.invariant_of-result
invariant_of-result g c = (omega (arith, c.min-shift.ensures, c.from.ensures, c.width.ensures.positive, c.width.ensures.value), starts _ _ c.min-shift.result (ap g.N.Key.number c.from_bits-first.ensures ∙ g.met.N.Key.numbered c.cleared.result (omega (arith, c.cleared.ensures.within, c.to_bits-3.ensures.below)) ∙ c.cleared.ensures.value))
