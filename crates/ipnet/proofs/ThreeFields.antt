-- Comparisons by three fields: the second and the third are one after the first, or the third comes after the first two.
use Rattle.std.proofs.Common.{◌≡◌, refl, ap, ◌∙◌, Ordering, Less, Equal, Greater, Option, Some, None}
use Rattle.std.specs.Ordering.{ordering_then, partial_ordering_then}

then_then : (a b z : Ordering) → ordering_then (ordering_then a b) z ≡ ordering_then a (ordering_then b z)
then_then Less b z = refl
then_then Equal b z = refl
then_then Greater b z = refl

pub by_three : (a b z : Ordering) {r s t : Ordering} → r ≡ a → s ≡ ordering_then r b → t ≡ ordering_then s z → t ≡ ordering_then a (ordering_then b z)
by_three a b z p q k = k ∙ ap (λ o. ordering_then o z) (q ∙ ap (λ o. ordering_then o b) p) ∙ then_then a b z

partial_then : (a b z : Option Ordering) → partial_ordering_then (partial_ordering_then a b) z ≡ partial_ordering_then a (partial_ordering_then b z)
partial_then None b z = refl
partial_then (Some Less) b z = refl
partial_then (Some Equal) b z = refl
partial_then (Some Greater) b z = refl

pub partly_by_three : (a b z : Option Ordering) {r s t : Option Ordering} → r ≡ a → s ≡ partial_ordering_then r b → t ≡ partial_ordering_then s z → t ≡ partial_ordering_then a (partial_ordering_then b z)
partly_by_three a b z p q k = k ∙ ap (λ o. partial_ordering_then o z) (q ∙ ap (λ o. partial_ordering_then o b) p) ∙ partial_then a b z
