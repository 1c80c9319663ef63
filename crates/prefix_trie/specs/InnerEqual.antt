-- Equality of maps is an equivalence if that of values is; equality of sets always is.
use Rattle.std.specs.Prelude.{Bool, refl}
use Rattle.std.specs.Cmp.{IsPartialEquivalence, IsEquivalence, on_per, and_per, on_equiv, and_equiv, partial_equiv_from_equiv, eq_by_cmp_equiv}
use Rattle.std.specs.Cmp.Lexicographic.{lists_per, lists_equiv}
use Rattle.std.specs.FinMap.{entries}
use Rattle.trie_core.proofs.Strings.{bits_total}
use Rattle.prefix_trie.specs.Equal.{same_maps, same_sets}

pub same_maps-partial : {X : Type 0} {E : X → X → Bool} → IsPartialEquivalence E → IsPartialEquivalence (same_maps E)
same_maps-partial p = on_per (λ m. entries m.entries) (lists_per (and_per (on_per (λ e. e.0) (partial_equiv_from_equiv (eq_by_cmp_equiv bits_total))) (on_per (λ e. e.1) p)))

pub same_maps-total : {X : Type 0} {E : X → X → Bool} → IsEquivalence E → IsEquivalence (same_maps E)
same_maps-total p = on_equiv (λ m. entries m.entries) (lists_equiv (and_equiv (on_equiv (λ e. e.0) (eq_by_cmp_equiv bits_total)) (on_equiv (λ e. e.1) p)))

pub same_sets-equivalence : IsEquivalence same_sets
same_sets-equivalence = same_maps-total (record { refl = λ _. refl; symm = λ _ _. refl; congr = λ _ _ _ _. refl })
