use Rattle.std.proofs.Common.{◌≡◌, ◌+◌, ◌-◌, ◌/◌, ◌^◌, ◌∙◌, ap, length, bit_and, arith}
use Rattle.std.proofs.lemmas.Bool.Decides.{nat_tests}
use Rattle.trie_core.specs.InnerPlaces.{place_of, child_of}
use Rattle.trie_core.proofs.PlaceTables.{inside_ends, inside_some}
use Rattle.trie_core.proofs.Seen.{seen}
use Rattle.trie_core.proofs.Leaves.{none_inside_here, no_value_word, no_child_word}
use Rattle.trie_core.proofs.node.Branch.is_leaf_here.Goals as goal

pub places_between-values-requires-clause-ordered : goal.places_between-values-requires-clause-ordered
places_between-values-requires-clause-ordered g c = omega (arith, inside_some c.args.path.now c.requires, ap (λ n. 31 / 2 ^ n) c.len-len.ensures)

pub places_between-values-requires-clause-end : goal.places_between-values-requires-clause-end
places_between-values-requires-clause-end g c = omega (arith, (inside_ends c.args.path.now c.requires).0, ap (λ n. 31 / 2 ^ n) c.len-len.ensures, c.place-place.ensures.value)

pub places_between-children-requires-clause-end : goal.places_between-children-requires-clause-end
places_between-children-requires-clause-end g c = omega (arith, (inside_ends c.args.path.now c.requires).1, ap (λ n. 32 / 2 ^ n) c.len-len.ensures, c.five-child.ensures.value)

pub returns-then-self-values-eq0 : goal.returns-then-self-values-eq0
returns-then-self-values-eq0 g c =
    let s = seen c.self.invariant c.self.view_is in
    let vm : c.places_between-values.result ≡ 2 ^ (place_of c.args.path.now + 31 / 2 ^ length c.args.path.now) - 2 ^ (place_of c.args.path.now + 1) = c.places_between-values.ensures ∙ (λ i. 2 ^ (c.place-place.ensures.value i + 31 / 2 ^ c.len-len.ensures i) - 2 ^ (c.place-place.ensures.value i + 1)) in
    let cm : c.places_between-children.result ≡ 2 ^ (child_of c.args.path.now + 32 / 2 ^ length c.args.path.now) - 2 ^ child_of c.args.path.now = c.places_between-children.ensures ∙ (λ i. 2 ^ (c.five-child.ensures.value i + 32 / 2 ^ c.len-len.ensures i) - 2 ^ c.five-child.ensures.value i) in
    let v : bit_and c.self.inside.value_bits c.places_between-values.result ≡ 0 = grind (arith, nat_tests) in (
      λ t.
          let w : bit_and c.self.inside.child_bits c.places_between-children.result ≡ 0 = grind (arith, nat_tests) in
          none_inside_here c.args.path.now s c.requires vm cm v w,
      λ l.
          let w = no_child_word c.args.path.now s c.requires cm l.0 l.1 in
          grind (arith, nat_tests),
    )

pub returns-else-self-values-eq0 : goal.returns-else-self-values-eq0
returns-else-self-values-eq0 g c =
    let s = seen c.self.invariant c.self.view_is in
    let vm : c.places_between-values.result ≡ 2 ^ (place_of c.args.path.now + 31 / 2 ^ length c.args.path.now) - 2 ^ (place_of c.args.path.now + 1) = c.places_between-values.ensures ∙ (λ i. 2 ^ (c.place-place.ensures.value i + 31 / 2 ^ c.len-len.ensures i) - 2 ^ (c.place-place.ensures.value i + 1)) in (
      λ t. let z : ⊥ = grind (arith, nat_tests) in absurd z,
      λ l.
          let w = no_value_word c.args.path.now s c.requires vm l.0 in
          grind (arith, nat_tests),
    )
