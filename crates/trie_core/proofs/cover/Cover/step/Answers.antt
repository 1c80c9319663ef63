use Rattle.std.proofs.Common.{◌≡◌, ◌∙◌, ◌≤◌, ◌<◌, ◌+◌, ◌-◌, ◌∷◌, ◌++◌, sym, ap, refl, subst, length, take, drop, Some, None, length-drop, arith}
use Rattle.std.proofs.lemmas.Bool.Decides.{nat_tests}
use Rattle.std.specs.FinMap.{entries}
use Rattle.std.specs.FinMap.Entries.{where_key}
use Rattle.ipnet_blocks.specs.BitStrings.{bits_cmp}
use Rattle.ipnet_blocks.proofs.BitStrings.{begins_take}
use Rattle.trie_core.specs.InnerPlaces.{place_string}
use Rattle.trie_core.specs.InnerNodes.{under}
use Rattle.trie_core.specs.InnerCovers.{is_left, cover_rest, cover_weight}
use Rattle.trie_core.specs.InnerCovers.{IsRest}
use Rattle.trie_core.proofs.Covers.{where_next, cover_end, cover_below}
use Rattle.trie_core.proofs.SkippedCovers.{rest_below, way_below, key_on}
use Rattle.trie_core.proofs.cover.Cover.step.Goals as goal
use Rattle.trie_core.proofs.cover.Cover.step.Goals.{in-None, in-Some-child}

pub front-key-requires-clause-within : goal.front-key-requires-clause-within
front-key-requires-clause-within g c =
    omega (arith, c.len.ensures, c.len-in-Some-beginning_from.ensures, c.place_length.ensures.value, (begins_take (place_string c.in-Some-beginning_from.place) c.self.inside.rest c.in-Some-beginning_from.ensures.begun).0, c.self.invariant.within)

pub returns-in-Some-beginning_from : goal.returns-in-Some-beginning_from
returns-in-Some-beginning_from g c =
    let q = c.self.inside.path in
    let r = c.self.inside.rest in
    let trail = take (length q - length r) q in
    let p = c.in-Some-beginning_from.place in
    let v = c.in-Some-beginning_from.value.now in
    let left = where_key bits_cmp (is_left r (p + 1)) (entries c.in-Some.branch.now.entries) in
    let l : c.len.result - c.len-in-Some-beginning_from.result + c.place_length.result ≡ length q - length r + length (place_string p) = omega (arith, c.len.ensures, c.len-in-Some-beginning_from.ensures, c.place_length.ensures.value) in
    ap (λ s. s.0) (sym c.self.view_is) ∙ ap (λ o. cover_rest o r c.self.inside.place trail) c.in-Some.is ∙ ap (under trail) (where_next c.in-Some-beginning_from.ensures)
    ∙ ap (λ k. (k, v) ∷ under trail left) (key_on p c.self.invariant c.in-Some-beginning_from.ensures.begun l c.front-key.ensures)
    ∙ ap (λ o. (c.front-key.result, v) ∷ cover_rest o r (p + 1) trail) (sym c.in-Some.is)

pub returns-then-is_short : goal.returns-then-is_short
returns-then-is_short g c =
    let q = c.self.inside.path in
    let r = c.self.inside.rest in
    let trail = take (length q - length r) q in
    let h : length r < 5 = grind (arith, nat_tests) in (
      ap (λ s. s.0) (sym c.self.view_is) ∙ ap (λ o. cover_rest o r c.self.inside.place trail) c.in-Some.is ∙ ap (under trail) (cover_end c.in-Some.branch.now.entries c.in_default-beginning_from.ensures h),
      omega (arith, ap (λ s. s.1) c.self.view_is, ap (λ o. cover_weight o r) c.in-Some.is),
    )

pub below-requires : goal.below-requires
below-requires g c =
    let h : 5 ≤ length c.self.inside.rest = grind (arith, nat_tests) in
    subst (λ q. IsRest q c.rest.result 0) (sym c.copied.ensures) (rest_below 5 c.self.invariant h c.rest.ensures)

pub returns : goal.returns
returns g c =
    let q = c.self.inside.path in
    let p = c.self.inside.rest in
    let trail = take (length q - length p) q in
    let m = c.in-Some.branch.now in
    let h : 5 ≤ length p = grind (arith, nat_tests) in
    let view = ap (λ s. s.0) (sym c.self.view_is) ∙ ap (λ o. cover_rest o p c.self.inside.place trail) c.in-Some.is in
    let weight : c.args.self.now.1 ≡ length p + 1 = ap (λ s. s.1) (sym c.self.view_is) ∙ ap (λ o. cover_weight o p) c.in-Some.is in
    elim c.match-child.branch [
      | in-None w ↦
          let x = cover_below m trail None {r = drop 5 p} {way = trail ++ take 5 p} c.in_default-beginning_from.ensures h w.in-None.ensures refl refl in
          (view ∙ x.0 ∙ ap (λ s. s.0) (sym w.self-is), omega (arith, weight, ap (λ s. s.1) w.self-is))
      | in-Some-child w ↦
          let r = w.rest.result in
          let x = cover_below m trail (Some w.in-Some-child.node) c.in_default-beginning_from.ensures h w.in-Some-child.ensures (way_below 5 c.self.invariant h w.rest.ensures) w.rest.ensures in
          let y = where_key bits_cmp (is_left r 0) (entries w.in-Some-child.node.now.entries) in (
            view ∙ x.0 ∙ ap (λ s. under (take (length s - length r) s) y) (sym w.copied.ensures) ∙ sym w.below.ensures.entries ∙ ap (λ s. s.0) (sym w.self-in-Some-child.view_is ∙ sym w.self-is),
            omega (arith, weight, w.below.ensures.weight, ap length w.rest.ensures, length-drop 5 p, h, ap (λ s. s.1) (sym w.self-in-Some-child.view_is ∙ sym w.self-is)),
          )
    ]
