-- A branch whose values and children are in one shape.
use Rattle.std.proofs.Common.{◌≡◌, ℕ, suc, ◌+◌, ◌-◌, ◌*◌, ◌/◌, ◌%◌, ◌^◌, ◌<◌, List, [], ◌∷◌, length, get_or, refl, sym, ap, subst, ◌∙◌, set, count_ones, arith}
use Rattle.std.proofs.lemmas.Nat.{zero_from_ones, shr-shr}
use Rattle.std.proofs.lemmas.List.Edits.{length-remove}
use lib.Arith.{digits_div, digits_mod}
use Rattle.short_vec.specs.declared.short_vec.ShortVec.{ShortVec}
use Rattle.short_vec.specs.Lists.{short_items}
use Rattle.shape.specs.declared.shape.Shape.{Shape}
use Rattle.shape.specs.declared.shape.Shape.TheVariants.{Children}
use Rattle.shape.specs.Shapes.{shape_values, shape_children}
use Rattle.shape.specs.Lends.{with_child}
use Rattle.shape.proofs.With.{children_with, values_with_child}
use Rattle.trie_core.specs.Nodes.{Seen}
use Rattle.trie_core.specs.InnerNodes.{HasSlots}
use Rattle.trie_core.specs.InnerPlaces.{IsFirstPlace}
use Rattle.trie_core.specs.InnerChains.{over, chain, skipped}
use Rattle.trie_core.proofs.Taken.{taken}
use Rattle.trie_core.proofs.Skipped.{split_same}
use Rattle.trie_core.proofs.Seen.{viewed, no_bits}

module _ {X : Type 0} where
  pub children_as : {vb cb : ℕ} {vs : List X} {cs ds : List (Seen X)} → HasSlots vb vs cb cs → ds ≡ cs → HasSlots vb vs cb ds
  children_as {vb} {cb} {vs} h e = subst (HasSlots vb vs cb) (sym e) h

  pub values_as : {vb cb : ℕ} {vs ws : List X} {cs : List (Seen X)} → HasSlots vb vs cb cs → ws ≡ vs → HasSlots vb ws cb cs
  values_as {vb} {cb} {cs = cs} h e = subst (λ l. HasSlots vb l cb cs) (sym e) h

  -- a child was written
  pub written : (vb cb at : ℕ) (d : Seen X) (b : Shape (Seen X) X) → viewed vb (shape_values b) cb (set (shape_children b) at d) ≡ viewed vb (shape_values (with_child b at d)) cb (shape_children (with_child b at d))
  written vb cb at d b = λ i. viewed vb (sym (values_with_child b at d) i) cb (sym (children_with b at d) i)

  pub written_slots : {vb cb : ℕ} (at : ℕ) (d : Seen X) (b : Shape (Seen X) X) → HasSlots vb (shape_values b) cb (set (shape_children b) at d) → HasSlots vb (shape_values (with_child b at d)) cb (shape_children (with_child b at d))
  written_slots at d b h = values_as (children_as h (children_with b at d)) (values_with_child b at d)

  -- the first bit of a word with one bit is the word
  only_bit : (cb n : ℕ) (cs : List (Seen X)) → count_ones cb ≡ length cs → length cs ≡ 1 → IsFirstPlace cb n → cb ≡ 2 ^ n
  only_bit cb n cs c l f =
      let t = taken n (count_ones (cb % 2 ^ n)) cb cs f.within (f.taken, refl) c in
      let z = zero_from_ones (cb - 2 ^ n) (omega (arith, t.ones, length-remove cs (count_ones (cb % 2 ^ n)) t.within, l)) in
      omega (arith, z, t.fits)

  only_item : (cs : List (Seen X)) (c : Seen X) → length cs ≡ 1 → c ≡ get_or cs 0 c → cs ≡ c ∷ []
  only_item [] c l e = absurd (omega (arith, l))
  only_item (x ∷ []) c l e = ap (λ y. y ∷ []) (sym e)
  only_item (x ∷ y ∷ cs) c l e = absurd (omega (arith, l))

  -- a branch with one node below and no value
  pub only_view : {vb cb : ℕ} {self : Seen X} {body : Shape (Seen X) X} (n : ℕ) (list : ShortVec (Seen X)) (c : Seen X) → HasSlots vb (shape_values body) cb (shape_children body) → viewed vb (shape_values body) cb (shape_children body) ≡ self → body ≡ Children list
      → length (short_items list) ≡ 1 → IsFirstPlace cb n → c ≡ get_or (short_items list) 0 c → over n c ≡ self
  only_view {vb} {cb} {self} {body} n list c h v e l f g =
      let a : HasSlots vb [] cb (short_items list) = subst (λ (b : Shape (Seen X) X). HasSlots vb (shape_values b) cb (shape_children b)) e h in
      let w : viewed vb [] cb (short_items list) ≡ self = ap (λ (b : Shape (Seen X) X). viewed vb (shape_values b) cb (shape_children b)) (sym e) ∙ v in
      let z = (no_bits vb 0 a.values_counted).1 refl in
      sym (λ i. viewed (z i) [] (only_bit cb n (short_items list) a.children_counted l f i) (only_item (short_items list) c l g i)) ∙ w

  -- skipped levels, one level more, and the skipped levels below it
  pub joined_same : (levels below skip n low : ℕ) (m b : Seen X) → n < 32 → low < 2 ^ (5 * below) → over n (chain below (skipped below low) m) ≡ b
      → chain (levels + below + 1) (skipped (levels + below + 1) ((skip * 32 + n) * 2 ^ (5 * below) + low)) m ≡ chain levels (skipped levels skip) b
  joined_same levels below skip n low m b h l e =
      let s = (skip * 32 + n) * 2 ^ (5 * below) + low in
      let d : s / 2 ^ (5 * below) ≡ skip * 32 + n = digits_div (skip * 32 + n) l in
      let y : 5 * below + 5 ≡ 5 * suc below = omega arith in
      let high : s / 2 ^ (5 * suc below) ≡ skip = ap (λ i. s / 2 ^ i) (sym y) ∙ sym (shr-shr s (5 * below) 5) ∙ ap (λ w. w / 2 ^ 5) d ∙ digits_div skip {m = 32} h in
      let number : s / 2 ^ (5 * below) % 32 ≡ n = ap (λ w. w % 32) d ∙ digits_mod skip {m = 32} h in
      let rest : s % 2 ^ (5 * below) ≡ low = digits_mod (skip * 32 + n) l in
      sym (split_same levels (levels + below + 1) below s m (omega arith))
      ∙ (λ i. chain levels (skipped levels (high i)) (over (number i) (chain below (skipped below (rest i)) m)))
      ∙ ap (chain levels (skipped levels skip)) e
