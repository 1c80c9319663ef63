-- What a walk meets at skipped levels: each is a frame with no value and one child.
use Rattle.std.proofs.Common.{◌≡◌, ℕ, zero, suc, ◌+◌, ◌*◌, ◌/◌, ◌%◌, ◌^◌, subst, ◌<◌, ◌≤◌, Bool, List, [], ◌∷◌, ◌++◌, length, take, drop, refl, sym, ap, ◌∙◌, take-add, append_assoc, append-nil, arith}
use Rattle.std.specs.FinMap.{entries}
use Rattle.trie_core.specs.InnerPlaces.{child_of, place_string, child_string, named, placed}
use Rattle.trie_core.specs.Nodes.{Seen}
use Rattle.trie_core.specs.InnerNodes.{under}
use Rattle.trie_core.specs.InnerCount.{all_nodes}
use Rattle.trie_core.specs.InnerWalks.{AreParts, part_map}
use Rattle.trie_core.specs.InnerChains.{over, chain, skipped}
use Rattle.trie_core.proofs.Order.{walk_child, values_after}
use Rattle.trie_core.proofs.Count.{under-append}
use Rattle.trie_core.proofs.Numbers.{number_bound, child_string-child_of}
use Rattle.trie_core.proofs.Frames.{are_parts, same_parts, part_node, part_rest, nothing_next, under-under}
use Rattle.trie_core.specs.InnerSearch.{IsChild, HasNoChild}
use Rattle.trie_core.proofs.Chains.{over_seen, over_places, over_child, over_other, more}
use Rattle.trie_core.proofs.Skipped.{split_same}
use Rattle.std.proofs.lemmas.Nat.{mod_below}

way_bound : (skip below : ℕ) → skip / 2 ^ (5 * below) % 32 < 32
way_bound skip below = mod_below (skip / 2 ^ (5 * below)) 32 (omega arith)

module _ {X : Type 0} where
  -- the frame of a skipped level
  pub over_parts : (n : ℕ) (m : Seen X) → n < 32 → AreParts (over n m) [] ((n, m) ∷ [])
  unfolding placed
  over_parts n m l = same_parts refl (sym (over_places n m l)) (are_parts (over_seen n m l))

  -- what is left of it is what stands below
  pub over_rest : (trail : List Bool) (n : ℕ) (m : Seen X) → n < 32 → under trail (entries (over n m).entries) ≡ under (trail ++ child_string n) (entries m.entries)
  over_rest trail n m l =
      let p = over_parts n m l in
      let o = part_node p.order in
      ap (λ es. under trail (entries es)) (sym p.map)
      ∙ ap (under trail) (walk_child o (values_after (named place_string []) (child_string n, m) (named child_string []) o refl))
      ∙ under-append trail (under (child_string n) (entries m.entries)) (entries (part_map {X = X} [] []))
      ∙ ap (λ es. es ++ part_rest {X = X} [] [] trail) (under-under trail (child_string n) (entries m.entries))
      ∙ ap (λ es. under (trail ++ child_string n) (entries m.entries) ++ es) (nothing_next {X = X} [] trail refl refl)
      ∙ append-nil (under (trail ++ child_string n) (entries m.entries))

  over_nodes : (n : ℕ) (m : Seen X) → n < 32 → all_nodes (over n m) ≡ all_nodes m + 1
  over_nodes n m l = omega (arith, (over_parts n m l).nodes)

  -- so the frames of skipped levels need not be pushed: the way grows, and what is left is what is left of the node below them
  pub chain_rest : (k : ℕ) (q trail : List Bool) (d : Seen X) → 5 * k ≤ length q → under trail (entries (chain k q d).entries) ≡ under (trail ++ take (5 * k) q) (entries d.entries)
  chain_rest zero q trail d h = ap (λ s. under s (entries d.entries)) (sym (append-nil trail))
  chain_rest (suc k) q trail d h =
      let l = more k q h in
      let z : 5 + 5 * k ≡ 5 * suc k = omega arith in
      over_rest trail (child_of q) (chain k (drop 5 q) d) (number_bound 5 q)
      ∙ chain_rest k (drop 5 q) (trail ++ child_string (child_of q)) d l.1
      ∙ ap (λ s. under s (entries d.entries)) (append_assoc trail (child_string (child_of q)) (take (5 * k) (drop 5 q)) ∙ ap (λ s. trail ++ s) (ap (λ s. s ++ take (5 * k) (drop 5 q)) (child_string-child_of q l.0) ∙ sym (take-add 5 (5 * k) q) ∙ ap (λ i. take i q) z))

  -- each skipped level counts as a node
  pub chain_nodes : (k : ℕ) (q : List Bool) (d : Seen X) → all_nodes (chain k q d) ≡ all_nodes d + k
  chain_nodes zero q d = omega arith
  chain_nodes (suc k) q d = omega (arith, over_nodes (child_of q) (chain k (drop 5 q) d) (number_bound 5 q), chain_nodes k (drop 5 q) d)

  -- a node with levels that are skipped still is one level over a node with one less; and its parts, and a search in it
  pub way_view : (levels below skip low : ℕ) (m w : Seen X) → levels ≡ suc below → low ≡ skip % 2 ^ (5 * below) → chain levels (skipped levels skip) m ≡ w → over (skip / 2 ^ (5 * below) % 32) (chain below (skipped below low) m) ≡ w
  way_view levels below skip low m w e l v = ap (λ k. over (skip / 2 ^ (5 * below) % 32) (chain below (skipped below k) m)) l ∙ split_same 0 levels below skip m (omega (arith, e)) ∙ v

  pub way_parts : (below skip : ℕ) (d : Seen X) {w : Seen X} → over (skip / 2 ^ (5 * below) % 32) d ≡ w → AreParts w [] ((skip / 2 ^ (5 * below) % 32, d) ∷ [])
  way_parts below skip d v = subst (λ s. AreParts s [] ((skip / 2 ^ (5 * below) % 32, d) ∷ [])) v (over_parts (skip / 2 ^ (5 * below) % 32) d (way_bound skip below))

  pub way_none : (q : List Bool) (below skip : ℕ) (d : Seen X) {w : Seen X} → over (skip / 2 ^ (5 * below) % 32) d ≡ w → 5 ≤ length q → (skip / 2 ^ (5 * below) % 32 ≡ child_of q → ⊥) → HasNoChild q w
  way_none q below skip d v h f = subst (λ s. HasNoChild q s) v (over_other q (skip / 2 ^ (5 * below) % 32) d (way_bound skip below) h f)

  pub way_child : (q : List Bool) (below skip : ℕ) (d : Seen X) {w : Seen X} → over (skip / 2 ^ (5 * below) % 32) d ≡ w → 5 ≤ length q → skip / 2 ^ (5 * below) % 32 ≡ child_of q → IsChild q w d
  way_child q below skip d v h f = subst (λ s. IsChild q s d) (ap (λ k. over k d) (sym f) ∙ v) (over_child q d h)

  pub here_parts : {levels : ℕ} (skip : ℕ) {m w : Seen X} {vs : List (ℕ × X)} {cs : List (ℕ × Seen X)} → levels ≡ 0 → chain levels (skipped levels skip) m ≡ w → AreParts m vs cs → AreParts w vs cs
  here_parts {levels} skip {m} {w} {vs} {cs} z v p = subst (λ s. AreParts s vs cs) ((λ i. chain (sym z i) (skipped (sym z i) skip) m) ∙ v) p
