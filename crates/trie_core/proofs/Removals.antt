-- What a change of a child takes out of the node.
use Rattle.std.proofs.Common.{◌≡◌, ℕ, ◌+◌, ◌-◌, ◌^◌, ◌<◌, ◌≤◌, ◌∙◌, Bool, true, false, List, [], ◌∷◌, ◌++◌, length, drop, get_or, set, sym, ap, remove, arith}
use Rattle.std.specs.FinMap.{len, empty, len-empty}
use Rattle.std.specs.FinMap as map
use Rattle.trie_core.specs.InnerPlaces.{child_of, IsUnset}
use Rattle.trie_core.specs.Nodes.{Seen}
use Rattle.trie_core.specs.InnerNodes.{HasSlots}
use Rattle.trie_core.specs.InnerCount.{all_nodes}
use Rattle.trie_core.specs.InnerRemovals.{IsRemoved}
use Rattle.trie_core.specs.Inside.{outside}
use Rattle.trie_core.proofs.Taken.{IsTaken}
use Rattle.trie_core.proofs.Seen.{IsSeen, viewed}
use Rattle.trie_core.proofs.Changes.{was_lower, set_removed, set_count, set_height, childless}
use Rattle.trie_core.proofs.Inside.{none_inside, none_left, outside_split, gone, set_outside, set_entries}

pub longer : {n : ℕ} (q : List Bool) → n ≡ length q → 5 < n → 5 ≤ length q
longer q e h = omega arith

module _ {X : Type 0} where
  pub removed_none : {vb n : ℕ} {vs : List X} {cb : ℕ} {cs : List (Seen X)} {m : Seen X} (q : List Bool) → IsSeen vb vs cb cs m → 5 ≤ length q → n ≡ child_of q → IsUnset n cb → IsRemoved q m (0, 0) m
  removed_none q s h k u = record { map = none_inside q s h k u; entries = omega arith; count = omega arith; levels = omega arith }

  -- the child on the way stays, with fewer entries
  pub removed_below : {vb at : ℕ} {vs : List X} {cb : ℕ} {cs : List (Seen X)} {m : Seen X} {r : List Bool} {went : ℕ × ℕ} (q : List Bool) (e d : Seen X) → IsSeen vb vs cb cs m → 5 ≤ length q → IsTaken (child_of q) at cb cs → e ≡ get_or cs at e
      → r ≡ drop 5 q → IsRemoved r e went d → IsRemoved q m went (viewed vb vs cb (set cs at d))
  removed_below {at = at} q e d s h t k f x = record {
    map = set_outside q e d s h t k (x.map ∙ ap (outside e.entries) f);
    entries = omega (arith, set_entries q e d s t k, x.entries);
    count = omega (arith, set_count q e d s t k, x.count);
    levels = omega (arith, set_height at d s, was_lower q e s t k, x.levels);
  }

  -- it goes, once nothing is left in it
  pub removed_child : {vb at b : ℕ} {vs : List X} {cb : ℕ} {cs ds : List (Seen X)} {m : Seen X} {r : List Bool} {went : ℕ × ℕ} (q : List Bool) (e d : Seen X) → IsSeen vb vs cb cs m → 5 ≤ length q → IsTaken (child_of q) at cb cs → e ≡ get_or cs at e
      → r ≡ drop 5 q → IsRemoved r e went d → d.entries ≡ empty → all_nodes d ≡ 1 → b ≡ 2 ^ child_of q → ds ≡ remove (set cs at d) at → HasSlots vb vs (cb - b) ds × IsRemoved q m (went.0, went.1 + 1) (viewed vb vs (cb - b) ds)
  removed_child {at = at} {cs = cs} q e d s h t k f x z one j l =
      let p = childless q e s h t k j (l ∙ set_removed cs at d) in
      let none : len d.entries ≡ 0 = ap len z ∙ len-empty _ _ in (
        p.slots,
        record {
          map = gone q e s h t k p (sym z ∙ x.map ∙ ap (outside e.entries) f);
          entries = omega (arith, p.entries, x.entries, none);
          count = omega (arith, p.count, x.count, one);
          levels = p.height;
        },
      )

  -- it goes whole, as all its keys lie inside
  pub removed_whole : {vb at b : ℕ} {vs : List X} {cb : ℕ} {cs ds : List (Seen X)} {m : Seen X} {went : ℕ × ℕ} (q : List Bool) (e : Seen X) → IsSeen vb vs cb cs m → length q ≡ 5 → IsTaken (child_of q) at cb cs → e ≡ get_or cs at e
      → b ≡ 2 ^ child_of q → ds ≡ remove cs at → went.0 ≡ len e.entries → went.1 ≡ all_nodes e → IsRemoved q m went (viewed vb vs (cb - b) ds)
  removed_whole q e s h t k j l a c =
      let five : 5 ≤ length q = omega arith in
      let p = childless q e s five t k j l in
      record { map = gone q e s five t k p (none_left e.entries q h); entries = omega (arith, p.entries, a); count = omega (arith, p.count, c); levels = p.height }

  -- the value at q goes, and then what is inside q and a bit
  pub removed_parts : {m v l r : Seen X} {p0 p1 : List Bool} {a b : ℕ × ℕ} (here : ℕ) (q : List Bool) → v.entries ≡ map.remove m.entries q → len v.entries + here ≡ len m.entries → all_nodes v ≡ all_nodes m → v.levels ≡ m.levels
      → p0 ≡ q ++ false ∷ [] → IsRemoved p0 v a l → p1 ≡ q ++ true ∷ [] → IsRemoved p1 l b r → IsRemoved q m (here + a.0 + b.0, a.1 + b.1) r
  removed_parts {m} here q e n c h f x g y = record {
    map = y.map ∙ (λ i. outside ((x.map ∙ (λ j. outside (e j) (f j))) i) (g i)) ∙ outside_split m.entries q;
    entries = omega (arith, n, x.entries, y.entries);
    count = omega (arith, c, x.count, y.count);
    levels = omega (arith, h, x.levels, y.levels);
  }
