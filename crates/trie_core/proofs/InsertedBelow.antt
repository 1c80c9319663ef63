-- A value that is stored in a child, or in a new one, is stored in the node.
use Rattle.std.proofs.Common.{◌≡◌, ℕ, ◌+◌, ◌/◌, ◌^◌, ◌<◌, ◌≤◌, ◌∙◌, Bool, false, List, length, drop, get_or, set, refl, sym, ap, Option, Some, None, nat_lt, count_ones, IsTrue, ◌↔◌, IsSome, nat_cmp, arith}
use Rattle.std.specs.FinMap.{get, insert, put, find, empty}
use Rattle.std.proofs.lemmas.Bool.Decides.{nat_tests}
use Rattle.trie_core.specs.InnerPlaces.{child_of, at_places, IsUnset}
use Rattle.trie_core.specs.Nodes.{Seen}
use Rattle.trie_core.specs.InnerInsertedBelow.{IsInsertedBelow}
use Rattle.trie_core.specs.Ways.{off_way}
use Rattle.trie_core.proofs.Maps.{get_none}
use Rattle.trie_core.proofs.Taken.{IsTaken}
use Rattle.trie_core.proofs.Seen.{IsSeen, viewed, seen, is_child}
use Rattle.trie_core.proofs.Changes.{was, set_put, set_slots, set_count, set_height, was_lower, absent, hung, depth_rest, new_nodes}
use Rattle.trie_core.proofs.Marks.{no_spares}
use Rattle.trie_core.proofs.Ways.{off_none, below_off, hung_off}
use Rattle.trie_core.specs.InnerSearch.{IsLeaf}
use Rattle.trie_core.proofs.Leaves.{leaf_below}
use Rattle.trie_core.specs.InnerNodes.{HasSlots}
use Rattle.std.proofs.lemmas.Cmp.{nat_cmp_total}
use Rattle.std.specs.FinMap.Entries.{find-put}

pub not_short : {b : Bool} (q : List Bool) → b ≡ nat_lt (length q) 5 → b ≡ false → 5 ≤ length q
not_short q e f = let g : nat_lt (length q) 5 ≡ false = sym e ∙ f in grind (arith, nat_tests)

module _ {X : Type 0} where
  some_of : (o : Option X) → IsSome o → (v : X) × (o ≡ Some v)
  some_of None h = absurd (cc)
  some_of (Some v) h = (v, refl)

  -- in the child on the way, which is e and becomes d
  pub exchanged_below : {vb at : ℕ} {vs : List X} {cb : ℕ} {cs : List (Seen X)} {m : Seen X} {h out : Option X} {may_grow : Bool} {room made : ℕ} {r : List Bool} (q : List Bool) (e d : Seen X) → IsSeen vb vs cb cs m → 5 ≤ length q → IsTaken (child_of q) at cb cs → e ≡ get_or cs at e
      → r ≡ drop 5 q → IsSome h → IsInsertedBelow r h may_grow room e made out d → IsInsertedBelow q h may_grow room m made out (viewed vb vs cb (set cs at d))
  exchanged_below {at = at} {h = h} q e d s l t k f g x =
      let (v, i) = some_of h g in
      let w = was q e s l t k in
      let put = λ (u : X) (j : h ≡ Some u). x.map u j ∙ ap (λ p. insert e.entries p u) f in
      record {
        old = x.old ∙ ap (get e.entries) f ∙ w;
        map = λ u j. set_put q u e d s l t k (put u j);
        spares = below_off q v e d s l t k (put v i) (x.spares ∙ ap (off_way e.spares) f);
        count = omega (arith, set_count q e d s t k, x.count);
        levels = omega (arith, set_height at d s, was_lower q e s t k, x.levels, ap (λ p. length p / 5 + 1) f, depth_rest q l);
        within = x.within;
        grows = λ z. x.grows (ap (get e.entries) f ∙ w ∙ z);
      }

  -- in a new child, which is e and becomes d
  pub exchanged_new : {vb n db : ℕ} {vs : List X} {cb : ℕ} {cs ls : List (Seen X)} {m : Seen X} {h out : Option X} {may_grow b : Bool} {room less made : ℕ} {r : List Bool} (ds : List (Seen X)) (q : List Bool) (e d : Seen X) → IsSeen vb vs cb cs m → 5 ≤ length q → n ≡ child_of q → IsUnset n cb
      → ls ≡ cs → at_places 32 0 db ds ≡ put nat_cmp n d (at_places 32 0 cb ls) → count_ones db ≡ length ds → db < 2 ^ 32
      → e.entries ≡ empty → e.spares ≡ empty → e.levels ≡ 1 → r ≡ drop 5 q → IsSome h → IsTrue may_grow → made + 1 ≤ room → IsInsertedBelow r h b less e made out d
      → IsInsertedBelow q h may_grow room m (made + 1) out (viewed vb vs db ds)
  exchanged_new {h = h} {r = r} ds q e d s l k u a w c b f z y p g grow fit x =
      let (v, i) = some_of h g in
      let new = λ (o : X) (j : h ≡ Some o). x.map o j ∙ (λ i. insert (f i) (p i) o) in
      let made = hung q v d s l k u a w c b (new v i) in
      record {
        old = x.old ∙ ap (λ o. get o r) f ∙ get_none r ∙ sym (absent q s l k u);
        map = λ o j. (hung q o d s l k u a w c b (new o j)).map;
        spares = hung_off ds q v d s l k u a w b (new v i) (x.spares ∙ off_none e.spares r z);
        count = omega (arith, made.count, x.count, new_nodes e f (no_spares e z));
        levels = omega (arith, made.height, x.levels, y, ap (λ o. length o / 5 + 1) p, depth_rest q l);
        within = fit;
        grows = λ _. grow;
      }

  -- ---- whether nothing stands inside

  found_put : (n : ℕ) (d : Seen X) (es : List (ℕ × Seen X)) → find nat_cmp n (put nat_cmp n d es) ≡ Some d
  found_put n d es = let e = find-put nat_cmp nat_cmp_total n n d es in grind (arith, nat_tests)

  -- it is told of the child d on the way, and holds of the node
  leaf_of : {vb db : ℕ} {vs : List X} {ds : List (Seen X)} {b : Bool} {r : List Bool} (es : List (ℕ × Seen X)) (q : List Bool) (d : Seen X) → HasSlots vb vs db ds → 5 ≤ length q → at_places 32 0 db ds ≡ put nat_cmp (child_of q) d es → r ≡ drop 5 q → IsTrue b ↔ IsLeaf d r → IsTrue b ↔ IsLeaf (viewed vb vs db ds) q
  leaf_of es q d s l w f t =
      let u = leaf_below (is_child q d (seen s refl) l (ap (find nat_cmp (child_of q)) w ∙ found_put (child_of q) d es)) f in
      (λ h. u.0 (t.0 h), λ h. t.1 (u.1 h))

  pub leaf_in : {vb at : ℕ} {vs : List X} {cb : ℕ} {cs : List (Seen X)} {m : Seen X} {b : Bool} {r : List Bool} (q : List Bool) (d : Seen X) → IsSeen vb vs cb cs m → 5 ≤ length q → IsTaken (child_of q) at cb cs → r ≡ drop 5 q → IsTrue b ↔ IsLeaf d r → IsTrue b ↔ IsLeaf (viewed vb vs cb (set cs at d)) q
  leaf_in {cb = cb} {cs = cs} q d s l t f u = leaf_of (at_places 32 0 cb cs) q d (set_slots q d s t) l (t.written d) f u

  pub leaf_new : {vb n db : ℕ} {vs : List X} {ds : List (Seen X)} {b : Bool} {r : List Bool} (es : List (ℕ × Seen X)) (q : List Bool) (d : Seen X) → HasSlots vb vs db ds → 5 ≤ length q → n ≡ child_of q → at_places 32 0 db ds ≡ put nat_cmp n d es → r ≡ drop 5 q → IsTrue b ↔ IsLeaf d r → IsTrue b ↔ IsLeaf (viewed vb vs db ds) q
  leaf_new es q d h l k w f u = leaf_of es q d h l (w ∙ ap (λ i. put nat_cmp i d es) k) f u
