-- Edits inside a block, as edits of the whole table.
use Rattle.std.proofs.Common.{◌≡◌, ℕ, suc, ◌+◌, ◌-◌, ◌≤◌, Bool, true, false, List, [], ◌∷◌, ◌++◌, length, Option, Some, None, refl, sym, ap, ap₂, ◌∙◌, subst, arith, append-nil}
use Rattle.std.proofs.lemmas.List.{nil_from_length}
use Rattle.ipnet_blocks.specs.BitStrings.{begins}
use Rattle.nearest_table.specs.Changed.{AreInside, MakeNearest}
use Rattle.nearest_table.specs.Edits.{AreEdits, blocks}
use Rattle.least_table.specs.Orders.{IsInOrder}
use Rattle.nearest_table.specs.InnerPlans.{Fits, Plans, tree_of}
use Rattle.least_table.specs.Nearest.{IsNearestTable, missing_routes, surplus_routes}
use Rattle.nearest_table.specs.Plans.{Tree, Stay, Fork, Held, IsPlan, edits_of, new_table}
use Rattle.least_table.specs.Tables.{IsBitTable, half, half_of, matched_hop, hop_inheriting, own, passed, inside, within, inner_of}
use Rattle.least_table.specs.Wholes.{without_own, whole}
use Rattle.nearest_table.specs.Blocks.{inherited_hop, inner, put, around, innermost_route}
use Rattle.nearest_table.specs.Told.{new_hop, told_hop}
use Rattle.nearest_table.specs.declared.plans.Plan.{Plan}
use Rattle.least_table.proofs.LeastPlans.{within-whole, within_within}
use Rattle.least_table.proofs.Split.{hop-half, joined, own-bare, half-bare, own-joined, IsBitTable-half}
use Rattle.nearest_table.proofs.Builds.{passed_told}
use Rattle.least_table.proofs.Makes.{distance-self}
use Rattle.nearest_table.proofs.Locals.{local_law}
use Rattle.nearest_table.proofs.NewOrders.{ordered_new, ordered_put}
use Rattle.nearest_table.proofs.Trees.{plans_law}
use Rattle.nearest_table.proofs.TreeEdits.{edits-joined, edits-kept, edits-none, edits_law, held_first, ordered_bare, ordered_half, ordered_split}

-- ---- edits

edits-whole : (w : ℕ) (t l r : List (List Bool × Option ℕ)) (es fs : List (List Bool × Option (Option ℕ))) → IsBitTable w t → IsInOrder t → AreEdits (half t false) l es → AreEdits (half t true) r fs → AreEdits t (whole (own t) l r) (inside false es ++ inside true fs)
edits-whole w t l r es fs table order a b = go (own t) refl
  where
    go : (o : Option (Option ℕ)) → own t ≡ o → AreEdits t (whole o l r) (inside false es ++ inside true fs)
    go None e = edits-joined t l r es fs (ordered_split t order ∙ ap (λ o. whole o (half t false) (half t true)) e) a b
    go (Some k) e =
        edits-kept w t (joined l r) k (inside false es ++ inside true fs) table e (held_first k t order e) (own-joined l r)
        (edits-joined (without_own t) l r es fs (ordered_split (without_own t) (ordered_bare t order) ∙ ap (λ o. whole o (half (without_own t) false) (half (without_own t) true)) (own-bare t))
        (subst (λ u. AreEdits u l es) (sym (half-bare t false)) a) (subst (λ u. AreEdits u r fs) (sym (half-bare t true)) b))

pub edits-put : (ds : List Bool) (v : ℕ) (t u : List (List Bool × Option ℕ)) (es : List (List Bool × Option (Option ℕ))) → IsBitTable (length ds + v) t → IsInOrder t → AreEdits (inner ds t) u es → AreEdits t (put ds t u) (within ds es)
edits-put [] v t u es table order a = subst (AreEdits t u) (sym (within-whole es)) a
edits-put (false ∷ ds) v t u es table order a =
    let w = length ds + v in
    let less : IsBitTable (suc w) t = subst (λ i. IsBitTable i t) (omega arith) table in
    subst (AreEdits t (put (false ∷ ds) t u)) (append-nil (inside false (within ds es)) ∙ within_within (false ∷ []) ds es)
    (edits-whole (suc w) t (put ds (half t false) u) (half t true) (within ds es) [] less order (edits-put ds v (half t false) u es (IsBitTable-half w t false less) (ordered_half t false order) a) (edits-none w (half t true) (IsBitTable-half w t true less)))
edits-put (true ∷ ds) v t u es table order a =
    let w = length ds + v in
    let less : IsBitTable (suc w) t = subst (λ i. IsBitTable i t) (omega arith) table in
    subst (AreEdits t (put (true ∷ ds) t u)) (within_within (true ∷ []) ds es)
    (edits-whole (suc w) t (half t false) (put ds (half t true) u) [] (within ds es) less order (edits-none w (half t false) (IsBitTable-half w t false less)) (edits-put ds v (half t true) u es (IsBitTable-half w t true less) (ordered_half t true order) a))

-- ---- hops

-- the hop of an address of a block, by the routes around the block and those inside
hop-around : (ds : List Bool) (o : Option (Option ℕ)) (s : Option ℕ) (t : List (List Bool × Option ℕ)) (x : List Bool) → hop_inheriting (passed s o) t (ds ++ x) ≡ hop_inheriting (passed s (around ds o t)) (inner ds t) x
hop-around [] o s t x = refl
hop-around (b ∷ ds) o s t x = hop-half (passed s o) t b (ds ++ x) ∙ ap (λ k. hop_inheriting k (half t b) (ds ++ x)) (passed_told o (own t) s) ∙ hop-around ds (innermost_route o (own t)) s (half t b) x

inherited_around : (ds : List Bool) (o : Option (Option ℕ)) (s : Option ℕ) (t : List (List Bool × Option ℕ)) → inherited_hop ds (passed s o) t ≡ passed s (around ds o t)
inherited_around [] o s t = refl
inherited_around (b ∷ ds) o s t = ap (λ k. inherited_hop ds k (half t b)) (passed_told o (own t) s) ∙ inherited_around ds (innermost_route o (own t)) s (half t b)

pub IsBitTable-inner : (ds : List Bool) (v : ℕ) (t : List (List Bool × Option ℕ)) → IsBitTable (length ds + v) t → IsBitTable v (inner ds t)
IsBitTable-inner [] v t h = subst (λ i. IsBitTable i t) (omega arith) h
IsBitTable-inner (b ∷ ds) v t h = IsBitTable-inner ds v (half t b) (IsBitTable-half (length ds + v) t b (subst (λ i. IsBitTable i t) (omega arith) h))

ordered_inner : (ds : List Bool) (t : List (List Bool × Option ℕ)) → IsInOrder t → IsInOrder (inner ds t)
ordered_inner [] t h = h
ordered_inner (b ∷ ds) t h = ordered_inner ds (half t b) (ordered_half t b h)

-- a nearest table for one function of hops is one for the same
nearest_same : (w : ℕ) (h g : List Bool → Option ℕ) (s : Option ℕ) (t u : List (List Bool × Option ℕ)) → ((x : List Bool) → length x ≡ w → g x ≡ h x) → IsNearestTable w h s t u → IsNearestTable w g s t u
nearest_same w h g s t u e n = record {
  gives = record { table = n.gives.table; same = λ x l. n.gives.same x l ∙ sym (e x l) };
  nearest = λ v gv. n.nearest v (record { table = gv.table; same = λ x l. gv.same x l ∙ e x l });
}

-- ---- the contract of `nearest`

module _ (W : ℕ) (ds : List Bool) (fits : length ds ≤ W) where
  abbrev v : ℕ
  v = W - length ds

  width : length ds + (W - length ds) ≡ W
  width = omega (arith, fits)

  pub table_at : (t : List (List Bool × Option ℕ)) → IsBitTable W t → IsBitTable (W - length ds) (inner ds t)
  table_at t h = IsBitTable-inner ds (W - length ds) t (subst (λ i. IsBitTable i t) (sym width) h)

  pub made : (cs t : List (List Bool × Option ℕ)) (old : Option ℕ) (told : Option (Option ℕ)) (p : Plan) (es : List (List Bool × Option (Option ℕ))) → IsBitTable W t → IsInOrder t → AreInside W ds cs → old ≡ passed None (around ds None t) → told ≡ around ds None cs
      → Plans (W - length ds) told old (inner ds cs) (inner ds t) p → es ≡ within ds (edits_of (tree_of p) old) → MakeNearest W cs t es
  made cs t old told p es table order inside o_is t_is plan es_is = record {
    table = put ds t u;
    nearest = subst (λ i. IsNearestTable i (told_hop cs t) None t (put ds t u)) width (local_law ds (W - length ds) (told_hop cs t) None t u wide outside (nearest_same (W - length ds) (new_hop told old (inner ds cs) (inner ds t)) (inner_of ds (told_hop cs t)) (inherited_hop ds None t) (inner ds t) u hops
        (subst (λ s. IsNearestTable (W - length ds) (new_hop told old (inner ds cs) (inner ds t)) s (inner ds t) u) (o_is ∙ sym (inherited_around ds None None t)) (plans_law (W - length ds) (new_hop told old (inner ds cs) (inner ds t)) old (inner ds t) (tree_of p) (table_at t table) plan.0))));
    order = ordered_put ds t u order (ordered_new (W - length ds) (new_hop told old (inner ds cs) (inner ds t)) (inner ds t) (tree_of p) (table_at t table) (ordered_inner ds t order) plan.0 old);
    edits = subst (AreEdits t (put ds t u)) (sym es_is) (edits-put ds (W - length ds) t u (edits_of (tree_of p) old) wide order (edits_law (W - length ds) (new_hop told old (inner ds cs) (inner ds t)) old (inner ds t) (tree_of p) (table_at t table) (ordered_inner ds t order) plan.0));
  }
    where
      u : List (List Bool × Option ℕ)
      u = new_table (tree_of p) (inner ds t) old

      wide : IsBitTable (length ds + (W - length ds)) t
      wide = subst (λ i. IsBitTable i t) (sym width) table

      outside : (x : List Bool) → length x ≡ length ds + (W - length ds) → begins ds x ≡ false → told_hop cs t x ≡ hop_inheriting None t x
      outside x l f = ap (matched_hop (hop_inheriting None t x)) (inside x (l ∙ width) f)

      hops : (x : List Bool) → length x ≡ W - length ds → told_hop cs t (ds ++ x) ≡ new_hop told old (inner ds cs) (inner ds t) x
      hops x l = hop-around ds None (hop_inheriting None t (ds ++ x)) cs x ∙ ap₂ (λ o s. hop_inheriting (passed s o) (inner ds cs) x) (sym t_is) (hop-around ds None None t x ∙ ap (λ s. hop_inheriting s (inner ds t) x) (sym o_is))

-- the tree of a plan fits into its block
pub fits_plan : (w : ℕ) (h : List Bool → Option ℕ) (t : List (List Bool × Option ℕ)) (p : Tree) → IsPlan w h t p → Fits w p
fits_plan w h t (Stay hops) plan = tt
fits_plan w h t (Fork hops l r) plan = (plan.0, plan.1, fits_plan plan.0 (half_of false h) (half t false) l plan.4, fits_plan plan.0 (half_of true h) (half t true) r plan.5)
fits_plan w h t (Held k p) plan = fits_plan w h (without_own t) p plan.1

-- without changes the table stays
pub made_none : (w : ℕ) (t : List (List Bool × Option ℕ)) → IsBitTable w t → IsInOrder t → MakeNearest w [] t []
made_none w t table order =
    let none = distance-self w t table in
    record {
      table = t;
      nearest = record { gives = record { table = table; same = λ x l. refl }; nearest = λ v g. omega (arith, none) };
      order = order;
      edits = record {
        installs = sym (nil_from_length (missing_routes t t) (omega (arith, none)));
        removes = sym (ap blocks (nil_from_length (surplus_routes t t) (omega (arith, none))));
      };
    }
