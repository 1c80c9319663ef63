-- The tables that plans make are in order.
use Rattle.std.proofs.Common.{◌≡◌, Bool, true, false, List, [], ◌∷◌, ℕ, suc, Option, Some, None, subst}
use Rattle.std.proofs.lemmas.Bool.{cond_both}
use Rattle.least_table.specs.Orders.{IsInOrder}
use Rattle.least_table.specs.BestHops.{Any, Of, first_best_hop, wants}
use Rattle.least_table.specs.HopSets.{first_hop, holds}
use Rattle.nearest_table.specs.Plans.{Tree, Stay, Fork, Held, tree_best, IsPlan, new_table}
use Rattle.least_table.specs.Tables.{IsBitTable, half, half_of, own}
use Rattle.least_table.specs.Wholes.{without_own}
use Rattle.nearest_table.specs.Blocks.{put}
use Rattle.least_table.proofs.Split.{joined, own_covers, own-joined, IsBitTable-half, IsBitTable-bare, own-bare}
use Rattle.least_table.proofs.Orders.{IsInOrder-joined, IsInOrder-with}
use Rattle.nearest_table.proofs.Trees.{first_best, plain}
use Rattle.nearest_table.proofs.TreeEdits.{ordered_bare, ordered_half}

held_ordered : (w : ℕ) (h : List Bool → Option ℕ) (t : List (List Bool × Option ℕ)) (k : Option ℕ) (p : Tree) → IsBitTable w t → IsPlan w h (without_own t) p → ((c : Option ℕ) → IsInOrder (new_table p (without_own t) c)) → (s : Option ℕ) → IsInOrder (new_table (Held k p) t s)
held_ordered w h t k p table plan inner s = cond_both (wants (tree_best p) k) _ _ IsInOrder (λ e. IsInOrder-with (Some k) (new_table p (without_own t) k) (nothing k e) (inner k))
    (λ e. cond_both (wants (tree_best p) s) _ _ IsInOrder (λ f. inner s) (λ f. IsInOrder-with (Some first) (new_table p (without_own t) first) (nothing first some) (inner first)))
  where
    first : Option ℕ
    first = first_best_hop (tree_best p)

    nothing : (c : Option ℕ) → wants (tree_best p) c ≡ true → own (new_table p (without_own t) c) ≡ None
    nothing c e = plain w h (without_own t) p plan (own-bare t) c e

    some : wants (tree_best p) (first_best_hop (tree_best p)) ≡ true
    some = first_best w h (without_own t) p (IsBitTable-bare w t table) plan

pub ordered_new : (w : ℕ) (h : List Bool → Option ℕ) (t : List (List Bool × Option ℕ)) (p : Tree) → IsBitTable w t → IsInOrder t → IsPlan w h t p → (s : Option ℕ) → IsInOrder (new_table p t s)
ordered_new w h t (Stay Any) table order plan s = order
ordered_new w h t (Stay (Of ks)) table order plan s = cond_both (holds ks s) t (([], first_hop ks) ∷ t) IsInOrder (λ e. order) (λ e. IsInOrder-with (Some (first_hop ks)) t (own_covers w t plan.1.2 table plan.1.4) order)
ordered_new w h t (Fork hops l r) table order plan s =
    let less : IsBitTable (suc plan.0) t = subst (λ i. IsBitTable i t) plan.1 table in
    let both : (c : Option ℕ) → IsInOrder (joined (new_table l (half t false) c) (new_table r (half t true) c)) = λ c. IsInOrder-joined (new_table l (half t false) c) (new_table r (half t true) c)
    (ordered_new plan.0 (half_of false h) (half t false) l (IsBitTable-half plan.0 t false less) (ordered_half t false order) plan.4 c)
    (ordered_new plan.0 (half_of true h) (half t true) r (IsBitTable-half plan.0 t true less) (ordered_half t true order) plan.5 c) in
    cond_both (wants hops s) _ _ IsInOrder (λ e. both s)
    (λ e. IsInOrder-with (Some (first_best_hop hops)) (joined (new_table l (half t false) (first_best_hop hops)) (new_table r (half t true) (first_best_hop hops))) (own-joined (new_table l (half t false) (first_best_hop hops)) (new_table r (half t true) (first_best_hop hops))) (both (first_best_hop hops)))
ordered_new w h t (Held k p) table order plan s = held_ordered w h t k p table plan.1 (λ c. ordered_new w h (without_own t) p (IsBitTable-bare w t table) (ordered_bare t order) plan.1 c) s

-- a table is in order if the routes inside a block are replaced by such a table
pub ordered_put : (ds : List Bool) (t u : List (List Bool × Option ℕ)) → IsInOrder t → IsInOrder u → IsInOrder (put ds t u)
ordered_put [] t u h k = k
ordered_put (false ∷ ds) t u h k = IsInOrder-with (own t) (joined (put ds (half t false) u) (half t true)) (own-joined (put ds (half t false) u) (half t true)) (IsInOrder-joined (put ds (half t false) u) (half t true) (ordered_put ds (half t false) u (ordered_half t false h) k) (ordered_half t true h))
ordered_put (true ∷ ds) t u h k = IsInOrder-with (own t) (joined (half t false) (put ds (half t true) u)) (own-joined (half t false) (put ds (half t true) u)) (IsInOrder-joined (half t false) (put ds (half t true) u) (ordered_half t false h) (ordered_put ds (half t true) u (ordered_half t true h) k))
