-- The routes of a plan are in order.
use Rattle.std.proofs.Common.{◌≡◌, ℕ, Bool, true, false, List, [], ◌∷◌, ◌++◌, All, AllPairs, Option, Some, None, refl, ◌∙◌, Less, arith}
use Rattle.std.proofs.lemmas.List.Elements.{All-nil, All-cons}
use Rattle.std.proofs.lemmas.List.Kept.{AllPairs-cons}
use Rattle.std.proofs.lemmas.Bool.{cond_both}
use Rattle.ipnet_blocks.specs.BitStrings.{bits_cmp}
use Rattle.trie_core.proofs.Strings.{bits_cmp-under}
use Rattle.least_table.specs.HopSets.{is_same_hop, holds, first_hop}
use Rattle.least_table.specs.InnerTrees.{LeastPlan, Leaf, Fork, Skip, beside, lone_route, plan_routes, with_best}
use Rattle.least_table.specs.Tables.{own, within}
use Rattle.least_table.specs.Wholes.{with_own}
use Rattle.least_table.proofs.Split.{joined, own-joined}
use Rattle.least_table.specs.Orders.{ComesBeforeAll, IsInOrder}

-- routes of a block, as routes of the whole, keep their order
ComesBeforeAll-within : (ds x : List Bool) (t : List (List Bool × Option ℕ)) → ComesBeforeAll x t → ComesBeforeAll (ds ++ x) (within ds t)
ComesBeforeAll-within ds x [] h = tt
ComesBeforeAll-within ds x (r ∷ t) h = (bits_cmp-under ds x r.0 ∙ h.0, ComesBeforeAll-within ds x t h.1)

IsInOrder-within : (ds : List Bool) (t : List (List Bool × Option ℕ)) → IsInOrder t → IsInOrder (within ds t)
IsInOrder-within ds [] h = tt
IsInOrder-within ds (r ∷ t) h = (ComesBeforeAll-within ds r.0 t h.0, IsInOrder-within ds t h.1)

pub IsInOrder-joined : (l r : List (List Bool × Option ℕ)) → IsInOrder l → IsInOrder r → IsInOrder (joined l r)
IsInOrder-joined [] r h k = IsInOrder-within (true ∷ []) r k
IsInOrder-joined (q ∷ l) r h k = (before l r h.0, IsInOrder-joined l r h.1 k)
  where
    before : (l r : List (List Bool × Option ℕ)) → ComesBeforeAll q.0 l → ComesBeforeAll (false ∷ q.0) (joined l r)
    before [] [] h = tt
    before [] (p ∷ r) h = (refl, before [] r h)
    before (p ∷ l) r h = (h.0, before l r h.1)

-- the route of the whole block comes before all others
after_whole : (t : List (List Bool × Option ℕ)) → own t ≡ None → ComesBeforeAll [] t
after_whole [] e = tt
after_whole (([], k) ∷ t) e = cc
after_whole ((b ∷ c, k) ∷ t) e = (refl, after_whole t e)

pub IsInOrder-with : (o : Option (Option ℕ)) (t : List (List Bool × Option ℕ)) → own t ≡ None → IsInOrder t → IsInOrder (with_own o t)
IsInOrder-with None t e h = h
IsInOrder-with (Some k) t e h = (after_whole t e, h)

-- the routes of a block that is cut, by those that its parts have under each hop
cut_in_order : (r : Option ℕ → List (List Bool × Option ℕ)) (hops : List (Option ℕ)) (s : Option ℕ) → ((k : Option ℕ) → IsInOrder (r k) × (own (r k) ≡ None)) → IsInOrder (with_best hops r s)
cut_in_order r hops s h = cond_both (holds hops s) (r s) (([], first_hop hops) ∷ r (first_hop hops)) IsInOrder (λ e. (h s).0) (λ e. IsInOrder-with (Some (first_hop hops)) (r (first_hop hops)) (h (first_hop hops)).1 (h (first_hop hops)).0)

joined_order : (l r : List (List Bool × Option ℕ)) → IsInOrder l → IsInOrder r → IsInOrder (joined l r) × (own (joined l r) ≡ None)
joined_order l r h k = (IsInOrder-joined l r h k, own-joined l r)

IsInOrder-one : (k s : Option ℕ) → IsInOrder (lone_route k s)
IsInOrder-one k s = cond_both (is_same_hop s k) [] (([], k) ∷ []) IsInOrder (λ e. tt) (λ e. (tt, tt))

beside_order : (b : Bool) (k s : Option ℕ) (t : List (List Bool × Option ℕ)) → IsInOrder t → IsInOrder (beside b k s t) × (own (beside b k s t) ≡ None)
beside_order true k s t h = joined_order (lone_route k s) t (IsInOrder-one k s) h
beside_order false k s t h = joined_order t (lone_route k s) h (IsInOrder-one k s)

pub IsInOrder-routes : (t : LeastPlan) (s : Option ℕ) → IsInOrder (plan_routes t s)
IsInOrder-routes (Leaf k) s = cut_in_order (λ i. []) (Some k ∷ []) s (λ i. (tt, refl))
IsInOrder-routes (Fork hops l r) s = cut_in_order (λ k. joined (plan_routes l k) (plan_routes r k)) hops s (λ k. joined_order (plan_routes l k) (plan_routes r k) (IsInOrder-routes l k) (IsInOrder-routes r k))
IsInOrder-routes (Skip k hops b ds t) s = cut_in_order (λ i. beside b k i (within ds (plan_routes t i))) hops s (λ i. beside_order b k i (within ds (plan_routes t i)) (IsInOrder-within ds (plan_routes t i) (IsInOrder-routes t i)))

all_after : (x : List Bool) (t : List (List Bool × Option ℕ)) → ComesBeforeAll x t → All (λ r. bits_cmp x r.0 ≡ Less) t
all_after x [] h = All-nil (λ r. bits_cmp x r.0 ≡ Less)
all_after x (r ∷ t) h = All-cons (λ q. bits_cmp x q.0 ≡ Less) r t h.0 (all_after x t h.1)

pub in_pairs : (t : List (List Bool × Option ℕ)) → IsInOrder t → AllPairs (λ r s. bits_cmp r.0 s.0 ≡ Less) t
in_pairs [] h = λ i j d l m. absurd (omega (arith, l, m))
in_pairs (r ∷ t) h = AllPairs-cons (λ q s. bits_cmp q.0 s.0 ≡ Less) r t (all_after r.0 t h.0) (in_pairs t h.1)
