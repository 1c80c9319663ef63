-- A page of routes, one after another.
use Rattle.std.proofs.Common.{◌≡◌, ℕ, suc, ◌-◌, ◌<◌, List, [], ◌∷◌, ◌++◌, append_assoc, length, map, take, sym, ap, ◌∙◌, arith}
use Rattle.std.proofs.lemmas.List.{length_push}
use Rattle.route_laws.specs.Tables.{Route as TableRoute}
use Rattle.routes_c.specs.RouteLists.{route_shown}
use Rattle.routes_c.specs.declared.shown.Route.{Route}

-- the next route of a page that is not full goes to the end of the list
pub one_more : (n : ℕ) (xs zs out : List Route) (rs left : List TableRoute) (r : TableRoute) → length xs < n → rs ≡ r ∷ left → zs ≡ xs ++ route_shown r ∷ []
    → xs ++ map route_shown (take (n - length xs) rs) ≡ out → zs ++ map route_shown (take (n - length zs) left) ≡ out
one_more n xs zs out rs left r room given pushed e =
    let length_is : length zs ≡ length (xs ++ route_shown r ∷ []) = ap length pushed in
    let more : n - length xs ≡ suc (n - length zs) = omega (arith, length_is, length_push xs (route_shown r), room) in
    ap (λ ys. ys ++ map route_shown (take (n - length zs) left)) pushed
    ∙ append_assoc xs (route_shown r ∷ []) (map route_shown (take (n - length zs) left))
    ∙ ap (λ k. xs ++ map route_shown (take k (r ∷ left))) (sym more)
    ∙ ap (λ ss. xs ++ map route_shown (take (n - length xs) ss)) (sym given)
    ∙ e
