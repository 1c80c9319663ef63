-- The pages of a table are its routes from a network on.
use Rattle.std.proofs.Common.{filter, ◌≡◌, ℕ, zero, suc, ◌+◌, ◌≤◌, inl, inr, not, ◌&&◌, Bool, List, [], ◌∷◌, ◌++◌, length, take, drop, refl, sym, ap, ◌∙◌, subst, length-drop, take-append-drop, append_assoc, flat_map, arith}
use Rattle.std.proofs.lemmas.Bool.{and_parts, and_from, cond-false, false_from_ne_true}
use Rattle.std.proofs.lemmas.List.Elements.{filter-append}
use Rattle.ipnet_addr.proofs.Basics.{filtered_length}
use Rattle.ipnet_addr.specs.Addresses.{same_family}
use Rattle.ipnet_addr.proofs.Members.{In, In-right}
use Rattle.ipnet_addr.proofs.Ascending.{Rising}
use Rattle.ipnet_blocks.specs.Blocks.{Block, is_before}
use Rattle.ipnet_addr.proofs.Families.{family_from_test, test_from_family}
use Rattle.ipnet_blocks.proofs.BlockLaws.{strict, transitive}
use Rattle.ipnet_blocks.proofs.BlockTests.{before_from_test, test_from_before}
use Rattle.ipnet_blocks.proofs.Lists.{rising_cross}
use Rattle.route_choices.proofs.Kept.{In-from_filter, Rising-kept, all_kept, none_kept}
use Rattle.route_laws.specs.Laws.{PagesAreRoutes, PagesEnd}
use Rattle.route_laws.specs.Onwards.{routes_from, routes_after}
use Rattle.route_laws.specs.Pages.{last_of, pages_up_to}
use Rattle.route_laws.specs.Tables.{Route, IsTable}
use Rattle.route_laws.proofs.Insides.{Sooner, filter_again, rising}
use Rattle.route_laws.proofs.Matches.{not_cases, not_from}
use Rattle.route_laws.proofs.laws.pages.Goals as goal

right_rises : (xs ys : List Route) → Rising Sooner (xs ++ ys) → Rising Sooner ys
right_rises [] ys h = h
right_rises (x ∷ xs) ys h = right_rises xs ys h.1

split_last : (r : Route) (rs ys : List Route) → (xs : List Route) × (r ∷ rs ++ ys ≡ xs ++ last_of r rs ∷ ys)
split_last r [] ys = ([], refl)
split_last r (s ∷ rs) ys = let t = split_last s rs ys in (r ∷ t.0, ap (λ zs. r ∷ zs) t.1)

module _ (M : List Route) (m : IsTable M) (n : Block) where
  abbrev onwards : Route → Bool
  onwards r = same_family r.block.family n.family && not (is_before r.block n)

  -- what comes after one of the routes from n on is the rest of them
  after_is_rest : (xs : List Route) (r : Route) (ys : List Route) → routes_from M n ≡ xs ++ r ∷ ys → routes_after M r.block ≡ ys
  after_is_rest xs r ys e =
      sym (filter_again onwards later M (λ s i f.
      let q = and_parts _ _ f in
      let l = before_from_test r.block s.block q.1 in
      let not_before = (and_parts _ _ (In-from_filter onwards M r (held r here)).1).1 in
      and_from _ _ (test_from_family s.block.family n.family (family_from_test s.block.family r.block.family q.0 ∙ family r here))
      (not_from (is_before s.block n) (λ b. not_cases (is_before r.block n) not_before
      (test_from_before r.block n (transitive r.block s.block n l (before_from_test s.block n b)))))))
      ∙ ap (filter later) e ∙ filter-append later xs (r ∷ ys)
      ∙ ap (λ zs. zs ++ filter later (r ∷ ys)) (none_kept later xs (λ s i. false_from_ne_true (later s) (λ f.
      strict s.block r.block (rising_cross Sooner xs (r ∷ ys) up s r i (inl refl)) (before_from_test _ _ (and_parts _ _ f).1))))
      ∙ cond-false (later r) (r ∷ filter later ys) (filter later ys) (false_from_ne_true (later r) (λ f.
      let l = before_from_test r.block r.block (and_parts _ _ f).1 in strict r.block r.block l l))
      ∙ all_kept later ys (λ s i.
      let j = In-right s xs (r ∷ ys) (inr i) in
      and_from _ _ (test_from_family _ _ (family s j ∙ sym (family r here))) (test_from_before _ _ (right.0 s i)))
    where
      later : Route → Bool
      later s = same_family s.block.family r.block.family && is_before r.block s.block

      up : Rising Sooner (xs ++ r ∷ ys)
      up = subst (Rising Sooner) e (Rising-kept Sooner onwards M (rising M m))

      right : Rising Sooner (r ∷ ys)
      right = right_rises xs (r ∷ ys) up

      here : In r (xs ++ r ∷ ys)
      here = In-right r xs (r ∷ ys) (inl refl)

      held : (s : Route) → In s (xs ++ r ∷ ys) → In s (routes_from M n)
      held s i = subst (In s) (sym e) i

      family : (s : Route) → In s (xs ++ r ∷ ys) → s.block.family ≡ n.family
      family s i = family_from_test s.block.family n.family (and_parts _ _ (In-from_filter onwards M s (held s i)).1).0

  -- a page that begins with r, and the routes before it: after the page come the others
  module _ (k : ℕ) where
    next_page : (xs : List Route) (r : Route) (L : List Route) → routes_from M n ≡ xs ++ r ∷ L →
        (ys : List Route) × (routes_after M (last_of r (take k L)).block ≡ drop k L) × (routes_from M n ≡ ys ++ drop k L)
    next_page xs r L e =
        let t = split_last r (take k L) (drop k L) in
        let last = last_of r (take k L) in
        let f : routes_from M n ≡ (xs ++ t.0) ++ last ∷ drop k L =
        e ∙ ap (λ zs. xs ++ r ∷ zs) (sym (take-append-drop k L)) ∙ ap (λ zs. xs ++ zs) t.1 ∙ sym (append_assoc xs t.0 _) in
        ((xs ++ t.0) ++ last ∷ [], after_is_rest (xs ++ t.0) last (drop k L) f, f ∙ sym (append_assoc _ (last ∷ []) _))

    all_pages : (most : ℕ) (xs L : List Route) → routes_from M n ≡ xs ++ L → length L ≤ most → flat_map (λ page. page) (pages_up_to most M (suc k) (take (suc k) L)) ≡ L
    all_pages most xs [] e h = refl
    all_pages zero xs (r ∷ L) e h = absurd (omega arith)
    all_pages (suc most) xs (r ∷ L) e h =
        let t = next_page xs r L e in
        ap (λ ys. r ∷ take k L ++ flat_map (λ page. page) (pages_up_to most M (suc k) (take (suc k) ys))) t.1
        ∙ ap (λ ys. r ∷ take k L ++ ys) (all_pages most t.0 (drop k L) t.2 (let d = length-drop k L in omega arith))
        ∙ ap (λ ys. r ∷ ys) (take-append-drop k L)

    no_more : (most more : ℕ) (xs L : List Route) → routes_from M n ≡ xs ++ L → length L ≤ most → length L ≤ more → pages_up_to most M (suc k) (take (suc k) L) ≡ pages_up_to more M (suc k) (take (suc k) L)
    no_more most more xs [] e h g = refl
    no_more zero more xs (r ∷ L) e h g = absurd (omega arith)
    no_more (suc most) zero xs (r ∷ L) e h g = absurd (omega arith)
    no_more (suc most) (suc more) xs (r ∷ L) e h g =
        let d = length-drop k L in
        let t = next_page xs r L e in
        ap (λ ps. (r ∷ take k L) ∷ ps) (rw t.1 (no_more most more t.0 (drop k L) t.2 (omega arith) (omega arith)))

routes_by_page : PagesAreRoutes
routes_by_page M n zero m h = absurd (omega arith)
routes_by_page M n (suc k) m h = all_pages M m n k (length M) [] (routes_from M n) refl (filtered_length (onwards M m n) M)

end_is_end : PagesEnd
end_is_end M n zero more m h = absurd (omega arith)
end_is_end M n (suc k) more m h =
    let s = filtered_length (onwards M m n) M in
    no_more M m n k (length M + more) (length M) [] (routes_from M n) refl (omega arith) s

pub returns : goal.returns
returns c = record { routes = routes_by_page; end = end_is_end }
