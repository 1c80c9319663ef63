-- What a table has in a block, by the list of its routes.
use Rattle.std.proofs.Common.{◌≡◌, ℕ, suc, Bool, true, false, ◌↔◌, List, [], ◌∷◌, ◌++◌, length, Option, None, refl, sym, ap, ap₂, ◌∙◌, arith}
use Rattle.std.proofs.lemmas.Bool.{false_from_ne_true}
use Rattle.std.proofs.lemmas.Bool.Decides.{nat_tests}
use Rattle.nearest_table.specs.Asked.{AskedLaw, NoneHolds, NoneInside, at, hop_if, shorter}
use Rattle.least_table.specs.Wholes.{without_own}
use Rattle.nearest_table.specs.Blocks.{inner, around, innermost_route}
use Rattle.ipnet_blocks.specs.BitStrings.{begins}
use Rattle.least_table.specs.Tables.{half, longest_route, own}
use Rattle.least_table.proofs.Split.{lifted, longest_route-half}

at-whole : (t : List (List Bool × Option ℕ)) → own t ≡ at t []
at-whole [] = refl
at-whole (([], k) ∷ t) = refl
at-whole (_ ∷ t) = at-whole t

at-half : (t : List (List Bool × Option ℕ)) (b : Bool) (c : List Bool) → at (half t b) c ≡ at t (b ∷ c)
at-half [] b c = refl
at-half ((false ∷ d, k) ∷ t) false c = cc (at-half t false c)
at-half ((true ∷ d, k) ∷ t) true c = cc (at-half t true c)
at-half (_ ∷ t) b c = at-half t b c

own_at : (b : List Bool) (t : List (List Bool × Option ℕ)) → own (inner b t) ≡ at t b
own_at [] t = at-whole t
own_at (c ∷ b) t = own_at b (half t c) ∙ at-half t c b

-- ---- none inside

leaf_whole : (t : List (List Bool × Option ℕ)) → (without_own t ≡ []) ↔ NoneInside t []
leaf_whole [] = ((λ e. tt), (λ h. refl))
leaf_whole (([], k) ∷ t) = let m = leaf_whole t in ((λ e. ((λ f. refl), m.0 e)), (λ h. m.1 h.1))
leaf_whole ((b ∷ c, k) ∷ t) = ((λ e. cc), (λ h. let e = h.0 refl in cc))

leaf_half : (t : List (List Bool × Option ℕ)) (b : Bool) (c : List Bool) → NoneInside (half t b) c ↔ NoneInside t (b ∷ c)
leaf_half [] b c = ((λ h. tt), (λ h. tt))
leaf_half ((false ∷ d, k) ∷ t) false c = let m = leaf_half t false c in ((λ h. ((λ f. cc (h.0 f)), m.0 h.1)), (λ h. ((λ f. cc (h.0 f)), m.1 h.1)))
leaf_half ((true ∷ d, k) ∷ t) true c = let m = leaf_half t true c in ((λ h. ((λ f. cc (h.0 f)), m.0 h.1)), (λ h. ((λ f. cc (h.0 f)), m.1 h.1)))
leaf_half (_ ∷ t) b c = let m = leaf_half t b c in ((λ h. ((λ f. cc), m.0 h)), (λ h. m.1 h.1))

leaf_at : (b : List Bool) (t : List (List Bool × Option ℕ)) → (without_own (inner b t) ≡ []) ↔ NoneInside t b
leaf_at [] t = leaf_whole t
leaf_at (c ∷ b) t = let m = leaf_at b (half t c) in let n = leaf_half t c b in ((λ e. n.0 (m.0 e)), (λ h. m.1 (n.1 h)))

-- ---- the addresses that no route strictly inside contains

free_whole : (t : List (List Bool × Option ℕ)) (x : List Bool) → (longest_route (without_own t) x ≡ None) ↔ NoneHolds t [] x
free_whole [] x = ((λ e. tt), (λ h. refl))
free_whole (([], k) ∷ t) x = let m = free_whole t x in ((λ e. ((λ f g. refl), m.0 e)), (λ h. m.1 h.1))
free_whole ((b ∷ c, k) ∷ t) x =
    let m = free_whole t x in (
      (λ e. let off = skipped e in ((λ f g. let z = off.0 in cc), m.0 off.1)),
      (λ h. let off : begins (b ∷ c) x ≡ false = false_from_ne_true (begins (b ∷ c) x) (λ f. let e = h.0 refl f in cc) in rw off (m.1 h.1)),
    )
  where
    skipped : longest_route ((b ∷ c, k) ∷ without_own t) x ≡ None → (begins (b ∷ c) x ≡ false) × (longest_route (without_own t) x ≡ None)
    skipped e = (grind (arith, e), grind (arith, e))

free_half : (t : List (List Bool × Option ℕ)) (b : Bool) (c x : List Bool) → NoneHolds (half t b) c x ↔ NoneHolds t (b ∷ c) (b ∷ x)
free_half [] b c x = ((λ h. tt), (λ h. tt))
free_half ((false ∷ d, k) ∷ t) false c x = let m = free_half t false c x in ((λ h. ((λ f g. cc (h.0 f g)), m.0 h.1)), (λ h. ((λ f g. cc (h.0 f g)), m.1 h.1)))
free_half ((true ∷ d, k) ∷ t) true c x = let m = free_half t true c x in ((λ h. ((λ f g. cc (h.0 f g)), m.0 h.1)), (λ h. ((λ f g. cc (h.0 f g)), m.1 h.1)))
free_half (_ ∷ t) b c x = let m = free_half t b c x in ((λ h. ((λ f. cc), m.0 h)), (λ h. m.1 h.1))

free_at : (b : List Bool) (t : List (List Bool × Option ℕ)) (x : List Bool) → (longest_route (without_own (inner b t)) x ≡ None) ↔ NoneHolds t b (b ++ x)
free_at [] t x = free_whole t x
free_at (c ∷ b) t x = let m = free_at b (half t c) x in let n = free_half t c b (b ++ x) in ((λ e. n.0 (m.0 e)), (λ h. m.1 (n.1 h)))

-- ---- around

none_shorter : (t : List (List Bool × Option ℕ)) → shorter 0 t ≡ []
none_shorter [] = refl
none_shorter (r ∷ t) = grind (arith, nat_tests, none_shorter t)

own-shorter : (n : ℕ) (t : List (List Bool × Option ℕ)) → own (shorter (suc n) t) ≡ own t
own-shorter n [] = refl
own-shorter n (([], k) ∷ t) = grind (arith, nat_tests)
own-shorter n ((b ∷ c, k) ∷ t) = grind (arith, own-shorter n t)

half-shorter : (n : ℕ) (t : List (List Bool × Option ℕ)) (b : Bool) → half (shorter (suc n) t) b ≡ shorter n (half t b)
half-shorter n [] b = refl
half-shorter n ((false ∷ d, k) ∷ t) false = grind (arith, nat_tests, half-shorter n t false)
half-shorter n ((true ∷ d, k) ∷ t) true = grind (arith, nat_tests, half-shorter n t true)
half-shorter n (_ ∷ t) b = grind (arith, nat_tests, half-shorter n t b)

around_is : (b : List Bool) (o : Option (Option ℕ)) (t : List (List Bool × Option ℕ)) → around b o t ≡ innermost_route o (hop_if (longest_route (shorter (length b) t) b))
around_is [] o t = rw (none_shorter t) refl
around_is (c ∷ b) o t =
    around_is b (innermost_route o (own t)) (half t c)
    ∙ lift_over (own t) (longest_route (shorter (length b) (half t c)) b)
    ∙ ap (λ m. innermost_route o (hop_if m)) (ap₂ (λ k u. lifted c k (longest_route u b)) (sym (own-shorter (length b) t)) (sym (half-shorter (length b) t c)) ∙ sym (longest_route-half (shorter (suc (length b)) t) c b))
  where
    lift_over : (i : Option (Option ℕ)) (m : Option (List Bool × Option ℕ)) → innermost_route (innermost_route o i) (hop_if m) ≡ innermost_route o (hop_if (lifted c i m))
    lift_over i m = grind arith

pub asked_law : AskedLaw
asked_law t b = (own_at b t, leaf_at b t, around_is b None t ∙ over_none (hop_if (longest_route (shorter (length b) t) b)), free_at b t)
  where
    over_none : (m : Option (Option ℕ)) → innermost_route None m ≡ m
    over_none m = grind arith
