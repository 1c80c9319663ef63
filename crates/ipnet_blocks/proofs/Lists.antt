-- `Any` and ascending lists along `++`.
use Rattle.std.proofs.Common.{◌⊎◌, inl, inr, ⊎_elim, refl, sym, subst, List, [], ◌∷◌, ◌++◌, Any}
use Rattle.std.specs.List.Sorted.{IsPermutation}
use Rattle.std.proofs.lemmas.List.Sorted.{Contains-permutation}
use Rattle.ipnet_addr.proofs.Members.{In, In-left, In-right, In-cases}
use Rattle.ipnet_addr.proofs.Ascending.{In-from_Any, Any-from_In, In-from_Contains, Contains-from_In, Rising}

module _ {X : Type 0} (P : X → Type 0) where
  pub any_left : (xs ys : List X) → Any P xs → Any P (xs ++ ys)
  any_left xs ys h = let a = In-from_Any P xs h in Any-from_In P (xs ++ ys) a.0 (In-left a.0 xs ys a.1) a.2

  pub any_right : (xs ys : List X) → Any P ys → Any P (xs ++ ys)
  any_right xs ys h = let a = In-from_Any P ys h in Any-from_In P (xs ++ ys) a.0 (In-right a.0 xs ys a.1) a.2

  pub any_cases : (xs ys : List X) → Any P (xs ++ ys) → Any P xs ⊎ Any P ys
  any_cases xs ys h =
      let a = In-from_Any P (xs ++ ys) h in
      ⊎_elim (λ i. inl (Any-from_In P xs a.0 i a.2)) (λ i. inr (Any-from_In P ys a.0 i a.2)) (In-cases a.0 xs ys a.1)

  pub any_one : (x : X) → P x → Any P (x ∷ [])
  any_one x p = Any-from_In P (x ∷ []) x (inl refl) p

  pub one_any : (x : X) → Any P (x ∷ []) → P x
  one_any x h = let a = In-from_Any P (x ∷ []) h in ⊎_elim (λ e. subst P e a.2) (λ n. absurd n) a.1

  pub any_permutation : (xs ys : List X) → IsPermutation xs ys → Any P xs → Any P ys
  any_permutation xs ys p h =
      let a = In-from_Any P xs h in
      Any-from_In P ys a.0 (In-from_Contains ys a.0 (Contains-permutation xs ys a.0 p (Contains-from_In xs a.0 a.1))) a.2

module _ {X : Type 0} (R : X → X → Type 0) where
  pub rising_append : (xs ys : List X) → Rising R xs → Rising R ys → ((x y : X) → In x xs → In y ys → R x y) → Rising R (xs ++ ys)
  rising_append [] ys h g o = g
  rising_append (x ∷ xs) ys h g o = (
    (λ y i. ⊎_elim (λ j. h.0 y j) (λ j. o x y (inl refl) j) (In-cases y xs ys i)),
    rising_append xs ys h.1 g (λ a b i j. o a b (inr i) j),
  )

  pub rising_cross : (xs ys : List X) → Rising R (xs ++ ys) → (x y : X) → In x xs → In y ys → R x y
  rising_cross [] ys h x y i j = absurd i
  rising_cross (z ∷ xs) ys h x y i j = ⊎_elim (λ e. subst (λ (a : X). R a y) (sym e) (h.0 y (In-right y xs ys j))) (λ k. rising_cross xs ys h.1 x y k j) i

  pub rising_front : (xs ys : List X) → Rising R (xs ++ ys) → Rising R xs
  rising_front [] ys h = tt
  rising_front (x ∷ xs) ys h = ((λ y i. h.0 y (In-left y xs ys i)), rising_front xs ys h.1)
