-- Ascending lists, by recursion.
use Rattle.std.proofs.Common.{◌≡◌, ℕ, zero, suc, ◌<◌, inl, inr, ⊎_elim, List, [], ◌∷◌, length, slice_index_or, Contains, All, Any, AllPairs, refl, sym, ◌∙◌, subst, arith}
use Rattle.std.proofs.lemmas.List.Elements.{Contains-get_or}
use Rattle.ipnet_addr.proofs.Members.{In, Distinct}

module _ {A : Type 0} where
  in_at : (xs : List A) (a : A) (k : ℕ) → k < length xs → slice_index_or xs k a ≡ a → In a xs
  in_at [] a k h e = absurd (omega arith)
  in_at (x ∷ xs) a zero h e = inl (sym e)
  in_at (x ∷ xs) a (suc k) h e = inr (in_at xs a k (omega arith) e)

  pub In-from_Contains : (xs : List A) (a : A) → Contains xs a → In a xs
  In-from_Contains xs a c = in_at xs a c.0 c.1 c.2

  pub Contains-from_In : (xs : List A) (a : A) → In a xs → Contains xs a
  Contains-from_In [] a h = absurd h
  Contains-from_In (x ∷ xs) a (inl e) = (0, omega arith, sym e)
  Contains-from_In (x ∷ xs) a (inr h) = let c = Contains-from_In xs a h in (suc c.0, (let l = c.1 in omega arith), c.2)

  pub In-from_All : (P : A → Type 0) (xs : List A) → All P xs → (a : A) → In a xs → P a
  In-from_All P xs h a i = let c = Contains-from_In xs a i in subst (λ (b : A). P b) c.2 (h c.0 a c.1)

  all_at : (P : A → Type 0) (xs : List A) → ((a : A) → In a xs → P a) → (k : ℕ) (d : A) → k < length xs → P (slice_index_or xs k d)
  all_at P [] h k d l = absurd (omega arith)
  all_at P (x ∷ xs) h zero d l = h x (inl refl)
  all_at P (x ∷ xs) h (suc k) d l = all_at P xs (λ a i. h a (inr i)) k d (omega arith)

  pub All-from_In : (P : A → Type 0) (xs : List A) → ((a : A) → In a xs → P a) → All P xs
  All-from_In P xs h = all_at P xs h

  pub In-from_Any : (P : A → Type 0) (xs : List A) → Any P xs → (a : A) × In a xs × P a
  In-from_Any P xs c = (c.1, In-from_Contains xs c.1 (c.0, c.2, c.3), c.4)

  pub Any-from_In : (P : A → Type 0) (xs : List A) → (a : A) → In a xs → P a → Any P xs
  Any-from_In P xs a i p = let c = Contains-from_In xs a i in (c.0, a, c.1, c.2, p)

  module _ (R : A → A → Type 0) where
    abbrev pub Rising : List A → Type 0
    Rising [] = Unit {0}
    Rising (x ∷ xs) = ((y : A) → In y xs → R x y) × Rising xs

    pub Rising-from_pairs : (xs : List A) → AllPairs R xs → Rising xs
    Rising-from_pairs [] h = tt
    Rising-from_pairs (x ∷ xs) h = (
      (λ y i. let c = Contains-from_In xs y i in subst (λ (b : A). R x b) c.2 (h 0 (suc c.0) y (omega arith) (let l = c.1 in omega arith))),
      Rising-from_pairs xs (λ i j d l m. h (suc i) (suc j) d (omega arith) (omega arith)),
    )

    pairs_at : (xs : List A) → Rising xs → (i j : ℕ) (d : A) → i < j → j < length xs → R (slice_index_or xs i d) (slice_index_or xs j d)
    pairs_at [] h i j d l m = absurd (omega arith)
    pairs_at (x ∷ xs) h i zero d l m = absurd (omega arith)
    pairs_at (x ∷ xs) h zero (suc j) d l m = h.0 (slice_index_or xs j d) (In-from_Contains xs (slice_index_or xs j d) (Contains-get_or xs j d (omega arith)))
    pairs_at (x ∷ xs) h (suc i) (suc j) d l m = pairs_at xs h.1 i j d (omega arith) (omega arith)

    pub pairs_from_Rising : (xs : List A) → Rising xs → AllPairs R xs
    pairs_from_Rising xs h = pairs_at xs h

    module _ (strict : (a b : A) → R a b → R b a → ⊥) where
      Rising-apart : (x : A) → R x x → ⊥
      Rising-apart x r = strict x x r r

      pub Distinct-from_Rising : (xs : List A) → Rising xs → Distinct xs
      Distinct-from_Rising [] h = tt
      Distinct-from_Rising (x ∷ xs) h = ((λ i. Rising-apart x (h.0 x i)), Distinct-from_Rising xs h.1)

      -- ascending lists with the same members are the same
      pub same_rising : (xs ys : List A) → Rising xs → Rising ys → ((a : A) → In a xs → In a ys) → ((a : A) → In a ys → In a xs) → xs ≡ ys
      same_rising [] [] h k f g = refl
      same_rising [] (y ∷ ys) h k f g = absurd (g y (inl refl))
      same_rising (x ∷ xs) [] h k f g = absurd (f x (inl refl))
      same_rising (x ∷ xs) (y ∷ ys) h k f g =
          let e : x ≡ y = ⊎_elim (λ p. p) (λ i. ⊎_elim (λ p. sym p) (λ j. absurd (strict x y (h.0 y j) (k.0 x i))) (g y (inl refl))) (f x (inl refl)) in
          let t : xs ≡ ys = same_rising xs ys h.1 k.1
          (λ a i. ⊎_elim (λ p. absurd (Rising-apart x (subst (λ (b : A). R x b) (p ∙ sym e) (h.0 a i)))) (λ j. j) (f a (inr i)))
          (λ a i. ⊎_elim (λ p. absurd (Rising-apart y (subst (λ (b : A). R y b) (p ∙ e) (k.0 a i)))) (λ j. j) (g a (inr i))) in
          cc
