-- Filters of lists in order: what they keep, and how long they are.
use Rattle.std.proofs.Common.{◌≡◌, suc, ◌+◌, ◌≤◌, ◌⊎◌, inl, inr, ⊎_elim, Bool, true, false, cond, List, [], ◌∷◌, ◌++◌, filter, length, map, refl, sym, ap, ◌∙◌, arith}
use Rattle.ipnet_addr.proofs.Basics.{filtered_length}
use Rattle.ipnet_addr.proofs.Members.{In, In-cases}
use Rattle.ipnet_addr.proofs.Ascending.{Rising}

-- members of a filter
module _ {A : Type 0} (p : A → Bool) where
  In-filter_cons : (c : Bool) (a b : A) (xs : List A) → In b (cond c (a ∷ xs) xs) → (In b xs) ⊎ ((c ≡ true) × (b ≡ a))
  In-filter_cons true a b xs i = ⊎_elim (λ e. inr (refl, e)) (λ j. inl j) i
  In-filter_cons false a b xs i = inl i

  cons_in-filter : (c : Bool) (a b : A) (xs : List A) → In b xs → In b (cond c (a ∷ xs) xs)
  cons_in-filter true a b xs i = inr i
  cons_in-filter false a b xs i = i

  head_in-filter : (c : Bool) (a b : A) (xs : List A) → c ≡ true → b ≡ a → In b (cond c (a ∷ xs) xs)
  head_in-filter true a b xs e q = inl q
  head_in-filter false a b xs e q = absurd (cc)

  pub In-from_filter : (xs : List A) (b : A) → In b (filter p xs) → In b xs × (p b ≡ true)
  In-from_filter [] b i = absurd i
  In-from_filter (a ∷ xs) b i =
      ⊎_elim (λ j. let t = In-from_filter xs b j in (inr t.0, t.1)) (λ t. (inl t.1, ap p t.1 ∙ t.0)) (In-filter_cons (p a) a b (filter p xs) i)

  pub In-filter : (xs : List A) (b : A) → In b xs → p b ≡ true → In b (filter p xs)
  In-filter [] b i e = absurd i
  In-filter (a ∷ xs) b i e =
      ⊎_elim (λ q. head_in-filter (p a) a b (filter p xs) (sym (ap p q) ∙ e) q) (λ j. cons_in-filter (p a) a b (filter p xs) (In-filter xs b j e)) i

module _ {A : Type 0} (R : A → A → Type 0) where
  kept_or_not : (b : Bool) (x : A) (xs : List A) → ((y : A) → In y xs → R x y) → Rising R xs → Rising R (cond b (x ∷ xs) xs)
  kept_or_not true x xs f h = (f, h)
  kept_or_not false x xs f h = h

  pub Rising-kept : (p : A → Bool) (xs : List A) → Rising R xs → Rising R (filter p xs)
  Rising-kept p [] h = tt
  Rising-kept p (x ∷ xs) h = kept_or_not (p x) x (filter p xs) (λ y i. h.0 y (In-from_filter p xs y i).0) (Rising-kept p xs h.1)

  pub Rising-joined : (xs ys : List A) → Rising R xs → Rising R ys → ((x y : A) → In x xs → In y ys → R x y) → Rising R (xs ++ ys)
  Rising-joined [] ys h k f = k
  Rising-joined (x ∷ xs) ys h k f =
      ((λ y i. ⊎_elim (λ j. h.0 y j) (λ j. f x y (inl refl) j) (In-cases y xs ys i)), Rising-joined xs ys h.1 k (λ a b i j. f a b (inr i) j))

pub length-mid : {A : Type 0} (x : A) (xs ys : List A) → length (xs ++ x ∷ ys) ≡ suc (length xs + length ys)
length-mid x [] ys = let e : suc (length ys) ≡ suc (0 + length ys) = omega arith in e
length-mid x (y ∷ xs) ys = let e = length-mid x xs ys in let f : suc (length (xs ++ x ∷ ys)) ≡ suc (suc (length xs) + length ys) = omega arith in f

module _ {A : Type 0} (p : A → Bool) where
  no_longer : (b : Bool) (x : A) (xs : List A) → length (cond b (x ∷ xs) xs) ≤ suc (length xs)
  no_longer true x xs = omega arith
  no_longer false x xs = omega arith

  pub length-some_gone : (xs : List A) (a : A) → In a xs → p a ≡ false → suc (length (filter p xs)) ≤ length xs
  length-some_gone [] a i e = absurd i
  length-some_gone (x ∷ xs) a (inl q) e =
      let f : length (filter p (x ∷ xs)) ≡ length (filter p xs) = ap (λ b. length (cond b (x ∷ filter p xs) (filter p xs))) (sym (ap p q) ∙ e) in
      let g = filtered_length p xs in omega arith
  length-some_gone (x ∷ xs) a (inr i) e = let f = no_longer (p x) x (filter p xs) in let g = length-some_gone xs a i e in omega arith

  pub all_kept : (xs : List A) → ((a : A) → In a xs → p a ≡ true) → filter p xs ≡ xs
  all_kept [] h = refl
  all_kept (x ∷ xs) h = ap (λ b. cond b (x ∷ filter p xs) (filter p xs)) (h x (inl refl)) ∙ ap (λ ys. x ∷ ys) (all_kept xs (λ a i. h a (inr i)))

  pub none_kept : (xs : List A) → ((a : A) → In a xs → p a ≡ false) → filter p xs ≡ []
  none_kept [] h = refl
  none_kept (x ∷ xs) h = ap (λ b. cond b (x ∷ filter p xs) (filter p xs)) (h x (inl refl)) ∙ none_kept xs (λ a i. h a (inr i))

-- tests that agree keep the same
pub same_kept : {A : Type 0} (p q : A → Bool) (xs : List A) → ((a : A) → In a xs → p a ≡ q a) → filter p xs ≡ filter q xs
same_kept p q [] h = refl
same_kept p q (x ∷ xs) h = ap (λ b. cond b (x ∷ filter p xs) (filter p xs)) (h x (inl refl)) ∙ ap (λ ys. cond (q x) (x ∷ ys) ys) (same_kept p q xs (λ a i. h a (inr i)))

-- what two tests keep that no element passes both of
pub length-apart : {A : Type 0} (p q : A → Bool) (xs : List A) → ((a : A) → p a ≡ true → q a ≡ true → ⊥) → length (filter p xs) + length (filter q xs) ≤ length xs
length-apart p q [] h = omega arith
length-apart {A} p q (x ∷ xs) h = go (length-apart p q xs h) (p x) (q x) refl refl
  where
    go : length (filter p xs) + length (filter q xs) ≤ length xs → (b c : Bool) → p x ≡ b → q x ≡ c → length (cond b (x ∷ filter p xs) (filter p xs)) + length (cond c (x ∷ filter q xs) (filter q xs)) ≤ suc (length xs)
    go g true true e f = absurd (h x e f)
    go g true false e f = omega arith
    go g false true e f = omega arith
    go g false false e f = omega arith

-- a filter of a map
cond_map : {A B : Type 0} (f : A → B) (b : Bool) (x : A) (xs : List A) → cond b (f x ∷ map f xs) (map f xs) ≡ map f (cond b (x ∷ xs) xs)
cond_map f true x xs = refl
cond_map f false x xs = refl

pub filter_map_swap : {A B : Type 0} (f : A → B) (p : B → Bool) (xs : List A) → filter p (map f xs) ≡ map f (filter (λ a. p (f a)) xs)
filter_map_swap f p [] = refl
filter_map_swap f p (x ∷ xs) = ap (λ ys. cond (p (f x)) (f x ∷ ys) ys) (filter_map_swap f p xs) ∙ cond_map f (p (f x)) x (filter (λ a. p (f a)) xs)

-- members of a map
pub In-map : {A B : Type 0} (f : A → B) (xs : List A) (y : B) → In y (map f xs) → (x : A) × In x xs × (y ≡ f x)
In-map f [] y i = absurd i
In-map f (x ∷ xs) y (inl e) = (x, inl refl, e)
In-map f (x ∷ xs) y (inr i) = let t = In-map f xs y i in (t.0, inr t.1, t.2)

pub map_In : {A B : Type 0} (f : A → B) (xs : List A) (x : A) → In x xs → In (f x) (map f xs)
map_In f [] x i = absurd i
map_In f (y ∷ xs) x (inl e) = inl (ap f e)
map_In f (y ∷ xs) x (inr i) = inr (map_In f xs x i)

pub map_same : {A B : Type 0} (f g : A → B) (xs : List A) → ((x : A) → In x xs → f x ≡ g x) → map f xs ≡ map g xs
map_same f g [] h = refl
map_same f g (x ∷ xs) h = let p = h x (inl refl) in let q = map_same f g xs (λ y i. h y (inr i)) in λ i. p i ∷ q i
