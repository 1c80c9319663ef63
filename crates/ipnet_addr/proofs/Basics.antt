-- Small facts of truths, numbers, options and lists, for all crates; what std has is not here.
use Rattle.std.proofs.Common.{◌≡◌, ℕ, suc, ◌*◌, ◌/◌, ◌%◌, ◌+◌, ◌^◌, ◌≤◌, ◌⊎◌, inl, inr, ⊎_elim, Bool, true, false, cond, ◌&&◌, List, [], ◌∷◌, length, filter, Option, None, refl, ap, ◌∙◌, sym, arith}
use Rattle.std.specs.Prelude.{T, count_ones}
use Rattle.std.specs.List.{list_any}
use Rattle.std.specs.Option.{IsSome}
use Rattle.std.specs.Ordering.{is_lt}
use Rattle.std.specs.declared.cmp.Ordering.{Ordering}
use Rattle.std.specs.declared.cmp.Ordering.TheVariants.{Less, Equal, Greater}
use Rattle.std.proofs.lemmas.Nat.{ones_le_self}
use Rattle.std.proofs.lemmas.Bool.{or_cases, or_left, or_right}
use Rattle.ipnet_addr.proofs.Members.{In}

-- ---- truths

pub T-true : (b : Bool) → T b → b ≡ true
T-true true h = refl
T-true false h = absurd h

pub T-parts : (a b : Bool) → T (a && b) → T a × T b
T-parts true b h = (tt, h)
T-parts false b h = absurd h

pub T-and : (a b : Bool) → T a → T b → T (a && b)
T-and true b p q = q
T-and false b p q = p

pub less_from_T : (o : Ordering) → T (is_lt o) → o ≡ Less
less_from_T Less h = refl
less_from_T Equal h = absurd h
less_from_T Greater h = absurd h

-- ---- numbers

-- a number is twice its half, or one more
pub even_or_odd : (x q : ℕ) → x / 2 ≡ q → (x ≡ 2 * q) ⊎ (x ≡ 2 * q + 1)
even_or_odd x q h = grind arith

pub no_ones : (bits : ℕ) → count_ones (bits % 2 ^ 0) ≡ 0
no_ones bits = omega (arith, ones_le_self (bits % 2 ^ 0))

-- ---- options

pub none_some : {A : Type 0} {o : Option A} → o ≡ None → IsSome o → ⊥
none_some e h = cc

-- ---- lists

module _ {A : Type 0} (p : A → Bool) where
  pub filtered_length : (xs : List A) → length (filter p xs) ≤ length xs
  filtered_length [] = omega arith
  filtered_length (x ∷ xs) = go (p x) (filtered_length xs)
    where
      go : (b : Bool) → length (filter p xs) ≤ length xs → length (cond b (x ∷ filter p xs) (filter p xs)) ≤ suc (length xs)
      go true h = omega (arith, h)
      go false h = omega (arith, h)

  -- an element that passes, where some does
  pub In-from_list_any : (xs : List A) → list_any p xs ≡ true → (x : A) × In x xs × (p x ≡ true)
  In-from_list_any [] e = absurd (cc)
  In-from_list_any (x ∷ xs) e = ⊎_elim (λ q. (x, inl refl, q)) (λ f. let t = In-from_list_any xs f in (t.0, inr t.1, t.2)) (or_cases (p x) (list_any p xs) e)

  pub list_any-from_In : (xs : List A) (x : A) → In x xs → p x ≡ true → list_any p xs ≡ true
  list_any-from_In [] x i e = absurd i
  list_any-from_In (y ∷ xs) x i e = ⊎_elim (λ q. or_left (p y) (list_any p xs) (sym (ap p q) ∙ e)) (λ j. or_right (p y) (list_any p xs) (list_any-from_In xs x j e)) i
