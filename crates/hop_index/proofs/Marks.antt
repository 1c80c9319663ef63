-- Stored ranges, with what is stored for a few of them, as ranges of hops.
use Rattle.std.proofs.Common.{◌≡◌, ◌==◌, ℕ, zero, suc, ◌<◌, cond, List, [], ◌∷◌, ◌++◌, Option, Some, None, unwrap_or, length, get_or, refl, sym, ap, ◌∙◌, arith}
use Rattle.std.proofs.Math.Bool.{and-not_self}
use Rattle.std.specs.Option.{option_eq}
use Rattle.hop_index.specs.InnerRanges.{hop_of_mark, map_at}

module _ {A B : Type 0} where
  pub length_map_at : (f : ℕ → A → B) (xs : List A) → length (map_at f xs) ≡ length xs
  length_map_at f [] = refl
  length_map_at f (x ∷ xs) = ap suc (length_map_at (λ k. f (suc k)) xs)

  at_index : (f : ℕ → A → B) (xs : List A) (k : ℕ) (d : B) (x : A) → k < length xs → get_or (map_at f xs) k d ≡ f k (get_or xs k x)
  at_index f [] k d x l = absurd (omega arith)
  at_index f (y ∷ xs) zero d x l = refl
  at_index f (y ∷ xs) (suc k) d x l = at_index (λ j. f (suc j)) xs k d x (omega arith)

  -- a value that was read, in the list v of a model
  pub read : (f : ℕ → A → B) (xs : List A) (v : List B) → map_at f xs ≡ v → (k : ℕ) (d : B) (x : A) → k < length v → x ≡ get_or xs k x → get_or v k d ≡ f k x
  read f xs v is k d x l at = ap (λ (ys : List B). get_or ys k d) (sym is) ∙ at_index f xs k d x (omega (arith, length_map_at f xs, ap (λ (ys : List B). length ys) is)) ∙ ap (f k) (sym at)

  -- one more value
  pub push_at : (f g : ℕ → A → B) (xs : List A) (x : A) → ((k : ℕ) (y : A) → k < length xs → g k y ≡ f k y) → map_at g (xs ++ x ∷ []) ≡ map_at f xs ++ g (length xs) x ∷ []
  push_at f g [] x same = refl
  push_at f g (y ∷ xs) x same = λ i. same 0 y (omega arith) i ∷ push_at (λ k. f (suc k)) (λ k. g (suc k)) xs x (λ k z l. same (suc k) z (omega arith)) i

-- a hop as it is stored, with its mark
pub stored_hop : (o : Option ℕ) → hop_of_mark (unwrap_or o 4294967295) (option_eq (λ (a b : ℕ). a == b) o (Some 4294967295)) ≡ o
stored_hop None = refl
stored_hop (Some k) = ap (λ b. cond b None (Some k)) (and-not_self (k == 4294967295))
