-- An iterator whose state shows the list of what is left makes progress.
use Rattle.std.proofs.Common.{arith, ap, List, [], ◌∷◌, length, length-append, Option, Some, None}
use Rattle.std.specs.Bool.{⊤}
use Rattle.std.specs.Iterator.{YieldsFirstBy, YieldsLastBy, item_count, MakesProgress}

module _ {S A B : Type 0} (view : A → B) (rest : S → List B) where
  pub progress_first : (s : S) (r : Option A) (t : S) → YieldsFirstBy view rest s r t → MakesProgress {S = S} {A = A} (λ _. ⊤) (item_count rest) s r t
  progress_first s None t h = record { on = λ _. tt; keeps = tt; rests = λ _. tt }
  progress_first s (Some x) t h = let q = ap length h in record { on = λ _. (tt, tt, omega arith); keeps = tt; rests = λ _. tt }

  pub progress_last : (s : S) (r : Option A) (t : S) → YieldsLastBy view rest s r t → MakesProgress {S = S} {A = A} (λ _. ⊤) (item_count rest) s r t
  progress_last s None t h = record { on = λ _. tt; keeps = tt; rests = λ _. tt }
  progress_last s (Some x) t h = let q = ap length h in record { on = λ _. (tt, tt, omega (arith, length-append (rest t) (view x ∷ []))); keeps = tt; rests = λ _. tt }
