-- Properties of each grammar of lines, and of each printed line.
use Rattle.std.specs.Prelude.{◌≡◌, ◌≢◌, ◌↔◌, ℕ, ◌≤◌, Bool, IsTrue, List, ◌++◌, length, codes, All, Option, MatchOption}

-- a text spells at most one value; each text that spells one is at most as long as the limit, and has no line end
pub record IsGrammar {A : Type 0} (Spells : List ℕ → A → Type 0) (limit : ℕ) : Type 0 where
  pub one : (text : List ℕ) (a b : A) → Spells text a → Spells text b → a ≡ b
  pub short : (text : List ℕ) (a : A) → Spells text a → length text ≤ limit
  pub clean : (text : List ℕ) (a : A) → Spells text a → All (λ c. c ≢ 10) text

-- the function finds the value that a text spells, or none if it spells none
abbrev pub Finds : {A : Type 0} → (List ℕ → A → Type 0) → (List ℕ → Option A) → Type 0
Finds {A} Spells find = (text : List ℕ) → MatchOption (find text) ((a : A) → Spells text a → ⊥) (Spells text)

-- the text of a value and a line end, in at most `limit` bytes; the text reads as the value, and has no line end
pub record IsPrinted {A : Type 0} (Spells : List ℕ → A → Type 0) (text_of : A → List ℕ) (limit : ℕ) (x : A) (line : List ℕ) : Type 0 where
  pub text : line ≡ text_of x ++ codes "\n"
  pub reads : Spells (text_of x) x
  pub one_line : All (λ c. c ≢ 10) (text_of x)
  pub len : length line ≤ limit

-- the printed text of each value that can be read reads as this value, and as no other
pub record IsTextOf {A : Type 0} (Spells : List ℕ → A → Type 0) (text_of : A → List ℕ) : Type 0 where
  pub reads : (text : List ℕ) (a : A) → Spells text a → Spells (text_of a) a
  pub apart : (s t : List ℕ) (a b : A) → Spells s a → Spells t b → text_of a ≡ text_of b → a ≡ b

-- `==` holds exactly for equal values; a clone equals the original, and cloning never fails
pub record IsPlain {A : Type 0} (eq : A → A → Bool) (is_clone : A → A → Type 0) (is_infallible : A → Type 0) : Type 0 where
  pub equal : (a b : A) → IsTrue (eq a b) ↔ (a ≡ b)
  pub same : (a b : A) → is_clone a b → b ≡ a
  pub made : (a : A) → is_infallible a
