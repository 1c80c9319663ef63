-- Lines of several forms, each told by the first three bytes of its texts: what each form has, all of them have.
use Rattle.std.proofs.Common.{◌≡◌, ◌≢◌, ℕ, zero, suc, ◌+◌, ◌*◌, ◌≤◌, Bool, true, ◌&&◌, not, nat_eq, List, [], ◌∷◌, ◌++◌, length, get_or, sym, ap, ◌∙◌, arith}
use Rattle.std.specs.Prelude.{⊤, ltb}
use Rattle.std.specs.List.{list_all}
use Rattle.std.proofs.lemmas.Bool.{and_parts}
use Rattle.std.proofs.lemmas.Bool.Decides.{nat_tests}
use Rattle.route_lines.specs.Phrase.{After}
use Rattle.route_lines.specs.Grammar.{IsGrammar}
use Rattle.route_lines.proofs.Good as Good

-- the first three bytes
abbrev pub start : List ℕ → ℕ
start text = get_or text 0 0 * 65536 + get_or text 1 0 * 256 + get_or text 2 0

-- lines that are made of a value each, and whose texts begin alike
pub record Form (Line : Type 0) (limit : ℕ) : Type 1 where
  pub Value : Type 0
  pub make : Value → Line
  pub Spells : List ℕ → Value → Type 0
  pub code : ℕ
  pub starts : (text : List ℕ) (x : Value) → Spells text x → start text ≡ code
  pub good : IsGrammar Spells limit

-- the first word, and a phrase
abbrev pub phrase : {Line A : Type 0} {P : List ℕ → A → Type 0} {n limit : ℕ} (first : List ℕ) → ((rest : List ℕ) → start (first ++ rest) ≡ start first) → list_all (ltb 10) first ≡ true → length first + n ≤ limit
    → IsGrammar P n → (A → Line) → Form Line limit
phrase {Line} {A} {P} {n} {limit} first begins clean within good make = record {
  Value = A;
  make = make;
  Spells = After first P;
  code = start first;
  starts = λ text x h. ap start h.spelled ∙ begins h.rest;
  good = Good.after first limit clean within good;
}

-- a word alone
abbrev pub word : {Line : Type 0} {limit : ℕ} (text : List ℕ) → list_all (ltb 10) text ≡ true → length text ≤ limit → Line → Form Line limit
word {Line} {limit} whole clean within line = record {
  Value = ⊤;
  make = λ x. line;
  Spells = λ text x. text ≡ whole;
  code = start whole;
  starts = λ text x h. ap start h;
  good = Good.word whole limit clean within;
}

module _ {Line : Type 0} {limit : ℕ} where
  -- the form at a place; past the end none has a value
  abbrev pub form : List (Form Line limit) → ℕ → Form Line limit
  form [] n = record {
    Value = ⊥;
    make = λ x. absurd x;
    Spells = λ text x. ⊤;
    code = 0;
    starts = λ text x h. absurd x;
    good = record { one = λ text x y h k. absurd x; short = λ text x h. absurd x; clean = λ text x h. absurd x };
  }
  form (f ∷ fs) zero = f
  form (f ∷ fs) (suc n) = form fs n

  -- no form has this code
  abbrev pub lacks : ℕ → List (Form Line limit) → Bool
  lacks c [] = true
  lacks c (f ∷ fs) = not (nat_eq f.code c) && lacks c fs

  -- no two forms have one code
  abbrev pub apart : List (Form Line limit) → Bool
  apart [] = true
  apart (f ∷ fs) = lacks f.code fs && apart fs

  -- a line as the place of its form and its value
  pub record Made (fs : List (Form Line limit)) (text : List ℕ) (line : Line) : Type 0 where
    pub at : ℕ
    pub value : (form fs at).Value
    pub is : (form fs at).make value ≡ line
    pub spells : (form fs at).Spells text value

  pub differs : (fs : List (Form Line limit)) (c n : ℕ) → lacks c fs ≡ true → (form fs n).Value → (form fs n).code ≢ c
  differs [] c n e x = absurd x
  differs (f ∷ fs) c zero e x = λ same. (let other = (and_parts (not (nat_eq f.code c)) (lacks c fs) e).0 in grind (arith, nat_tests))
  differs (f ∷ fs) c (suc n) e x = differs fs c n (and_parts (not (nat_eq f.code c)) (lacks c fs) e).1 x

  same_line : (fs : List (Form Line limit)) → apart fs ≡ true → (text : List ℕ) (m n : ℕ) (x : (form fs m).Value) (y : (form fs n).Value) → (form fs m).Spells text x → (form fs n).Spells text y
      → (form fs m).make x ≡ (form fs n).make y
  same_line [] e text m n x y h k = absurd x
  same_line (f ∷ fs) e text zero zero x y h k = ap f.make (f.good.one text x y h k)
  same_line (f ∷ fs) e text zero (suc n) x y h k = absurd (differs fs f.code n (and_parts (lacks f.code fs) (apart fs) e).0 y (sym ((form fs n).starts text y k) ∙ f.starts text x h))
  same_line (f ∷ fs) e text (suc m) zero x y h k = absurd (differs fs f.code m (and_parts (lacks f.code fs) (apart fs) e).0 x (sym ((form fs m).starts text x h) ∙ f.starts text y k))
  same_line (f ∷ fs) e text (suc m) (suc n) x y h k = same_line fs (and_parts (lacks f.code fs) (apart fs) e).1 text m n x y h k

  pub lines : (fs : List (Form Line limit)) (IsLine : List ℕ → Line → Type 0) → apart fs ≡ true → ((text : List ℕ) (line : Line) → IsLine text line → Made fs text line) → IsGrammar IsLine limit
  lines fs IsLine e made = record {
    one = λ text a b h k. (let p = made text a h in let q = made text b k in sym p.is ∙ same_line fs e text p.at q.at p.value q.value p.spells q.spells ∙ q.is);
    short = λ text a h. (let p = made text a h in (form fs p.at).good.short text p.value p.spells);
    clean = λ text a h. (let p = made text a h in (form fs p.at).good.clean text p.value p.spells);
  }

  -- no line begins with three bytes that no form has
  pub begins_otherwise : (fs : List (Form Line limit)) (c : ℕ) → lacks c fs ≡ true → (text : List ℕ) (line : Line) → Made fs text line → start text ≢ c
  begins_otherwise fs c e text line p same = differs fs c p.at e p.value (sym ((form fs p.at).starts text p.value p.spells) ∙ same)
