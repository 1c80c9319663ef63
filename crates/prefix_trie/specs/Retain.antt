-- The arguments and results of a closure that is called on entries or members.
use Rattle.std.specs.Prelude.{◌≡◌, List, ◌∷◌, ◌++◌, Bool, IsTrue}
use Rattle.std.specs.Borrow.{Bor}
use Rattle.std.specs.Fn.{Mut, Called, Takes}
use Rattle.std.specs.List.{FoldsTo}

module _ {F K X : Type 0} (g : Mut F (Bor K × (Bor X × Unit {0})) Bool) (fits : K → Bool) (bits : K → List Bool) (of_bits : List Bool → K) where
  -- f may be called on the key of the entry e, which fits, and its value
  abbrev pub TakesAt : F → List Bool × X → Type 0
  TakesAt f e = (key : Bor K) (value : Bor X) → bits key.now ≡ e.0 → key.now ≡ of_bits e.0 → IsTrue (fits key.now) → value.now ≡ e.1 → Takes g f (key, (value, tt))

  -- f, called there, may return b and become f'
  pub record AnswersAt (f : F) (e : List Bool × X) (b : Bool) (f' : F) : Type 0 where
    pub key : Bor K
    pub value : Bor X
    pub shows : (bits key.now ≡ e.0) × (key.now ≡ of_bits e.0) × IsTrue (fits key.now) × (value.now ≡ e.1)
    pub called : Called g f (key, (value, tt)) b f'

module _ {F K : Type 0} (g : Mut F (Bor K × Unit {0}) Bool) (fits : K → Bool) (bits : K → List Bool) (of_bits : List Bool → K) where
  -- f may be called on the member with the bits s, which fits
  abbrev pub TakesMember : F → List Bool → Type 0
  TakesMember f s = (member : Bor K) → bits member.now ≡ s → member.now ≡ of_bits s → IsTrue (fits member.now) → Takes g f (member, tt)

  -- f, called there, may return b and become f'
  pub record AnswersAtMember (f : F) (s : List Bool) (b : Bool) (f' : F) : Type 0 where
    pub member : Bor K
    pub shows : (bits member.now ≡ s) × (member.now ≡ of_bits s) × IsTrue (fits member.now)
    pub called : Called g f (member, tt) b f'

-- Q holds at each element of es in turn, for f as the calls R at the elements before have left it
pub record CallableInTurn {F E : Type 0} (R : F → E → Bool → F → Type 0) (Q : F → E → Type 0) (f : F) (es : List E) : Type 0 where
  pub at : (before after : List E) (e : E) (f' : F) → es ≡ before ++ e ∷ after → FoldsTo (λ p x q. (b : Bool) × R p x b q) f before f' → Q f' e
