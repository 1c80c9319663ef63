-- The texts that spell an address, with the address: relations on whole texts, by cases.
use Rattle.std.specs.Prelude.{◌≡◌, ℕ, ◌+◌, ◌-◌, ◌≤◌, ◌⊎◌, Bool, true, false, List, [], ◌∷◌, ◌++◌, length, replicate, codes, IsTrue}
use Rattle.std.specs.Net.Addr.{segments_of}
use Rattle.std.specs.Net.Grammar.{IsNumber}

-- one to `digits` digits of this radix, leading zeros allowed, whose value n is at most `max`
pub record IsShort (radix digits max : ℕ) (text : List ℕ) (n : ℕ) : Type 0 where
  pub number : IsNumber radix text n
  pub short : length text ≤ digits
  pub fits : n ≤ max

-- one to three decimal digits of value at most 255
abbrev pub IsOctet : List ℕ → ℕ → Type 0
IsOctet = IsShort 10 3 255

-- an IPv4 address: four octets with dots between them
pub record IsIpv4 (text octets : List ℕ) : Type 0 where
  pub a_text : List ℕ
  pub b_text : List ℕ
  pub c_text : List ℕ
  pub d_text : List ℕ
  pub a : ℕ
  pub b : ℕ
  pub c : ℕ
  pub d : ℕ
  pub spelled : text ≡ a_text ++ codes "." ++ b_text ++ codes "." ++ c_text ++ codes "." ++ d_text
  pub is_a : IsOctet a_text a
  pub is_b : IsOctet b_text b
  pub is_c : IsOctet c_text c
  pub is_d : IsOctet d_text d
  pub value : octets ≡ a ∷ b ∷ c ∷ d ∷ []

-- one to four hex digits of either case: a unit of 16 bits
abbrev pub IsGroup : List ℕ → ℕ → Type 0
IsGroup = IsShort 16 4 0xffff

-- Units, the first after `lead` and each other after a colon. Under `dotted` the last two units may be
-- written as an IPv4 address.
abbrev pub IsUnitsAfter : Bool → List ℕ → List ℕ → List ℕ → Type 0
IsUnitsAfter dotted lead text [] = text ≡ []
IsUnitsAfter dotted lead text (u ∷ units) =
    ((group rest : List ℕ) × (text ≡ lead ++ group ++ rest) × IsGroup group u
    × IsUnitsAfter dotted (codes ":") rest units)
    ⊎ ((last octets : List ℕ) × IsTrue dotted × (text ≡ lead ++ last) × IsIpv4 last octets
    × (u ∷ units ≡ segments_of octets))

-- units with colons between them, or nothing
abbrev pub IsUnits : Bool → List ℕ → List ℕ → Type 0
IsUnits dotted text units = IsUnitsAfter dotted [] text units

-- A head of at most seven groups, `::` and a tail, together at most eight units; the missing units are zero.
pub record IsElided (text units : List ℕ) : Type 0 where
  pub head_text : List ℕ
  pub tail_text : List ℕ
  pub head : List ℕ
  pub tail : List ℕ
  pub spelled : text ≡ head_text ++ codes "::" ++ tail_text
  pub head_units : IsUnits false head_text head
  pub tail_units : IsUnits true tail_text tail
  pub seven : length head ≤ 7
  pub room : length head + length tail ≤ 8
  pub value : units ≡ head ++ replicate (8 - length head - length tail) 0 ++ tail

-- exactly eight units, or some with `::`
abbrev pub IsIpv6 : List ℕ → List ℕ → Type 0
IsIpv6 text units = (IsUnits true text units × (length units ≡ 8)) ⊎ IsElided text units
