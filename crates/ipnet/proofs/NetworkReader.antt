-- `read_network` reads a network, whatever the address is.
use Rattle.std.proofs.Common.{◌≡◌, ℕ, List, [], ◌∷◌, ◌++◌, Option, Some, None, MatchOption, refl, sym, ap, ◌∙◌, append_assoc, append-nil, lit≤, eqb-true}
use Rattle.std.proofs.lemmas.Option.{none-some}
use Rattle.std.specs.Int.Digits.{number_from_digits}
use Rattle.std.specs.Net.Reader.{Read, read_byte}
use Rattle.std.proofs.NetLemmas.Options.{cond_some, and_then_some, same_parts}
use Rattle.std.proofs.NetLemmas.Ipv4.{read_byte_sound}
use Rattle.std.proofs.lemmas.List.{nil_from_length}
use Rattle.ipnet_addr.specs.AddressText.{IsShort}
use Rattle.ipnet.specs.NetworkText.{SpellsParts, Spells}
use Rattle.ipnet_addr.specs.AddressReader.{read_short}
use Rattle.ipnet_blocks.specs.Networks.{Network}
use Rattle.ipnet.specs.NetworkReader.{read_network, network_of}
use Rattle.ipnet_addr.proofs.Ipv4Text.{read_short_complete, read_short_sound}

-- `read` reads addresses at the front of a text that is followed by a slash
module _ (Address : List ℕ → List ℕ → Type 0) (digits max : ℕ) (read : List ℕ → Read (List ℕ))
    (sound : (text parts rest : List ℕ) → read text ≡ Some (parts, rest) → (front : List ℕ) × (text ≡ front ++ rest) × Address front parts)
    (complete : (text parts rest : List ℕ) → Address text parts → read (text ++ 47 ∷ rest) ≡ Some (parts, 47 ∷ rest)) where
  pub read_network_complete : (text parts : List ℕ) (len : ℕ) → SpellsParts Address (IsShort 10 digits max) text parts len → read_network (read text) digits max ≡ Some (parts, len)
  unfolding read_network
  read_network_complete text parts len h =
      let short : read_short 10 digits max h.length_text ≡ Some (len, []) = rw append-nil at (read_short_complete 10 digits max h.length_text [] len h.prefix (lit≤ tt)) in
      rw (h.spelled, append_assoc h.address_text (47 ∷ []) h.length_text, complete h.address_text parts h.length_text h.address, short)

  pub read_network_sound : (text parts : List ℕ) (len : ℕ) → read_network (read text) digits max ≡ Some (parts, len) → SpellsParts Address (IsShort 10 digits max) text parts len
  unfolding read_network
  read_network_sound text parts len e =
      and_then_some _ (read text) _ e λ a read_a e₁.
      and_then_some _ (read_byte 47 a.1) _ e₁ λ after slash e₂.
      and_then_some _ (read_short 10 digits max after) _ e₂ λ n read_n e₃.
      let (test, some) = cond_some _ _ _ e₃ in
      let (parts_is, len_is) = same_parts _ parts _ len (ap Some some) in
      let (front, split, address) = sound text a.0 a.1 read_a in
      let (digits_text, split_n, short, _) = read_short_sound 10 digits max after n.1 n.0 (lit≤ tt) read_n in
      let nothing = nil_from_length n.1 (eqb-true _ _ test) in
      record {
        address_text = front;
        length_text = digits_text;
        spelled = split ∙ ap (λ t. front ++ t) (read_byte_sound 47 a.1 after slash ∙ ap (λ t. 47 ∷ t) (split_n ∙ ap (λ t. digits_text ++ t) nothing ∙ append-nil digits_text)) ∙ sym (append_assoc front (47 ∷ []) digits_text);
        address = rw (← parts_is) address;
        prefix = rw (← len_is) short;
      }

  module _ (base : ℕ) where
    pub spells_complete : (text : List ℕ) (n : Network) → Spells Address base digits max text n → network_of base (read_network (read text) digits max) ≡ Some n
    spells_complete text n h = rw (read_network_complete text h.parts n.len h.spelled) (λ i. Some (record { number = sym h.number i; len = n.len }))

    pub spells_sound : (text : List ℕ) (n : Network) → network_of base (read_network (read text) digits max) ≡ Some n → Spells Address base digits max text n
    spells_sound text n e = and_then_some _ (read_network (read text) digits max) _ e λ p is_read same.
        let number : n.number ≡ number_from_digits base p.0 = cc in
        let len : p.1 ≡ n.len = cc in
        record { parts = p.0; spelled = rw (← len) (read_network_sound text p.0 p.1 is_read); number = number }

    -- a text spells one network at most
    pub spells_unique : (text : List ℕ) (m n : Network) → Spells Address base digits max text m → Spells Address base digits max text n → m ≡ n
    spells_unique text m n h k = let e : Some m ≡ Some n = sym (spells_complete text m h) ∙ spells_complete text n k in cc

    -- what a text spells, by the function that computes it
    pub spells_found : (text : List ℕ) → MatchOption (network_of base (read_network (read text) digits max)) ((n : Network) → Spells Address base digits max text n → ⊥) (Spells Address base digits max text)
    spells_found text = go (network_of base (read_network (read text) digits max)) refl
      where
        go : (r : Option Network) → network_of base (read_network (read text) digits max) ≡ r → MatchOption r ((n : Network) → Spells Address base digits max text n → ⊥) (Spells Address base digits max text)
        go None e = λ n h. none-some _ (sym e ∙ spells_complete text n h)
        go (Some n) e = spells_sound text n e

    -- the network with the parts that are read
    pub spells_read : (text parts : List ℕ) (number len : ℕ) → number ≡ number_from_digits base parts → read_network (read text) digits max ≡ Some (parts, len) → Spells Address base digits max text (record { number = number; len = len })
    spells_read text parts number len is e = record { parts = parts; spelled = read_network_sound text parts len e; number = is }

    pub spells_not_read : (text : List ℕ) → read_network (read text) digits max ≡ None → (n : Network) → Spells Address base digits max text n → ⊥
    spells_not_read text e n h = none-some _ (sym e ∙ read_network_complete text h.parts n.len h.spelled)
