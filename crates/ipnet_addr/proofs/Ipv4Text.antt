-- `read_short` and `read_ipv4` read their part of the grammar, and nothing else.
use Rattle.std.proofs.Common.{◌≡◌, ◌≢◌, ℕ, ◌^◌, ◌<◌, ◌≤◌, decimal, List, [], ◌∷◌, ◌++◌, length, get_or, take, drop, Some, None, refl, sym, ap, ◌∙◌, arith, drop_at, take-append-drop, append_assoc, codes, lit≤, le-ltb, ltb-false}
use Rattle.std.proofs.lemmas.Fmt.{decimal_is_IsNumeral, length-decimal-le}
use Rattle.std.proofs.NetLemmas.Arrays.{four_items}
use Rattle.std.specs.Char.{digit_value}
use Rattle.std.specs.Net.Text.{ipv4_text}
use Rattle.std.specs.Str.Parse.{AllDigits}
use Rattle.std.specs.Net.Reader.{read_byte, read_number}
use Rattle.std.proofs.NetLemmas.Options.{cond_none, and_then_some, same_parts}
use Rattle.std.proofs.NetLemmas.Numbers.{NoDigit, read_number_some, read_number_sound}
use Rattle.std.proofs.NetLemmas.Ipv4.{read_byte_sound}
use Rattle.ipnet_addr.specs.AddressText.{IsShort, IsIpv4}
use Rattle.ipnet_addr.specs.AddressReader.{read_short, read_octet, read_ipv4}

pub read_short_complete : (radix digits max : ℕ) (text rest : List ℕ) (n : ℕ) → IsShort radix digits max text n → NoDigit radix rest → read_short radix digits max (text ++ rest) ≡ Some (n, rest)
unfolding read_short
read_short_complete radix digits max text rest n h stop =
    let read = read_number_some radix max text rest h.number.0 (omega (arith, h.number.1, h.fits)) stop in
    rw (read, le-ltb digits (length text) h.short, drop_at text rest _ refl, h.number.1)

pub read_short_sound : (radix digits max : ℕ) (text rest : List ℕ) (n : ℕ) → radix ≤ 36 → read_short radix digits max text ≡ Some (n, rest) → (front : List ℕ) × (text ≡ front ++ rest) × IsShort radix digits max front n × NoDigit radix rest
unfolding read_short
read_short_sound radix digits max text rest n small e =
    and_then_some _ (read_number radix max text) _ e λ r read kept.
    let (test, some) = cond_none _ _ _ kept in
    let (value_is, rest_is) = same_parts r.0 n (drop r.1 text) rest some in
    let (number, fits, len, stop) = read_number_sound radix max text r.0 r.1 small read in (
      take r.1 text,
      rw (← rest_is) (sym (take-append-drop r.1 text)),
      record { number = rw (← value_is) number; short = omega (arith, ltb-false digits r.1 test); fits = omega arith },
      rw (← rest_is) stop,
    )

read_octet_dot : (text rest : List ℕ) (a : ℕ) → IsShort 10 3 255 text a → read_octet (text ++ 46 ∷ rest) ≡ Some (a, 46 ∷ rest)
read_octet_dot text rest a h = read_short_complete 10 3 255 text (46 ∷ rest) a h (lit≤ tt)

-- `++` groups to the left
dotted : (a b c d rest : List ℕ) → (a ++ codes "." ++ b ++ codes "." ++ c ++ codes "." ++ d) ++ rest ≡ a ++ 46 ∷ (b ++ 46 ∷ (c ++ 46 ∷ (d ++ rest)))
dotted a b c d rest = simp append_assoc

pub read_ipv4_complete : (text octets rest : List ℕ) → IsIpv4 text octets → NoDigit 10 rest → read_ipv4 (text ++ rest) ≡ Some (octets, rest)
unfolding read_ipv4
read_ipv4_complete text octets rest h stop =
    rw (
      h.spelled,
      h.value,
      dotted h.a_text h.b_text h.c_text h.d_text rest,
      read_octet_dot h.a_text _ h.a h.is_a,
      read_octet_dot h.b_text _ h.b h.is_b,
      read_octet_dot h.c_text _ h.c h.is_c,
      read_short_complete 10 3 255 h.d_text rest h.d h.is_d stop,
    )

pub read_ipv4_sound : (text octets rest : List ℕ) → read_ipv4 text ≡ Some (octets, rest) → (front : List ℕ) × (text ≡ front ++ rest) × IsIpv4 front octets
unfolding read_ipv4
read_ipv4_sound text octets rest e =
    and_then_some _ (read_octet text) _ e λ a read_a e₁.
    and_then_some _ (read_byte 46 a.1) _ e₁ λ after_a dot_a e₂.
    and_then_some _ (read_octet after_a) _ e₂ λ b read_b e₃.
    and_then_some _ (read_byte 46 b.1) _ e₃ λ after_b dot_b e₄.
    and_then_some _ (read_octet after_b) _ e₄ λ c read_c e₅.
    and_then_some _ (read_byte 46 c.1) _ e₅ λ after_c dot_c e₆.
    and_then_some _ (read_octet after_c) _ e₆ λ d read_d e₇.
    let (value_is, rest_is) = same_parts (a.0 ∷ b.0 ∷ c.0 ∷ d.0 ∷ []) octets d.1 rest e₇ in
    let (ta, split_a, is_a, _) = read_short_sound 10 3 255 text a.1 a.0 (lit≤ tt) read_a in
    let (tb, split_b, is_b, _) = read_short_sound 10 3 255 after_a b.1 b.0 (lit≤ tt) read_b in
    let (tc, split_c, is_c, _) = read_short_sound 10 3 255 after_b c.1 c.0 (lit≤ tt) read_c in
    let (td, split_d, is_d, _) = read_short_sound 10 3 255 after_c d.1 d.0 (lit≤ tt) read_d in
    let split : text ≡ (ta ++ codes "." ++ tb ++ codes "." ++ tc ++ codes "." ++ td) ++ rest =
    split_a ∙ rw (
      dotted ta tb tc td rest,
      ← rest_is,
      ← split_d,
      ← read_byte_sound 46 c.1 after_c dot_c,
      ← split_c,
      ← read_byte_sound 46 b.1 after_b dot_b,
      ← split_b,
      ← read_byte_sound 46 a.1 after_a dot_a,
    ) in (
      ta ++ codes "." ++ tb ++ codes "." ++ tc ++ codes "." ++ td,
      split,
      record {
        a_text = ta;
        b_text = tb;
        c_text = tc;
        d_text = td;
        a = a.0;
        b = b.0;
        c = c.0;
        d = d.0;
        spelled = refl;
        is_a = is_a;
        is_b = is_b;
        is_c = is_c;
        is_d = is_d;
        value = sym value_is;
      },
    )

-- a dot that follows decimal digits lies neither among hex digits nor right after them
no_dot : (ds rest es more : List ℕ) → AllDigits 16 ds → NoDigit 16 rest → get_or rest 0 0 ≢ 46 → AllDigits 10 es → ds ++ rest ≢ es ++ 46 ∷ more
no_dot [] rest [] more all stop other digits e = other (ap (λ t. get_or t 0 0) e)
no_dot [] rest (c ∷ es) more all stop other digits e =
    let first : 16 ≤ digit_value c = rw e at stop in
    let v = digit_value c in
    omega (arith, digits.0)
no_dot (d ∷ ds) rest [] more all stop other digits e =
    let dot : d ≡ 46 = ap (λ t. get_or t 0 0) e in
    let big : digit_value 46 < 16 = rw dot at all.0 in
    omega arith
no_dot (d ∷ ds) rest (c ∷ es) more all stop other digits e =
    no_dot ds rest es more all.1 stop other digits.1 (ap (λ t. drop 1 t) e)

-- a text that doesn't begin with an octet and a dot begins with no IPv4 address
read_ipv4_unled : (text : List ℕ) → ((a more : List ℕ) (n : ℕ) → text ≡ a ++ 46 ∷ more → IsShort 10 3 255 a n → ⊥) → read_ipv4 text ≡ None
read_ipv4_unled text led = go (read_ipv4 text) refl
  where
    go : (r : _) → read_ipv4 text ≡ r → read_ipv4 text ≡ None
    go None e = e
    go (Some p) e =
        let (front, split, h) = read_ipv4_sound _ p.0 p.1 e in
        let shown = split ∙ ap (λ t. t ++ p.1) h.spelled ∙ dotted h.a_text h.b_text h.c_text h.d_text p.1 in
        absurd (led h.a_text _ h.a shown h.is_a)

-- hex digits that no dot follows are no IPv4 address
pub read_ipv4_none : (ds rest : List ℕ) → AllDigits 16 ds → NoDigit 16 rest → get_or rest 0 0 ≢ 46 → read_ipv4 (ds ++ rest) ≡ None
read_ipv4_none ds rest all stop other =
    read_ipv4_unled (ds ++ rest) λ a more n shown is_a. no_dot ds rest a more all stop other is_a.number.0.1 shown

-- a dot behind one to three bytes is at one of these places
dot_at : (text a more : List ℕ) → text ≡ a ++ 46 ∷ more → 0 < length a → length a ≤ 3 → get_or text 1 0 ≢ 46 → get_or text 2 0 ≢ 46 → get_or text 3 0 ≢ 46 → ⊥
dot_at text [] more e some few one two three = absurd (omega arith)
dot_at text (x ∷ []) more e some few one two three = one (ap (λ t. get_or t 1 0) e)
dot_at text (x ∷ y ∷ []) more e some few one two three = two (ap (λ t. get_or t 2 0) e)
dot_at text (x ∷ y ∷ z ∷ []) more e some few one two three = three (ap (λ t. get_or t 3 0) e)
dot_at text (x ∷ y ∷ z ∷ w ∷ a) more e some few one two three = absurd (omega arith)

-- nor are bytes with no dot at one of them
pub read_ipv4_undotted : (text : List ℕ) → get_or text 1 0 ≢ 46 → get_or text 2 0 ≢ 46 → get_or text 3 0 ≢ 46 → read_ipv4 text ≡ None
read_ipv4_undotted text one two three =
    read_ipv4_unled text λ a more n shown is_a. dot_at text a more shown (omega (arith, is_a.number.0.0)) is_a.short one two three

-- a decimal is a short number
pub decimal_short : (digits max n : ℕ) → n ≤ max → n < 10 ^ digits → 0 < digits → n < 2 ^ 64 → IsShort 10 digits max (decimal n) n
decimal_short digits max n fits few some small = record {
  number = decimal_is_IsNumeral n small;
  short = length-decimal-le digits n some few small;
  fits = fits;
}

-- what is printed reads as what was printed
pub IsIpv4-ipv4_text : (o : List ℕ) → length o ≡ 4 → ((k : ℕ) → get_or o k 0 < 2 ^ 8) → IsIpv4 (ipv4_text o) o
IsIpv4-ipv4_text o four fits =
    let octet : (k : ℕ) → IsShort 10 3 255 (decimal (get_or o k 0)) (get_or o k 0) = λ k. decimal_short 3 255 _ (omega (arith, fits k)) (omega (arith, fits k)) (omega arith) (omega (arith, fits k)) in
    record {
      a_text = _;
      b_text = _;
      c_text = _;
      d_text = _;
      a = get_or o 0 0;
      b = get_or o 1 0;
      c = get_or o 2 0;
      d = get_or o 3 0;
      spelled = refl;
      is_a = octet 0;
      is_b = octet 1;
      is_c = octet 2;
      is_d = octet 3;
      value = four_items o four;
    }
