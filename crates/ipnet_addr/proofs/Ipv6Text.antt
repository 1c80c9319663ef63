-- `read_units` and `read_ipv6` read their part of the grammar, and nothing else.
use Rattle.std.proofs.Common.{◌≡◌, ◌≢◌, ℕ, zero, suc, ◌-◌, ◌^◌, ◌<◌, ◌≤◌, decimal, nat_lt, Bool, true, false, List, [], ◌∷◌, ◌++◌, length, length-append, replicate, get_or, drop, Option, Some, None, refl, sym, ap, ◌∙◌, subst, arith, inl, inr, append_assoc, lit≤, lt-ltb, ne_eqb, eq-eqb, true≢false}
use Rattle.std.proofs.lemmas.Bool.{cases_eq}
use Rattle.std.proofs.lemmas.List.{length-replicate}
use Rattle.std.proofs.lemmas.Option.{none-some}
use Rattle.std.specs.Char.{digit_value}
use Rattle.std.specs.Net.Addr.{segments_of}
use Rattle.std.specs.Net.Grammar as Std
use Rattle.std.specs.Net.Text.{ipv6_text}
use Rattle.std.proofs.lemmas.Int.Digits.{digits_value-lt}
use Rattle.std.proofs.Math.Nat.{pow-le-pow_right}
use Rattle.std.proofs.NetLemmas.Texts.{IsColonHex-ipv6_text}
use Rattle.ipnet_addr.specs.AddressText.{IsShort, IsGroup, IsIpv4, IsUnitsAfter, IsUnits, IsElided, IsIpv6}
use Rattle.std.specs.Net.Reader.{read_byte, read_separator, Segments, after, map_or}
use Rattle.ipnet_addr.specs.AddressReader.{read_short, read_ipv4, read_group, read_ipv4_if, read_units, read_tail, read_ipv6}
use Rattle.std.proofs.NetLemmas.Options.{cond_none, and_then_some, same_parts}
use Rattle.std.proofs.NetLemmas.Numbers.{NoDigit, read_number_empty}
use Rattle.std.proofs.NetLemmas.Ipv4.{read_byte_sound, read_byte_other}
use Rattle.ipnet_addr.proofs.Ipv4Text.{read_short_complete, read_short_sound, read_ipv4_complete, read_ipv4_sound, read_ipv4_none, decimal_short}

-- no group begins where no digit does
read_group_none : (text : List ℕ) → NoDigit 16 text → read_group text ≡ None
unfolding read_short
read_group_none text stop = rw (read_number_empty 16 0xffff text stop)

-- what stands before a group
abbrev lead : Bool → List ℕ
lead true = []
lead false = 58 ∷ []

read_separator_lead : (first : Bool) (text : List ℕ) → read_separator first (lead first ++ text) ≡ Some text
read_separator_lead true text = refl
read_separator_lead false text = refl

read_separator_sound : (first : Bool) (text rest : List ℕ) → read_separator first text ≡ Some rest → text ≡ lead first ++ rest
read_separator_sound true text rest e = cc
read_separator_sound false text rest e = read_byte_sound 58 text rest e

-- neither a group nor an IPv4 address goes on into the text
abbrev pub EndsGroup : List ℕ → Type 0
EndsGroup text = NoDigit 16 text × (get_or text 0 0 ≢ 46)

-- and no group follows a colon
abbrev pub EndsGroups : List ℕ → Type 0
EndsGroups text = EndsGroup text × (get_or text 0 0 ≡ 58 → EndsGroup (drop 1 text))

read_ipv4_if_none : (fits : Bool) (text : List ℕ) → read_ipv4 text ≡ None → read_ipv4_if fits text ≡ None
read_ipv4_if_none true text e = e
read_ipv4_if_none false text e = refl

no_group : (room : ℕ) (first : Bool) (text group : List ℕ) → read_separator first text ≡ Some group → EndsGroup group → read_units (suc room) first text ≡ ([], false, text)
unfolding read_units
no_group room first text group led stop =
    rw (led, read_ipv4_if_none _ group (read_ipv4_none [] group tt stop.0 stop.1), read_group_none group stop.0)

no_colon : (room : ℕ) (text : List ℕ) → get_or text 0 0 ≢ 58 → read_units (suc room) false text ≡ ([], false, text)
unfolding read_units
no_colon room text other = rw (read_byte_other 58 text other)

read_units_none : (room : ℕ) (first : Bool) (text : List ℕ) → EndsGroups text → read_units room first text ≡ ([], false, text)
read_units_none zero first text stop = unfold read_units in refl
read_units_none (suc room) true text stop = no_group room true text text refl stop.0
read_units_none (suc room) false [] stop = no_colon room [] (omega arith)
read_units_none (suc room) false (c ∷ text) stop =
    elim (cases_eq c 58) [
      | inl colon ↦ no_group room false (c ∷ text) text (rw colon) (stop.1 colon)
      | inr other ↦ no_colon room (c ∷ text) other
    ]

-- more groups begin with a colon, which ends a group
ends_before : (ipv4 : Bool) (text segments rest : List ℕ) → IsUnitsAfter ipv4 (lead false) text segments → EndsGroup rest → EndsGroup (text ++ rest)
ends_before ipv4 text [] rest h stop = rw h stop
ends_before ipv4 text (s ∷ segments) rest (inl h) stop = rw h.2 (lit≤ tt, omega arith)
ends_before ipv4 text (s ∷ segments) rest (inr h) stop = rw h.3 (lit≤ tt, omega arith)

-- the reader found these segments and this rest, and an IPv4 address only where the grammar has one
abbrev Found : Segments → List ℕ → Bool → List ℕ → Type 0
Found found segments ipv4 rest = (found.0 ≡ segments) × (found.2 ≡ rest) × (ipv4 ≡ false → found.1 ≡ false)

length-segments_of : (text octets : List ℕ) → IsIpv4 text octets → length (segments_of octets) ≡ 2
length-segments_of text octets h = ap (λ o. length (segments_of o)) h.value

read_units_complete : (ipv4 : Bool) (rest : List ℕ) (stop : EndsGroups rest) (segments : List ℕ) (room : ℕ) (first : Bool) (text : List ℕ) → IsUnitsAfter ipv4 (lead first) text segments → length segments ≤ room → Found (read_units room first (text ++ rest)) segments ipv4 rest
unfolding read_units
read_units_complete ipv4 rest stop [] room first text h fits =
    rw (h, read_units_none room first rest stop) (refl, refl, λ _. refl)
read_units_complete ipv4 rest stop (s ∷ segments) zero first text h fits = absurd (omega arith)
read_units_complete ipv4 rest stop (s ∷ segments) (suc room) first text (inl h) fits =
    let (group, more, split, is_group, is_more) = h in
    let later = read_units_complete ipv4 rest stop segments room false more is_more (omega arith) in
    let ends = ends_before ipv4 more segments rest is_more stop.0 in
    let shown : text ++ rest ≡ lead first ++ (group ++ (more ++ rest)) = rw split (simp append_assoc) in
    let no_ipv4 = read_ipv4_if_none (nat_lt 0 room) _ (read_ipv4_none group (more ++ rest) is_group.number.0.1 ends.0 ends.1) in
    rw (shown, read_separator_lead first, no_ipv4, read_short_complete 16 4 0xffff group (more ++ rest) s is_group ends.0)
    (ap (λ t. s ∷ t) later.0, later.1, later.2)
read_units_complete ipv4 rest stop (s ∷ segments) (suc room) first text (inr h) fits =
    let (last, octets, allowed, split, is_dotted, value) = h in
    let two : 0 < room = omega (arith, ap length value, length-segments_of last octets is_dotted) in
    let shown : text ++ rest ≡ lead first ++ (last ++ rest) = rw split (append_assoc (lead first) last rest) in
    let v = digit_value (get_or rest 0 0) in
    let read = read_ipv4_complete last octets rest is_dotted (omega (arith, stop.0.0)) in
    rw (shown, read_separator_lead first, lt-ltb 0 room two, read)
    (sym value, refl, λ no_ipv4. absurd (true≢false (sym allowed ∙ no_ipv4)))

-- the text is groups that spell what was found, and then the rest
abbrev Spelled : ℕ → Bool → List ℕ → Segments → Type 0
Spelled room first text found =
    (front : List ℕ) × (text ≡ front ++ found.2) × IsUnitsAfter found.1 (lead first) front found.0 × (length found.0 ≤ room)

read_ipv4_if_some : (room : ℕ) (text : List ℕ) (p : List ℕ × List ℕ) → read_ipv4_if (nat_lt 0 room) text ≡ Some p → (0 < room) × (read_ipv4 text ≡ Some p)
read_ipv4_if_some zero text p e = absurd (none-some p e)
read_ipv4_if_some (suc room) text p e = (omega arith, rw (lt-ltb 0 (suc room) (omega arith)) at e)

-- one turn, by what the separator, the IPv4 address and the group gave
module _ (room : ℕ) (first : Bool) (text : List ℕ) (later : (t : List ℕ) → Spelled room false t (read_units room false t)) where
  at_segment : (group : List ℕ) → text ≡ lead first ++ group → (o : Option (ℕ × List ℕ)) → read_group group ≡ o → Spelled (suc room) first text (map_or o ([], false, text) λ s. after (s.0 ∷ []) (read_units room false s.1))
  at_segment group led None e = ([], refl, refl, omega arith)
  at_segment group led (Some s) e =
      let (digits, split, is_group, _) = read_short_sound 16 4 0xffff group s.1 s.0 (lit≤ tt) e in
      let (more, split_more, is_more, fits) = later s.1 in
      let found = read_units room false s.1 in
      let shown : text ≡ lead first ++ digits ++ more ++ found.2 = led ∙ ap (λ t. lead first ++ t) (split ∙ ap (λ t. digits ++ t) split_more) ∙ simp append_assoc in
      (lead first ++ digits ++ more, shown, inl (digits, more, refl, is_group, is_more), omega arith)

  at_ipv4 : (group : List ℕ) → text ≡ lead first ++ group → (other : Segments) → Spelled (suc room) first text other → (o : Option (List ℕ × List ℕ)) → read_ipv4_if (nat_lt 0 room) group ≡ o → Spelled (suc room) first text (map_or o other λ ip. (segments_of ip.0, true, ip.1))
  at_ipv4 group led other spelled None e = spelled
  at_ipv4 group led other spelled (Some ip) e =
      let (two, read) = read_ipv4_if_some room group ip e in
      let (last, split, h) = read_ipv4_sound group ip.0 ip.1 read in
      let shown : text ≡ lead first ++ last ++ ip.1 = led ∙ ap (λ t. lead first ++ t) split ∙ sym (append_assoc (lead first) last ip.1) in
      let groups : IsUnitsAfter true (lead first) (lead first ++ last) (segments_of ip.0) =
      subst (λ o. IsUnitsAfter true (lead first) (lead first ++ last) (segments_of o)) (sym h.value)
      (inr (last, ip.0, refl, refl, h, ap segments_of (sym h.value))) in
      (lead first ++ last, shown, groups, omega (arith, length-segments_of last ip.0 h))

  at_separator : (o : Option (List ℕ)) → read_separator first text ≡ o → Spelled (suc room) first text (read_units (suc room) first text)
  unfolding read_units
  at_separator None e = rw e ([], refl, refl, omega arith)
  at_separator (Some group) e =
      let led = read_separator_sound first text group e in
      rw e (at_ipv4 group led _ (at_segment group led _ refl) _ refl)

read_units_sound : (room : ℕ) (first : Bool) (text : List ℕ) → Spelled room first text (read_units room first text)
read_units_sound zero first text = unfold read_units in ([], refl, refl, omega arith)
read_units_sound (suc room) first text = at_separator room first text (λ t. read_units_sound room false t) _ refl

-- groups with no IPv4 address are groups that may have one
weaker : (ipv4 : Bool) (segments before text : List ℕ) → IsUnitsAfter ipv4 before text segments → IsUnitsAfter true before text segments
weaker ipv4 [] before text h = h
weaker ipv4 (s ∷ segments) before text (inl h) = inl (h.0, h.1, h.2, h.3, weaker ipv4 segments (58 ∷ []) h.1 h.4)
weaker ipv4 (s ∷ segments) before text (inr h) = inr (h.0, h.1, refl, h.3, h.4, h.5)

pub read_ipv6_complete : (text segments rest : List ℕ) → IsIpv6 text segments → EndsGroups rest → read_ipv6 (text ++ rest) ≡ Some (segments, rest)
unfolding read_ipv6
read_ipv6_complete text segments rest (inl h) stop =
    let (values, left, _) = read_units_complete true rest stop segments 8 true text h.0 (omega arith) in
    rw (values, left, h.1)
read_ipv6_complete text segments rest (inr h) stop =
    let after_head = 58 ∷ 58 ∷ (h.tail_text ++ rest) in
    let colon : (t : List ℕ) → EndsGroup (58 ∷ t) = λ t. (lit≤ tt, omega arith) in
    let shown : text ++ rest ≡ h.head_text ++ after_head = rw h.spelled (simp append_assoc) in
    let head = read_units_complete false after_head (colon (drop 1 after_head), λ _. colon (drop 2 after_head)) h.head 8 true h.head_text h.head_units (omega (arith, h.seven)) in
    let tail = read_units_complete true rest stop h.tail (8 - length h.head) true h.tail_text h.tail_units (omega (arith, h.room, h.seven)) in
    let short = ne_eqb (length h.head) 8 (omega (arith, h.seven)) in
    rw (shown, head.0, head.1, head.2 refl, short, tail.0, tail.1, ← h.value)

read_tail_sound : (front head text segments rest : List ℕ) → IsUnits false front head → length head ≤ 7 → read_tail head text ≡ Some (segments, rest) → (all : List ℕ) × (front ++ text ≡ all ++ rest) × IsElided all segments
read_tail_sound front head text segments rest groups short e =
    and_then_some _ (read_byte 58 text) _ e λ one colon e₁.
    and_then_some _ (read_byte 58 one) _ e₁ λ two second e₂.
    let tail = read_units (8 - length head) true two in
    let (value_is, rest_is) = same_parts _ segments tail.2 rest e₂ in
    let (back, split, tail_units, fits) = read_units_sound (8 - length head) true two in
    let shown : text ≡ 58 ∷ 58 ∷ (back ++ rest) = read_byte_sound 58 _ _ colon ∙ ap (λ t. 58 ∷ t) (read_byte_sound 58 _ _ second ∙ ap (λ t. 58 ∷ t) (split ∙ ap (λ t. back ++ t) rest_is)) in (
      front ++ (58 ∷ 58 ∷ []) ++ back,
      rw shown (simp append_assoc),
      record {
        head_text = front;
        tail_text = back;
        head = head;
        tail = tail.0;
        spelled = refl;
        head_units = groups;
        tail_units = weaker tail.1 tail.0 [] back tail_units;
        seven = short;
        room = omega arith;
        value = sym value_is;
      },
    )

pub read_ipv6_sound : (text segments rest : List ℕ) → read_ipv6 text ≡ Some (segments, rest) → (front : List ℕ) × (text ≡ front ++ rest) × IsIpv6 front segments
unfolding read_ipv6
read_ipv6_sound text segments rest e =
    let head = read_units 8 true text in
    let (front, split, groups, fits) = read_units_sound 8 true text in
    elim (cases_eq (length head.0) 8) [
      | inl eight ↦
          let (value_is, rest_is) = same_parts head.0 segments head.2 rest (rw (eq-eqb _ _ eight) at e) in
          (front, split ∙ ap (λ t. front ++ t) rest_is, inl (rw (← value_is) (weaker head.1 head.0 [] front groups, eight)))
      | inr fewer ↦
          let (no_ipv4, read) = cond_none _ _ _ (rw (ne_eqb _ _ fewer) at e) in
          let plain = subst (λ b. IsUnits b front head.0) no_ipv4 groups in
          let (all, shown, elided) = read_tail_sound front head.0 head.2 segments rest plain (omega arith) read in
          (all, split ∙ shown, inr elided)
    ]

-- As units, an IPv4 text is two and nothing more, so it has neither eight units nor `::`.
pub ipv4-not_ipv6 : (x y r t octets units : List ℕ) → IsIpv4 x octets → IsIpv6 y units → EndsGroups r → EndsGroups t → get_or r 0 0 ≢ 58 → x ++ r ≢ y ++ t
ipv4-not_ipv6 x y r t octets units dotted h ends_r ends_t other same =
    let two = length-segments_of x octets dotted in
    let groups : IsUnits true x (segments_of octets) =
    subst (λ o. IsUnits true x (segments_of o)) (sym dotted.value) (inr (x, octets, refl, refl, dotted, ap segments_of (sym dotted.value))) in
    let short = read_units_complete true r ends_r _ 8 true x groups (omega arith) in
    elim h [
      | inl full ↦
          let long = read_units_complete true t ends_t units 8 true y full.0 (omega arith) in
          let read : (read_units 8 true (x ++ r)).0 ≡ (read_units 8 true (y ++ t)).0 = ap (λ s. (read_units 8 true s).0) same in
          omega (arith, ap length (sym short.0 ∙ read ∙ long.0))
      | inr elided ↦
          let after_head = 58 ∷ 58 ∷ (elided.tail_text ++ t) in
          let ends : EndsGroups after_head = ((lit≤ tt, omega arith), λ _. (lit≤ tt, omega arith)) in
          let head = read_units_complete false after_head ends elided.head 8 true elided.head_text elided.head_units (omega (arith, elided.seven)) in
          let shown : x ++ r ≡ elided.head_text ++ after_head = same ∙ rw elided.spelled (simp append_assoc) in
          let left : r ≡ after_head = sym short.1 ∙ ap (λ s. (read_units 8 true s).2) shown ∙ head.1 in
          other (ap (λ s. get_or s 0 0) left)
    ]

-- std's grammar, which refuses more, is within this one
group : (text : List ℕ) (u : ℕ) → Std.IsGroup text u → IsGroup text u
group text u h =
    let below = digits_value-lt 16 text h.0.0.1 in
    let most : 16 ^ length text ≤ 16 ^ 4 = pow-le-pow_right (lit≤ tt) h.1 in
    record { number = h.0; short = h.1; fits = omega (arith, h.0.1) }

dotted : (text octets : List ℕ) → Std.IsDotted text octets → IsIpv4 text octets
dotted text octets h =
    let octet : (n : ℕ) → n < 256 → IsShort 10 3 255 (decimal n) n = λ n small. decimal_short 3 255 n (omega arith) (omega arith) (omega arith) (omega arith) in
    record {
      a_text = decimal h.a;
      b_text = decimal h.b;
      c_text = decimal h.c;
      d_text = decimal h.d;
      a = h.a;
      b = h.b;
      c = h.c;
      d = h.d;
      spelled = h.spelled;
      is_a = octet h.a h.fit.0;
      is_b = octet h.b h.fit.1;
      is_c = octet h.c h.fit.2;
      is_d = octet h.d h.fit.3;
      value = h.value;
    }

units_after : (d : Bool) (lead text units : List ℕ) → Std.IsGroupsAfter d lead text units → IsUnitsAfter d lead text units
units_after d lead text [] h = h
units_after d lead text (u ∷ units) (inl h) = inl (h.0, h.1, h.2, group h.0 u h.3, units_after d (58 ∷ []) h.1 units h.4)
units_after d lead text (u ∷ units) (inr h) = inr (h.0, h.1, h.2, h.3, dotted h.0 h.1 h.4, h.5)

IsIpv6-from_std : (text units : List ℕ) → Std.IsColonHex text units → IsIpv6 text units
IsIpv6-from_std text units (inl h) = inl (units_after true [] text units h.0, h.1)
IsIpv6-from_std text units (inr h) = inr (record {
  head_text = h.head_text;
  tail_text = h.tail_text;
  head = h.head;
  tail = h.tail;
  spelled = h.spelled;
  head_units = units_after false [] h.head_text h.head h.head_groups;
  tail_units = units_after true [] h.tail_text h.tail h.tail_groups;
  seven = omega (arith, h.room);
  room = omega (arith, h.room);
  value = h.value;
})

-- what is printed reads as what was printed
pub IsIpv6-ipv6_text : (units : List ℕ) → length units ≡ 8 → ((k : ℕ) → get_or units k 0 < 2 ^ 16) → IsIpv6 (ipv6_text units) units
IsIpv6-ipv6_text units eight fits = IsIpv6-from_std _ units (IsColonHex-ipv6_text units eight fits)

-- an address has eight units
pub ipv6_units : (text units : List ℕ) → IsIpv6 text units → length units ≡ 8
ipv6_units text units (inl h) = h.1
ipv6_units text units (inr h) =
    let gap = 8 - length h.head - length h.tail in
    omega (arith, h.room, ap length h.value, length-append (h.head ++ replicate gap 0) h.tail, length-append h.head (replicate gap 0), length-replicate {A = ℕ} gap 0)
