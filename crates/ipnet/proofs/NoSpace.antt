-- No text of a network has a space or a line end.
use Rattle.std.proofs.Common.{◌≢◌, ℕ, ◌<◌, ◌≤◌, Bool, true, false, List, [], ◌∷◌, ◌++◌, All, inl, inr, arith, codes}
use Rattle.std.proofs.lemmas.List.Elements.{All-nil, All-cons, All-append}
use Rattle.std.specs.Char.{digit_value}
use Rattle.std.specs.Str.Parse.{AllDigits}
use Rattle.ipnet_addr.specs.AddressText.{IsShort, IsIpv4, IsUnitsAfter, IsIpv6}
use Rattle.ipnet.specs.IpNetText.{Reads}
use Rattle.ipnet.specs.declared.ip_net.IpNet.{IpNet}
use Rattle.ipnet.specs.declared.ip_net.IpNet.TheVariants.{V4, V6}

-- a byte that is no digit and no separator
record Foreign (x : ℕ) : Type 0 where
  digit : 16 ≤ digit_value x
  dot : 46 ≢ x
  slash : 47 ≢ x
  colon : 58 ≢ x

-- in a record, so that antt reads the lists off a goal
record Free (x : ℕ) (text : List ℕ) : Type 0 where
  all : All (λ c. c ≢ x) text

none : {x : ℕ} → Free x []
none {x} = record { all = All-nil (λ c. c ≢ x) }

and : {x : ℕ} {xs ys : List ℕ} → Free x xs → Free x ys → Free x (xs ++ ys)
and {x} {xs} {ys} h k = record { all = All-append (λ c. c ≢ x) xs ys h.all k.all }

byte : {x : ℕ} (c : ℕ) → c ≢ x → Free x (c ∷ [])
byte {x} c h = record { all = All-cons (λ c. c ≢ x) c [] h (All-nil (λ c. c ≢ x)) }

digits : (x radix : ℕ) (text : List ℕ) → Foreign x → radix ≤ 16 → AllDigits radix text → Free x text
digits x radix [] f small h = none
digits x radix (c ∷ cs) f small h =
    let other : c ≢ x = λ space. (let below : digit_value x < radix = rw space at h.0 in omega (arith, f.digit)) in
    and (byte c other) (digits x radix cs f small h.1)

number : {radix count max : ℕ} {text : List ℕ} {n : ℕ} (x : ℕ) → Foreign x → radix ≤ 16 → IsShort radix count max text n → Free x text
number {radix} {count} {max} {text} {n} x f small h = digits x radix text f small h.number.0.1

ipv4 : {text octets : List ℕ} (x : ℕ) → Foreign x → IsIpv4 text octets → Free x text
ipv4 x f h =
    let dot : Free x (codes ".") = byte 46 f.dot in
    let a = number x f (omega arith) h.is_a in
    let b = number x f (omega arith) h.is_b in
    let c = number x f (omega arith) h.is_c in
    let d = number x f (omega arith) h.is_d in
    rw h.spelled (and (and (and (and (and (and a dot) b) dot) c) dot) d)

units : (x : ℕ) → Foreign x → (dotted : Bool) (lead text xs : List ℕ) → Free x lead → IsUnitsAfter dotted lead text xs → Free x text
units x f dotted lead text [] free h = rw h none
units x f dotted lead text (u ∷ us) free (inl h) = rw h.2 (and (and free (number x f (omega arith) h.3)) (units x f dotted (58 ∷ []) h.1 us (byte 58 f.colon) h.4))
units x f dotted lead text (u ∷ us) free (inr h) = rw h.3 (and free (ipv4 x f h.4))

ipv6 : (x : ℕ) → Foreign x → (text xs : List ℕ) → IsIpv6 text xs → Free x text
ipv6 x f text xs (inl h) = units x f true [] text xs none h.0
ipv6 x f text xs (inr h) =
    let colons : Free x (codes "::") = and (byte 58 f.colon) (byte 58 f.colon) in
    rw h.spelled (and (and (units x f false [] h.head_text h.head none h.head_units) colons) (units x f true [] h.tail_text h.tail none h.tail_units))

free : (x : ℕ) → Foreign x → (text : List ℕ) (n : IpNet) → Reads text n → Free x text
free x f text (V4 n) h = rw h.spelled.spelled (and (and (ipv4 x f h.spelled.address) (byte 47 f.slash)) (number x f (omega arith) h.spelled.prefix))
free x f text (V6 n) h = rw h.spelled.spelled (and (and (ipv6 x f _ _ h.spelled.address) (byte 47 f.slash)) (number x f (omega arith) h.spelled.prefix))

pub no_space : (text : List ℕ) (n : IpNet) → Reads text n → All (λ c. c ≢ 32) text
no_space text n h = (free 32 (record { digit = omega arith; dot = omega arith; slash = omega arith; colon = omega arith }) text n h).all

pub no_line_end : (text : List ℕ) (n : IpNet) → Reads text n → All (λ c. c ≢ 10) text
no_line_end text n h = (free 10 (record { digit = omega arith; dot = omega arith; slash = omega arith; colon = omega arith }) text n h).all
