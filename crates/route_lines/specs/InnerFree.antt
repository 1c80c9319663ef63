-- Words contain no space. The proofs are here because the ghost member `free` of a word may cite only specs/.
use Rattle.std.proofs.Common.{◌≢◌, ℕ, ◌<◌, ◌^◌, List, [], ◌∷◌, All, decimal, codes, arith}
use Rattle.std.proofs.lemmas.List.Elements.{All-nil, All-cons}
use Rattle.std.proofs.lemmas.Fmt.{decimal_is_IsNumeral}
use Rattle.std.specs.Str.Parse.{AllDigits}
use Rattle.std.specs.Char.{digit_value}
use Rattle.ipnet.specs.declared.ip_net.IpNet.{IpNet}
use Rattle.ipnet.proofs.NoSpace.{no_space}
use Rattle.route_lines.specs.Phrase.{IsUnspaced, IsDecimal}
use Rattle.route_lines.specs.Words.{IsNet, IsHop}
use Rattle.route_choices.specs.declared.hop.Hop.{Hop}
use Rattle.route_choices.specs.declared.hop.Hop.TheVariants.{Number, Drop}

pub net : (text : List ℕ) (x : IpNet) → IsNet text x → IsUnspaced text
net text x h = no_space text h.0 h.1

digits : (text : List ℕ) → AllDigits 10 text → IsUnspaced text
digits [] h = All-nil (λ c. c ≢ 32)
digits (c ∷ cs) h =
    let other : c ≢ 32 = λ space. (let below : digit_value 32 < 10 = rw space at h.0 in omega arith) in
    All-cons (λ c. c ≢ 32) c cs other (digits cs h.1)

pub numeral : (n : ℕ) → n < 2 ^ 64 → IsUnspaced (decimal n)
numeral n small = digits (decimal n) (decimal_is_IsNumeral n small).0.1

pub decimal_word : (low high : ℕ) → high < 2 ^ 64 → (text : List ℕ) (n : ℕ) → IsDecimal low high text n → IsUnspaced text
decimal_word low high small text n h = rw h.0 (numeral n (omega (arith, h.2)))

drop_word : IsUnspaced (codes "drop")
drop_word =
    let p : ℕ → Type 0 = λ c. c ≢ 32 in
    let e : All p (112 ∷ []) = All-cons p 112 [] (omega arith) (All-nil p) in
    let d : All p (111 ∷ 112 ∷ []) = All-cons p 111 (112 ∷ []) (omega arith) e in
    let c : All p (114 ∷ 111 ∷ 112 ∷ []) = All-cons p 114 (111 ∷ 112 ∷ []) (omega arith) d in
    All-cons p 100 (114 ∷ 111 ∷ 112 ∷ []) (omega arith) c

pub hop : (text : List ℕ) (x : Hop) → IsHop text x → IsUnspaced text
hop text (Number n) h = decimal_word 0 0xffffffff (omega arith) text n h
hop text Drop h = rw h drop_word
