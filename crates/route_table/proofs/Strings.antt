-- Bit strings and the blocks that they name.
use Rattle.std.proofs.Common.{◌≡◌, ◌-◌, ◌*◌, ◌^◌, ◌<◌, ◌≤◌, ◌⊎◌, inl, inr, ⊎_elim, Bool, true, false, List, [], ◌∷◌, length, refl, sym, ap, ◌∙◌, subst, take_all, mod-eq_of_lt, arith}
use Rattle.std.proofs.lemmas.Bool.{cases_Bool}
use Rattle.ipnet_addr.specs.Addresses.{Family, width}
use Rattle.ipnet_blocks.specs.BitStrings.{begins}
use Rattle.ipnet_blocks.specs.Blocks.{Block, IsBlock, digits, bit_string, is_inside}
use Rattle.ipnet_blocks.specs.Networks.{net_of}
use Rattle.ipnet_blocks.proofs.BitStrings.{begins_take}
use Rattle.ipnet_blocks.proofs.BlockLaws.{block_path}
use Rattle.ipnet_blocks.proofs.Strings.{begins_from_inside, digits_apart, inside_from_begins, length-digits}
use Rattle.least_table.specs.Nearest as near
use Rattle.route_laws.proofs.Matches.{bools_same, inside_from_test, test_from_inside}
use Rattle.trie_core.specs.Bits.{number_from}
use Rattle.trie_core.proofs.Numbers.{number_bound, number-digits}
use Rattle.trie_core.proofs.Longer.{own_digits}
use Rattle.trie_core.proofs.Strings.{not_same, same, same-Decides, same-refl}
use Rattle.route_table.specs.InnerFamilyTables.{block_at}

pub string_of_block : (f : Family) (s : List Bool) → bit_string (block_at f s) ≡ s
string_of_block f s = own_digits s

pub block_at_is_block : (f : Family) (s : List Bool) → length s ≤ width f → IsBlock (block_at f s)
block_at_is_block f s h = record { in_width = h; in_range = number_bound (length s) s }

pub block_of_string : (b : Block) → IsBlock b → block_at b.family (bit_string b) ≡ b
block_of_string b ok =
    let l = length-digits b.len b.quotient in
    block_path (block_at b.family (bit_string b)) b refl l
    (digits_apart b.len (number_from (length (bit_string b)) (bit_string b)) b.quotient
    (subst (λ n. number_from (length (bit_string b)) (bit_string b) < 2 ^ n) l (number_bound (length (bit_string b)) (bit_string b)))
    ok.in_range
    (ap (λ n. digits n (number_from (length (bit_string b)) (bit_string b))) (sym l) ∙ own_digits (bit_string b)))

pub same_string : (a b : Block) → IsBlock a → IsBlock b → a.family ≡ b.family → bit_string a ≡ bit_string b → a ≡ b
same_string a b p q f e = sym (block_of_string a p) ∙ ap (λ s. block_at a.family s) e ∙ ap (λ g. block_at g (bit_string b)) f ∙ block_of_string b q

-- the network of a string: its bits, and zeros after them
pub network_of_string : (f : Family) (s : List Bool) → length s ≤ width f → record { number = number_from (width f) s; len = length s } ≡ net_of (block_at f s)
network_of_string f s h =
    let n = length s in
    let v = number_from n s in
    let e : number_from (width f) s ≡ v * 2 ^ (width f - n) = ap (number_from (width f)) (sym (own_digits s)) ∙ number-digits (width f) n v h ∙ ap (λ m. m * 2 ^ (width f - n)) (mod-eq_of_lt (number_bound n s)) in
    λ i. record { number = e i; len = n }

pub string_within : (b : Block) → IsBlock b → length (bit_string b) ≤ width b.family
string_within b ok = omega (arith, length-digits b.len b.quotient, ok.in_width)

-- a block is inside another one if its string begins with the other one's
pub inside_is : (a b : Block) → IsBlock a → IsBlock b → a.family ≡ b.family → is_inside a b ≡ begins (bit_string b) (bit_string a)
inside_is a b p q f = bools_same (is_inside a b) (begins (bit_string b) (bit_string a))
    (λ t. begins_from_inside a b p q (inside_from_test a b p q t))
    (λ t. test_from_inside a b p q (inside_from_begins a b p q f t))

-- ---- equal strings

pub string_or_not : (s t : List Bool) → (s ≡ t) ⊎ (s ≡ t → ⊥)
string_or_not s t = ⊎_elim (λ e. inl ((same-Decides s t).0 e)) (λ e. inr (not_same e)) (cases_Bool (same s t))

-- the two tests agree
pub tests_agree : (s t : List Bool) → near.same_string s t ≡ same t s
tests_agree [] [] = refl
tests_agree [] (y ∷ t) = refl
tests_agree (x ∷ s) [] = refl
tests_agree (true ∷ s) (true ∷ t) = tests_agree s t
tests_agree (true ∷ s) (false ∷ t) = refl
tests_agree (false ∷ s) (true ∷ t) = refl
tests_agree (false ∷ s) (false ∷ t) = tests_agree s t

pub string-refl : (s : List Bool) → near.same_string s s ≡ true
string-refl s = tests_agree s s ∙ same-refl s

pub string-true : (s t : List Bool) → near.same_string s t ≡ true → s ≡ t
string-true s t e = sym ((same-Decides t s).0 (sym (tests_agree s t) ∙ e))

-- a string that is no longer than its beginning
pub begun_same : (s t : List Bool) → begins s t ≡ true → length t ≤ length s → t ≡ s
begun_same s t e h = sym (take_all (length s) t h) ∙ (begins_take s t e).1
