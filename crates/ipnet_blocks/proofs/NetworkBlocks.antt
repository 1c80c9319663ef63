-- Networks and their blocks.
use Rattle.std.proofs.Common.{◌≡◌, ℕ, ◌+◌, ◌-◌, ◌*◌, ◌/◌, ◌^◌, ◌<◌, ◌≤◌, ◌↔◌, ◌==◌, ◌≢◌, false, true≢false, nat_le, IsTrue, refl, sym, ap, ◌∙◌, subst, arith, shr_lt, shr-shr}
use Rattle.std.proofs.Math.Pow.{shl-shr}
use Rattle.std.proofs.lemmas.Bool.Decides.{nat_tests}
use Rattle.ipnet_addr.specs.Addresses.{Family, width, rank}
use Rattle.ipnet_blocks.specs.Blocks.{Block, IsBlock, IsInside, AreSiblings, free_bits, first_of, parent}
use Rattle.ipnet_blocks.specs.Networks.{Network, IsNetwork, block_of, net_of}
use Rattle.ipnet_blocks.proofs.BlockLaws.{free_split, has_first, inside_from_numbers, numbers_from_inside, longer_inside}

pub block_is : (f : Family) (n : Network) → IsNetwork f n → IsBlock (block_of f n)
block_is f n h =
    let w : n.len + (width f - n.len) ≡ width f = let k = h.in_width in omega arith in
    record { in_width = h.in_width; in_range = shr_lt n.len (width f - n.len) (subst (λ k. n.number < 2 ^ k) (sym w) h.in_range) }

-- the quotient of the longer one by the length of the shorter
shorter : (f : Family) (n m : Network) → IsNetwork f m → n.len ≤ m.len → m.number / 2 ^ (width f - n.len) ≡ (block_of f m).quotient / 2 ^ (m.len - n.len)
shorter f n m h l = free_split (width f) m.len n.len m.number h.in_width l

-- inclusion of networks, as a comparison of quotients
pub inside_by_quotients : (f : Family) (n m : Network) → IsNetwork f n → IsNetwork f m → n.len ≤ m.len
    → IsTrue (n.number / 2 ^ (width f - n.len) == m.number / 2 ^ (width f - n.len)) ↔ IsInside (block_of f m) (block_of f n)
inside_by_quotients f n m hn hm l = (forward, back)
  where
    forward : IsTrue (n.number / 2 ^ (width f - n.len) == m.number / 2 ^ (width f - n.len)) → IsInside (block_of f m) (block_of f n)
    forward t =
        let e : n.number / 2 ^ (width f - n.len) ≡ m.number / 2 ^ (width f - n.len) = grind (arith, nat_tests, t) in
        inside_from_numbers (block_of f m) (block_of f n) (block_is f m hm) refl l (sym (shorter f n m hm l) ∙ sym e)

    back : IsInside (block_of f m) (block_of f n) → IsTrue (n.number / 2 ^ (width f - n.len) == m.number / 2 ^ (width f - n.len))
    back h =
        let k = numbers_from_inside (block_of f m) (block_of f n) (block_is f m hm) (block_is f n hn) h in
        let e : n.number / 2 ^ (width f - n.len) ≡ m.number / 2 ^ (width f - n.len) = sym (shorter f n m hm l ∙ k.quotient) in
        grind (arith, nat_tests)

-- a longer network holds no shorter one
pub not_inside : (f : Family) (n m : Network) → IsNetwork f n → m.len < n.len → IsInside (block_of f m) (block_of f n) → ⊥
not_inside f n m hn l h = let k = longer_inside (block_of f m) (block_of f n) (block_is f n hn) refl h in omega arith

-- a block is the block of its network
pub block_round_trip : (b : Block) → block_of b.family (net_of b) ≡ b
block_round_trip b = λ i. record { family = b.family; len = b.len; quotient = shl-shr b.quotient (free_bits b) i }

pub not_at_most : (a b : ℕ) → b < a → IsTrue (nat_le a b) → ⊥
not_at_most a b l t = let h : a ≤ b = grind (arith, nat_tests) in omega arith

-- the network that `supernet` makes is the one of the parent
pub supernet_is : (f : Family) (n : Network) → IsNetwork f n → 0 < n.len
    → ◌≡◌ {A = Network} (record { number = n.number / 2 ^ (width f - (n.len - 1)) * 2 ^ (width f - (n.len - 1)); len = n.len - 1 }) (net_of (parent (block_of f n)))
supernet_is f n h some =
    let up : width f - n.len + 1 ≡ width f - (n.len - 1) = let w = h.in_width in omega arith in
    let q : n.number / 2 ^ (width f - (n.len - 1)) ≡ n.number / 2 ^ (width f - n.len) / 2 = sym (shr-shr n.number (width f - n.len) 1 ∙ ap (λ k. n.number / 2 ^ k) up) in
    λ i. record { number = q i * 2 ^ (width f - (n.len - 1)); len = n.len - 1 }

-- what `is_sibling` asks is the relation
pub siblings : (f : Family) (n m p : Network) (Holds : Type 0) → 0 < n.len → p ≡ net_of (parent (block_of f n)) → n.len ≡ m.len
    → Holds ↔ IsInside (block_of f m) (block_of f p) → Holds ↔ AreSiblings (block_of f n) (block_of f m)
siblings f n m p Holds some is same h =
    let e : block_of f p ≡ parent (block_of f n) = ap (block_of f) is ∙ block_round_trip (parent (block_of f n)) in
    let k = subst (λ b. Holds ↔ IsInside (block_of f m) b) e h in
    (λ t. (some, same, k.0 t), λ s. k.1 s.2)

-- blocks of different families hold nothing of one another
never_inside : (a b : Block) → rank a.family ≢ rank b.family → IsInside a b → ⊥
never_inside a b other h = other (ap rank (h (first_of a) (has_first a)).0)

pub not_inside_other : (a b : Block) → rank a.family ≢ rank b.family → IsTrue false ↔ IsInside a b
not_inside_other a b other = (λ t. absurd (true≢false (sym t)), λ h. absurd (never_inside a b other h))

pub not_siblings : (a b : Block) → rank a.family ≢ rank b.family → IsTrue false ↔ AreSiblings a b
not_siblings a b other = (λ t. absurd (true≢false (sym t)), λ h. absurd (never_inside b (parent a) (λ e. other (sym e)) h.2))
