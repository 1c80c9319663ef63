-- Blocks as sets of addresses, by numbers.
use Rattle.std.proofs.Common.{◌≡◌, ℕ, ◌+◌, ◌-◌, ◌/◌, ◌^◌, ◌<◌, ◌≤◌, ◌⊎◌, ◌↔◌, inl, inr, ⊎_elim, Bool, true, false, ◌&&◌, ◌==◌, nat_le, IsTrue, refl, sym, ap, ◌∙◌, subst, arith, shr-shr, pow_pos, le_antisymm, div-one}
use Rattle.std.proofs.Math.Pow.{shl-shr, high, pow-lt}
use Rattle.std.proofs.Math.Nat.{add-div_right}
use Rattle.std.proofs.lemmas.Bool.Decides.{nat_tests}
use native.Mathlib.Decide.{dec_le}
use Rattle.ipnet_addr.specs.Addresses.{width, rank, same_family, Address}
use Rattle.ipnet_addr.proofs.Families.{rank_apart}
use Rattle.ipnet_blocks.specs.Blocks.{Block, IsBlock, free_bits, HasAddress, IsInside, is_inside, first, first_of, IsBefore}

pub block_path : (a b : Block) → a.family ≡ b.family → a.len ≡ b.len → a.quotient ≡ b.quotient → a ≡ b
block_path a b p q r = λ i. record { family = p i; len = q i; quotient = r i }

pub has_first : (b : Block) → HasAddress b (first_of b)
has_first b = (refl, shl-shr b.quotient (free_bits b))

-- a quotient by more bits is that quotient's quotient
pub free_split : (w la lb x : ℕ) → la ≤ w → lb ≤ la → x / 2 ^ (w - lb) ≡ x / 2 ^ (w - la) / 2 ^ (la - lb)
free_split w la lb x h k =
    let e : w - lb ≡ (w - la) + (la - lb) = omega arith in
    ap (λ n. x / 2 ^ n) e ∙ sym (shr-shr x (w - la) (la - lb))

pub inside_from_numbers : (a b : Block) → IsBlock a → a.family ≡ b.family → b.len ≤ a.len → a.quotient / 2 ^ (a.len - b.len) ≡ b.quotient → IsInside a b
inside_from_numbers a b ok f l q y h =
    let fit : a.len ≤ width b.family = subst (λ g. a.len ≤ width g) f ok.in_width in
    let here : y.number / 2 ^ (width b.family - a.len) ≡ a.quotient = subst (λ g. y.number / 2 ^ (width g - a.len) ≡ a.quotient) f h.1 in
    (h.0 ∙ f, free_split (width b.family) a.len b.len y.number fit l ∙ ap (λ n. n / 2 ^ (a.len - b.len)) here ∙ q)

-- the least address of a larger one, one block further, is not in the smaller
pub longer_inside : (a b : Block) → IsBlock b → a.family ≡ b.family → IsInside a b → b.len ≤ a.len
longer_inside a b ok f h = go (dec_le b.len a.len)
  where
    go : Dec (b.len ≤ a.len) → b.len ≤ a.len
    go (yes p) = p
    go (no n) =
        let l : a.len < b.len = grind (arith, n) in
        let fit : b.len ≤ width a.family = subst (λ g. b.len ≤ width g) (sym f) ok.in_width in
        let less : free_bits b < free_bits a = subst (λ g. width g - b.len < free_bits a) f (omega arith) in
        let there : HasAddress a (record { family = a.family; number = first a + 2 ^ free_bits b }) = (refl, high a.quotient (free_bits a) (pow-lt less)) in
        let one : (first a + 2 ^ free_bits b) / 2 ^ free_bits b ≡ b.quotient = (h (record { family = a.family; number = first a + 2 ^ free_bits b }) there).1 in
        let zeroth : first a / 2 ^ free_bits b ≡ b.quotient = (h (first_of a) (has_first a)).1 in
        let step : (first a + 2 ^ free_bits b) / 2 ^ free_bits b ≡ first a / 2 ^ free_bits b + 1 = add-div_right (first a) (pow_pos (free_bits b)) in
        absurd (omega arith)

pub record Numbers (a b : Block) : Type 0 where
  pub family : a.family ≡ b.family
  pub long : b.len ≤ a.len
  pub quotient : a.quotient / 2 ^ (a.len - b.len) ≡ b.quotient

pub numbers_from_inside : (a b : Block) → IsBlock a → IsBlock b → IsInside a b → Numbers a b
numbers_from_inside a b oka ok h =
    let f : a.family ≡ b.family = (h (first_of a) (has_first a)).0 in
    let l = longer_inside a b ok f h in
    let fit : a.len ≤ width b.family = subst (λ g. a.len ≤ width g) f oka.in_width in
    let back : first a / 2 ^ (width b.family - a.len) ≡ a.quotient = subst (λ g. first a / 2 ^ (width g - a.len) ≡ a.quotient) f (shl-shr a.quotient (free_bits a)) in
    record {
      family = f;
      long = l;
      quotient = ap (λ n. n / 2 ^ (a.len - b.len)) (sym back) ∙ sym (free_split (width b.family) a.len b.len (first a) fit l) ∙ (h (first_of a) (has_first a)).1;
    }

pub same_sets : (a b : Block) → IsBlock a → IsBlock b → IsInside a b → IsInside b a → a ≡ b
same_sets a b p q h k =
    let m = numbers_from_inside a b p q h in
    let n = numbers_from_inside b a q p k in
    let l : a.len ≡ b.len = le_antisymm n.long m.long in
    let z : a.len - b.len ≡ 0 = omega arith in
    let e : a.quotient / 2 ^ (a.len - b.len) ≡ a.quotient = ap (λ i. a.quotient / 2 ^ i) z ∙ div-one a.quotient in
    block_path a b m.family l (sym e ∙ m.quotient)

pub common : (a b : Block) (x : Address) → IsBlock a → HasAddress a x → HasAddress b x → b.len ≤ a.len → IsInside a b
common a b x ok h k l =
    let f : a.family ≡ b.family = sym h.0 ∙ k.0 in
    let fit : a.len ≤ width b.family = subst (λ g. a.len ≤ width g) f ok.in_width in
    let here : x.number / 2 ^ (width b.family - a.len) ≡ a.quotient = subst (λ g. x.number / 2 ^ (width g - a.len) ≡ a.quotient) f h.1 in
    inside_from_numbers a b ok f l (ap (λ n. n / 2 ^ (a.len - b.len)) (sym here) ∙ sym (free_split (width b.family) a.len b.len x.number fit l) ∙ k.1)

pub nested : (a b : Block) (x : Address) → IsBlock a → IsBlock b → HasAddress a x → HasAddress b x → IsInside a b ⊎ IsInside b a
nested a b x p q h k = go (dec_le b.len a.len)
  where
    go : Dec (b.len ≤ a.len) → IsInside a b ⊎ IsInside b a
    go (yes l) = inl (common a b x p h k l)
    go (no n) = inr (common b a x q k h (grind (arith, n)))

and_parts : (s t u : Bool) → (s && t && u) ≡ true → (s ≡ true) × (t ≡ true) × (u ≡ true)
and_parts true true true e = (refl, refl, refl)
and_parts true true false e = absurd (cc)
and_parts true false u e = absurd (cc)
and_parts false t u e = absurd (cc)

pub inside_by_numbers : (a b : Block) → IsBlock a → IsBlock b → IsInside a b ↔ IsTrue (is_inside a b)
inside_by_numbers a b p q = (forward, back)
  where
    forward : IsInside a b → IsTrue (is_inside a b)
    forward h =
        let n = numbers_from_inside a b p q h in
        let f = ap rank n.family in
        let l = n.long in
        let e = n.quotient in
        grind (arith, nat_tests)

    back : IsTrue (is_inside a b) → IsInside a b
    back t =
        let s = and_parts (same_family a.family b.family) (nat_le b.len a.len) (a.quotient / 2 ^ (a.len - b.len) == b.quotient) t in
        inside_from_numbers a b p (rank_apart a.family b.family (grind (arith, nat_tests, s.0))) (grind (arith, nat_tests, s.1)) (grind (arith, nat_tests, s.2))

by_places : (a b : Block) → IsBefore a b ⊎ ((rank a.family ≡ rank b.family) × (first a ≡ first b) × (a.len ≡ b.len)) ⊎ IsBefore b a
by_places a b = grind arith

pub total : (a b : Block) → IsBefore a b ⊎ (a ≡ b) ⊎ IsBefore b a
total a b = ⊎_elim (λ h. inl h) (λ r. ⊎_elim (λ e. inr (inl (same e.0 e.1 e.2))) (λ k. inr (inr k)) r) (by_places a b)
  where
    same : rank a.family ≡ rank b.family → first a ≡ first b → a.len ≡ b.len → a ≡ b
    same p e l =
        let f = rank_apart a.family b.family p in
        let w : free_bits a ≡ free_bits b = ap (λ g. width g - a.len) f ∙ ap (λ n. width b.family - n) l in
        let here : a.quotient ≡ first a / 2 ^ free_bits a = sym (shl-shr a.quotient (free_bits a)) in
        let there : first b / 2 ^ free_bits b ≡ b.quotient = shl-shr b.quotient (free_bits b) in
        block_path a b f l (here ∙ ap (λ n. first a / 2 ^ n) w ∙ ap (λ n. n / 2 ^ free_bits b) e ∙ there)

pub strict : (a b : Block) → IsBefore a b → IsBefore b a → ⊥
strict a b h k = grind arith

pub transitive : (a b c : Block) → IsBefore a b → IsBefore b c → IsBefore a c
transitive a b c h k = grind arith
