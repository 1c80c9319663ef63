-- The block one bit shorter, larger blocks, and whether a block is inside a set.
use Rattle.std.proofs.Common.{◌≡◌, ℕ, zero, suc, ◌+◌, ◌-◌, ◌*◌, ◌/◌, ◌%◌, ◌^◌, ◌<◌, ◌≤◌, ◌⊎◌, ◌↔◌, inl, inr, ⊎_elim, Bool, true, false, refl, sym, ap, ◌∙◌, subst, arith, shr-shr, shr_lt, div-one, pow_pos, mod-lt}
use Rattle.std.proofs.Math.Pow.{split, high}
use native.Mathlib.Decide.{dec_le, ℕ_discrete}
use Rattle.ipnet_addr.specs.Addresses.{Address}
use Rattle.ipnet_blocks.specs.Blocks.{Block, IsBlock, free_bits, IsInside, IsLarger, is_inside, first, parent}
use Rattle.ipnet_blocks.specs.Maximal.{IsWithin, IsMaximalBlock}
use Rattle.ipnet_blocks.proofs.BlockLaws.{numbers_from_inside, inside_from_numbers, inside_by_numbers}

-- whether a is inside b
pub decide_inside : (a b : Block) → IsBlock a → IsBlock b → IsInside a b ⊎ (IsInside a b → ⊥)
decide_inside a b p q = go (is_inside a b) refl
  where
    go : (t : Bool) → is_inside a b ≡ t → IsInside a b ⊎ (IsInside a b → ⊥)
    go true e = inl ((inside_by_numbers a b p q).1 e)
    go false e = inr (λ h. let t = (inside_by_numbers a b p q).0 h in cc)

pub larger_is_shorter : (c b : Block) → IsBlock c → IsBlock b → IsLarger c b → c.len < b.len
larger_is_shorter c b p q l = go (dec_le b.len c.len)
  where
    go : Dec (b.len ≤ c.len) → c.len < b.len
    go (no n) = grind (arith, n)
    go (yes h) =
        let n = numbers_from_inside b c q p l.0 in
        let m = n.long in
        let z : b.len - c.len ≡ 0 = omega arith in
        let z' : c.len - b.len ≡ 0 = omega arith in
        let same : b.quotient ≡ c.quotient = sym (ap (λ i. b.quotient / 2 ^ i) z ∙ div-one b.quotient) ∙ n.quotient in
        absurd (l.1 (inside_from_numbers c b p (sym n.family) h (ap (λ i. c.quotient / 2 ^ i) z' ∙ div-one c.quotient ∙ sym same)))

pub parent_is_block : (b : Block) → IsBlock b → 0 < b.len → IsBlock (parent b)
parent_is_block b p h =
    let fits = p.in_width in
    let e : b.len ≡ (b.len - 1) + 1 = omega arith in
    record { in_width = omega arith; in_range = shr_lt (b.len - 1) 1 (subst (λ n. b.quotient < 2 ^ n) e p.in_range) }

pub inside_parent : (b : Block) → IsBlock b → 0 < b.len → IsInside b (parent b)
inside_parent b p h =
    let one : b.len - (b.len - 1) ≡ 1 = omega arith in
    inside_from_numbers b (parent b) p refl (omega arith) (ap (λ i. b.quotient / 2 ^ i) one)

pub parent_in_larger : (c b : Block) → IsBlock c → IsBlock b → IsLarger c b → IsInside (parent b) c
parent_in_larger c b p q l =
    let n = numbers_from_inside b c q p l.0 in
    let s = larger_is_shorter c b p q l in
    let e : 1 + ((b.len - 1) - c.len) ≡ b.len - c.len = omega arith in
    inside_from_numbers (parent b) c (parent_is_block b q (omega arith)) n.family (omega arith)
    (shr-shr b.quotient 1 ((b.len - 1) - c.len) ∙ ap (λ i. b.quotient / 2 ^ i) e ∙ n.quotient)

-- what holds below a number, or fails somewhere
all_below : (P : ℕ → Type 0) → ((i : ℕ) → P i ⊎ (P i → ⊥)) → (n : ℕ) → ((i : ℕ) → i < n → P i) ⊎ (((i : ℕ) → i < n → P i) → ⊥)
all_below P d zero = inl (λ i h. absurd (omega arith))
all_below P d (suc n) =
    ⊎_elim
    (λ f. ⊎_elim (λ p. inl (λ i h. one_more f p i h)) (λ no. inr (λ g. no (g n (omega arith)))) (d n))
    (λ no. inr (λ g. no (λ i h. g i (omega arith))))
    (all_below P d n)
  where
    one_more : ((i : ℕ) → i < n → P i) → P n → (i : ℕ) → i < suc n → P i
    one_more f p i h = go (ℕ_discrete i n)
      where
        go : Dec (i ≡ n) → P i
        go (yes e) = subst P (sym e) p
        go (no apart) = f i (grind (arith, apart))

module _ (S : Address → Type 0) where
  pub parent_is_enough : (b : Block) → IsWithin S b → 0 < b.len → (IsWithin S (parent b) → ⊥) ↔ IsMaximalBlock S b
  parent_is_enough b w h = (
    (λ no. record {
      within = w;
      largest = λ c v l. no (record { block = parent_is_block b w.block h; all = λ x m. v.all x (parent_in_larger c b v.block w.block l x m) });
    }),
    (λ m v. m.largest (parent b) v (
      inside_parent b w.block h,
      λ i.
          let n = numbers_from_inside (parent b) b v.block w.block i in let k = n.long in omega arith,
    )),
  )

  module _ (decide : (x : Address) → S x ⊎ (S x → ⊥)) where
    pub decide_within : (b : Block) → IsBlock b → IsWithin S b ⊎ (IsWithin S b → ⊥)
    decide_within b p =
        ⊎_elim
        (λ f. inl (record {
          block = p;
          all = λ x h.
              let e : first b + x.number % 2 ^ free_bits b ≡ x.number = ap (λ q. q * 2 ^ free_bits b + x.number % 2 ^ free_bits b) (sym h.1) ∙ split x.number (free_bits b) in
              let at : Address = record { family = b.family; number = first b + x.number % 2 ^ free_bits b } in
              let same : at ≡ x = λ i. record { family = sym h.0 i; number = e i } in
              subst S same (f (x.number % 2 ^ free_bits b) (mod-lt x.number (pow_pos (free_bits b))));
        }))
        (λ no. inr (λ w. no (λ i h. w.all (record { family = b.family; number = first b + i }) (refl, high b.quotient (free_bits b) h))))
        (all_below (λ i. S (record { family = b.family; number = first b + i })) (λ i. decide (record { family = b.family; number = first b + i })) (2 ^ free_bits b))

    -- each block inside S lies in a maximal one
    pub climb : (n : ℕ) (b : Block) → b.len ≡ n → IsWithin S b → (m : Block) × IsMaximalBlock S m × IsInside b m
    climb zero b e w =
        (b, record { within = w; largest = λ c v l. let s = larger_is_shorter c b v.block w.block l in omega arith }, λ x h. h)
    climb (suc n) b e w =
        let pos : 0 < b.len = omega arith in
        ⊎_elim
        (λ v. let t = climb n (parent b) (omega arith) v in (t.0, t.1, λ x h. t.2 x (inside_parent b w.block pos x h)))
        (λ no. (b, (parent_is_enough b w pos).0 no, λ x h. h))
        (decide_within (parent b) (parent_is_block b w.block pos))
