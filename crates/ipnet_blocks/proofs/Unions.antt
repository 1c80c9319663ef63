-- The maximal blocks of a union of sets with addresses between them.
use Rattle.std.proofs.Common.{◌≡◌, ℕ, zero, suc, ◌+◌, ◌-◌, ◌^◌, ◌<◌, ◌≤◌, ◌⊎◌, inl, inr, ⊎_elim, refl, sym, ap, subst, arith, List, [], ◌++◌}
use Rattle.std.proofs.Math.Pow.{high}
use Rattle.ipnet_addr.specs.Addresses.{rank, Address, IsAddress}
use Rattle.ipnet_blocks.specs.Blocks.{Block, free_bits, HasAddress, IsBefore, first, first_of}
use Rattle.ipnet_blocks.specs.Maximal.{IsWithin, IsMaximalBlock, IsMaximal}
use Rattle.ipnet_addr.proofs.Members.{In, In-left, In-right, In-cases}
use Rattle.ipnet_addr.proofs.Ascending.{In-from_Contains, Contains-from_In, Rising-from_pairs, pairs_from_Rising}
use Rattle.ipnet_blocks.proofs.BlockLaws.{has_first}
use Rattle.ipnet_blocks.proofs.Maximals.{member_is_address}
use Rattle.ipnet_blocks.proofs.Cuts.{span_of_has}
use Rattle.ipnet_blocks.proofs.Lists.{rising_append}

-- x comes before y, and is not next to it
abbrev pub IsFarBefore : Address → Address → Type 0
IsFarBefore x y = (rank x.family < rank y.family) ⊎ ((x.family ≡ y.family) × (x.number + 1 < y.number))

not_far : (x y : Address) → rank x.family ≡ rank y.family → y.number ≤ x.number + 1 → IsFarBefore x y → ⊥
not_far x y r l (inl h) = omega arith
not_far x y r l (inr h) = let n = h.1 in omega arith

at : Block → ℕ → Address
at b i = record { family = b.family; number = first b + i }

has_at : (b : Block) (i : ℕ) → i < 2 ^ free_bits b → HasAddress b (at b i)
unfolding at
has_at b i h = (refl, high b.quotient (free_bits b) h)

module _ (S T : Address → Type 0) (apart : (x y : Address) → S x → T y → IsFarBefore x y) where
  from_first : (c : Block) → IsWithin (λ x. S x ⊎ T x) c → S (first_of c) → (i : ℕ) → i < 2 ^ free_bits c → S (at c i)
  unfolding at
  from_first c w h zero lt = let e : first c ≡ first c + 0 = omega arith in subst (λ n. S (record { family = c.family; number = n })) e h
  from_first c w h (suc i) lt =
      let before = from_first c w h i (omega arith) in
      ⊎_elim (λ s. s) (λ t. absurd (not_far (at c i) (at c (suc i)) refl (omega arith) (apart (at c i) (at c (suc i)) before t))) (w.all (at c (suc i)) (has_at c (suc i) lt))

  in_one : (c : Block) → IsWithin (λ x. S x ⊎ T x) c → IsWithin S c ⊎ IsWithin T c
  unfolding at
  in_one c w = ⊎_elim
      (λ s. inl (record {
        block = w.block;
        all = λ x h.
            let r = span_of_has c x h in
            let e : first c + (x.number - first c) ≡ x.number = omega arith in
            let same : at c (x.number - first c) ≡ x = λ i. record { family = sym h.0 i; number = e i } in
            subst S same (from_first c w s (x.number - first c) (omega arith));
      }))
      (λ t. inr (record {
        block = w.block;
        all = λ x h. ⊎_elim
            (λ s. let r = span_of_has c x h in absurd (not_far x (first_of c) (ap rank h.0) (omega arith) (apart x (first_of c) s t)))
            (λ u. u)
            (w.all x h);
      }))
      (w.all (first_of c) (has_first c))

  left_maximal : (b : Block) → IsMaximalBlock S b → IsMaximalBlock (λ x. S x ⊎ T x) b
  left_maximal b m = record {
    within = record { block = m.within.block; all = λ x h. inl (m.within.all x h) };
    largest = λ c w l. ⊎_elim
        (λ s. m.largest c s l)
        (λ t. not_far (first_of b) (first_of b) refl (omega arith) (apart (first_of b) (first_of b) (m.within.all (first_of b) (has_first b)) (t.all (first_of b) (l.0 (first_of b) (has_first b)))))
        (in_one c w);
  }

  right_maximal : (b : Block) → IsMaximalBlock T b → IsMaximalBlock (λ x. S x ⊎ T x) b
  right_maximal b m = record {
    within = record { block = m.within.block; all = λ x h. inr (m.within.all x h) };
    largest = λ c w l. ⊎_elim
        (λ s. not_far (first_of b) (first_of b) refl (omega arith) (apart (first_of b) (first_of b) (s.all (first_of b) (l.0 (first_of b) (has_first b))) (m.within.all (first_of b) (has_first b))))
        (λ t. m.largest c t l)
        (in_one c w);
  }

  before : (bs cs : List Block) → IsMaximal S bs → IsMaximal T cs → (b c : Block) → In b bs → In c cs → IsBefore b c
  before bs cs h g b c i j =
      let s = ((h.exact b).0 (Contains-from_In bs b i)).within.all (first_of b) (has_first b) in
      let t = ((g.exact c).0 (Contains-from_In cs c j)).within.all (first_of c) (has_first c) in
      ⊎_elim (λ r. inl r) (λ r. let n = r.1 in inr (inl (ap rank r.0, omega arith))) (apart (first_of b) (first_of c) s t)

  pub maximal_join : (bs cs : List Block) → IsMaximal S bs → IsMaximal T cs → IsMaximal (λ x. S x ⊎ T x) (bs ++ cs)
  maximal_join bs cs h g = record {
    ascending = pairs_from_Rising IsBefore (bs ++ cs) (rising_append IsBefore bs cs (Rising-from_pairs IsBefore bs h.ascending) (Rising-from_pairs IsBefore cs g.ascending) (before bs cs h g));
    exact = λ b. (
      (λ i. ⊎_elim
          (λ p. left_maximal b ((h.exact b).0 (Contains-from_In bs b p)))
          (λ q. right_maximal b ((g.exact b).0 (Contains-from_In cs b q)))
          (In-cases b bs cs (In-from_Contains (bs ++ cs) b i))),
      (λ m. Contains-from_In (bs ++ cs) b (⊎_elim
          (λ s. In-left b bs cs (In-from_Contains bs b ((h.exact b).1 (record { within = s; largest = λ c w l. m.largest c (record { block = w.block; all = λ x k. inl (w.all x k) }) l }))))
          (λ t. In-right b bs cs (In-from_Contains cs b ((g.exact b).1 (record { within = t; largest = λ c w l. m.largest c (record { block = w.block; all = λ x k. inr (w.all x k) }) l }))))
          (in_one b m.within))),
    );
  }

-- sets with the same addresses have the same maximal blocks
pub maximal_same : (S T : Address → Type 0) → ((x : Address) → IsAddress x → S x → T x) → ((x : Address) → IsAddress x → T x → S x) → (bs : List Block) → IsMaximal S bs → IsMaximal T bs
maximal_same S T to from bs h =
    let go : (b : Block) → IsWithin S b → IsWithin T b = λ b w. record { block = w.block; all = λ x k. to x (member_is_address b x w.block k) (w.all x k) } in
    let back : (b : Block) → IsWithin T b → IsWithin S b = λ b w. record { block = w.block; all = λ x k. from x (member_is_address b x w.block k) (w.all x k) } in
    record {
      ascending = h.ascending;
      exact = λ b. (
        (λ i. let m = (h.exact b).0 i in record { within = go b m.within; largest = λ c w l. m.largest c (back c w) l }),
        (λ m. (h.exact b).1 (record { within = back b m.within; largest = λ c w l. m.largest c (go c w) l })),
      );
    }

pub maximal_none : (S : Address → Type 0) → ((x : Address) → S x → ⊥) → IsMaximal S []
maximal_none S none = record {
  ascending = λ i j d l m. absurd (omega arith);
  exact = λ b. ((λ i. absurd (let q = i.1 in omega arith)), (λ m. absurd (none (first_of b) (m.within.all (first_of b) (has_first b)))));
}
