-- The blocks of a range: the first one, those after it, and what is stored between them.
use Rattle.std.proofs.Common.{◌≡◌, ℕ, zero, suc, ◌+◌, ◌-◌, ◌*◌, ◌/◌, ◌%◌, ◌^◌, ◌<◌, ◌≤◌, ◌⊎◌, inl, inr, refl, sym, ◌∙◌, ap, subst, arith, List, [], ◌∷◌, map, cond, nat_le, nat_lt, ◌==◌, shr_lt}
use Rattle.std.proofs.lemmas.Nat.{pow_pos, shr_split, mod_below}
use Rattle.std.proofs.lemmas.Bool.{cases_lt, cases_eq, le-leb, lt-leb, le-ltb, lt-ltb, eq-eqb, ne_eqb, cond-true, cond-false}
use Rattle.std.proofs.lemmas.List.Kept.{AllPairs-cons}
use Rattle.std.proofs.Math.Nat.{mul-mod_left, div-eq_of_lt-le}
use Rattle.ipnet_addr.specs.Addresses.{Family, Ipv4, Ipv6, width, rank, Address}
use Rattle.ipnet_blocks.specs.Blocks.{Block, IsBlock, free_bits, HasAddress, IsInside, IsBefore, first, first_of}
use Rattle.ipnet_blocks.specs.Maximal.{IsWithin, IsCutBlock, IsCut}
use Rattle.ipnet_blocks.specs.Cuts.{Limits, most_free, first_free, block_from, cut_within, cut, subnets, after_first}
use Rattle.ipnet_blocks.specs.Networks.{Network, net_of}
use Rattle.ipnet_addr.proofs.Ascending.{In-from_Contains, Contains-from_In, All-from_In}
use Rattle.ipnet_blocks.proofs.BlockLaws.{has_first, common, same_sets}
use Rattle.ipnet_blocks.proofs.Parents.{decide_inside}
use Rattle.ipnet_blocks.proofs.FreeBits.{most_free_le, most_free_fits, most_free_greatest}

-- the addresses of a block are those of its family between two numbers
pub span_of_has : (b : Block) (x : Address) → HasAddress b x → (first b ≤ x.number) × (x.number < first b + 2 ^ free_bits b)
span_of_has b x h =
    let p = mod_below x.number (2 ^ free_bits b) (pow_pos (free_bits b)) in
    let s = shr_split x.number (free_bits b) in
    let s' : b.quotient * 2 ^ free_bits b + x.number % 2 ^ free_bits b ≡ x.number = rw h.1 at s in
    (omega arith, omega arith)

pub has_of_span : (b : Block) (x : Address) → x.family ≡ b.family → first b ≤ x.number → x.number < first b + 2 ^ free_bits b → HasAddress b x
has_of_span b x f l r =
    let p = pow_pos (free_bits b) in
    let h : x.number < (b.quotient + 1) * 2 ^ free_bits b = omega arith in
    (f, div-eq_of_lt-le (2 ^ free_bits b) l h)

abbrev pub Between : Family → ℕ → ℕ → Address → Type 0
Between f s e x = (x.family ≡ f) × (s ≤ x.number) × (x.number ≤ e)

-- a block lies between two numbers
pub record LiesIn (f : Family) (s e : ℕ) (b : Block) : Type 0 where
  pub family : b.family ≡ f
  pub low : s ≤ first b
  pub high : first b + 2 ^ free_bits b ≤ e + 1

pub lies_in : (f : Family) (s e : ℕ) (b : Block) → IsWithin (Between f s e) b → LiesIn f s e b
lies_in f s e b w =
    let p = pow_pos (free_bits b) in
    let l = w.all (first_of b) (has_first b) in
    let last : Address = record { family = b.family; number = first b + 2 ^ free_bits b - 1 } in
    let r = w.all last (has_of_span b last refl (omega arith) (omega arith)) in
    record { family = l.0; low = l.1; high = let h = r.2 in omega arith }

pub within_of : (f : Family) (s e : ℕ) (b : Block) → IsBlock b → LiesIn f s e b → IsWithin (Between f s e) b
within_of f s e b ok at = record {
  block = ok;
  all = λ x h. let r = span_of_has b x h in let l = at.low in let u = at.high in (h.0 ∙ at.family, omega arith, omega arith);
}

-- the block at start begins there
pub first_at : (f : Family) (s e m : ℕ) → s ≤ e → first (block_from f s (most_free (width f - m) s e)) ≡ s
first_at f s e m le =
    let k = most_free (width f - m) s e in
    let h = most_free_le (width f - m) s e in
    let free : width f - (width f - k) ≡ k = omega arith in
    let a = (most_free_fits (width f - m) s e le).0 in
    ap (λ n. s / 2 ^ k * 2 ^ n) free ∙ omega (arith, shr_split s k)

module _ (f : Family) (s e m : ℕ) (le : s ≤ e) (top : e < 2 ^ width f) (fit : m ≤ width f) where
  abbrev k : ℕ
  k = most_free (width f - m) s e

  abbrev b₀ : Block
  b₀ = block_from f s k

  k_fits : k ≤ width f - m
  k_fits = most_free_le (width f - m) s e

  free₀ : free_bits b₀ ≡ k
  free₀ = let h = k_fits in omega arith

  first₀ : first b₀ ≡ s
  first₀ = first_at f s e m le

  ok₀ : IsBlock b₀
  ok₀ = record {
    in_width = omega arith;
    in_range = let h = k_fits in let w : (width f - k) + k ≡ width f = omega arith in shr_lt (width f - k) k (subst (λ n. s < 2 ^ n) (sym w) (omega arith));
  }

  power₀ : 2 ^ free_bits b₀ ≡ 2 ^ k
  power₀ = ap (λ n. 2 ^ n) free₀

  in₀ : LiesIn f s e b₀
  in₀ = let a = (most_free_fits (width f - m) s e le).1 in let p = power₀ in let q = first₀ in record { family = refl; low = omega arith; high = omega arith }

  -- a block between the ends lies in the first block or after it
  split : (c : Block) → m ≤ c.len → IsWithin (Between f s e) c → IsInside c b₀ ⊎ (s + 2 ^ k ≤ first c)
  split c l w =
      let at = lies_in f s e c w in
      let p = power₀ in
      let q = first₀ in
      let v = free₀ in
      let u = ap width at.family in
      let lo = at.low in
      let hi = at.high in
      let cw = w.block.in_width in
      elim (cases_lt (first c) (s + 2 ^ k)) [
        | inr ge ↦ inr ge
        | inl lt ↦
            let here : HasAddress b₀ (first_of c) = has_of_span b₀ (first_of c) at.family (omega arith) (omega arith) in
            elim (cases_lt k (free_bits c)) [
              | inr ge ↦ inl (common c b₀ (first_of c) w.block (has_first c) here (omega arith))
              | inl more ↦
                  let in_c = (common b₀ c (first_of c) ok₀ here (has_first c) (omega arith)) (first_of b₀) (has_first b₀) in
                  let below = (span_of_has c (first_of b₀) in_c).0 in
                  let same : first c ≡ s = omega arith in
                  let aligned : s % 2 ^ free_bits c ≡ 0 = subst (λ n. n % 2 ^ free_bits c ≡ 0) same (mul-mod_left c.quotient (2 ^ free_bits c)) in
                  let g = most_free_greatest (width f - m) s e (free_bits c) (omega arith) (aligned, omega arith) in
                  absurd (omega arith)
            ]
      ]

  first_is_cut : IsCutBlock f s e m b₀
  first_is_cut = record {
    within = within_of f s e b₀ ok₀ in₀;
    long = let h = k_fits in omega arith;
    largest = λ c l w g. elim (split c l w) [
      | inl i ↦ g.1 i
      | inr after ↦
          let h = (span_of_has c (first_of b₀) (g.0 (first_of b₀) (has_first b₀))).0 in
          let q = first₀ in
          let p = pow_pos k in
          absurd (omega arith)
    ];
  }

  later_is_cut : (b : Block) → IsCutBlock f (s + 2 ^ k) e m b → IsCutBlock f s e m b
  later_is_cut b h =
      let at = lies_in f (s + 2 ^ k) e b h.within in
      let lo = at.low in
      let q = first₀ in
      let p = power₀ in
      record {
        within = within_of f s e b h.within.block (record { family = at.family; low = omega arith; high = at.high });
        long = h.long;
        largest = λ c l w g. elim (split c l w) [
          | inl i ↦ let r = (span_of_has b₀ (first_of b) (i (first_of b) (g.0 (first_of b) (has_first b)))).1 in absurd (omega arith)
          | inr after ↦
              let in_c = lies_in f s e c w in
              h.largest c l (within_of f (s + 2 ^ k) e c w.block (record { family = in_c.family; low = after; high = in_c.high })) g
        ];
      }

  cut_is_later : (b : Block) → IsCutBlock f s e m b → s + 2 ^ k ≤ first b → IsCutBlock f (s + 2 ^ k) e m b
  cut_is_later b h after =
      let at = lies_in f s e b h.within in
      record {
        within = within_of f (s + 2 ^ k) e b h.within.block (record { family = at.family; low = after; high = at.high });
        long = h.long;
        largest = λ c l w g.
            let in_c = lies_in f (s + 2 ^ k) e c w in
            let lo = in_c.low in
            h.largest c l (within_of f s e c w.block (record { family = in_c.family; low = omega arith; high = in_c.high })) g;
      }

  cut_is_first : (b : Block) → IsCutBlock f s e m b → IsInside b b₀ → b ≡ b₀
  cut_is_first b h i = elim (decide_inside b₀ b ok₀ h.within.block) [
    | inl back ↦ same_sets b b₀ h.within.block ok₀ i back
    | inr apart ↦ absurd (h.largest b₀ first_is_cut.long first_is_cut.within (i, apart))
  ]

  cut_step : (bs : List Block) → IsCut f (s + 2 ^ k) e m bs → IsCut f s e m (b₀ ∷ bs)
  cut_step bs h = record {
    ascending = AllPairs-cons IsBefore b₀ bs
        (All-from_In (IsBefore b₀) bs (λ c i.
        let at = lies_in f (s + 2 ^ k) e c ((h.exact c).0 (Contains-from_In bs c i)).within in
        let lo = at.low in
        let q = first₀ in
        let p = pow_pos k in
        inr (inl (sym (ap rank at.family), omega arith))))
        h.ascending;
    exact = λ b. (
      (λ i. elim (In-from_Contains (b₀ ∷ bs) b i) [
        | inl same ↦ subst (IsCutBlock f s e m) (sym same) first_is_cut
        | inr rest ↦ later_is_cut b ((h.exact b).0 (Contains-from_In bs b rest))
      ]),
      (λ c. Contains-from_In (b₀ ∷ bs) b (elim (split b c.long c.within) [
        | inl i ↦ inl (cut_is_first b c i)
        | inr after ↦ inr (In-from_Contains bs b ((h.exact b).1 (cut_is_later b c after)))
      ])),
    );
  }

cut_none : (f : Family) (s e m : ℕ) → e < s → IsCut f s e m []
cut_none f s e m lt = record {
  ascending = λ i j d a b. absurd (omega arith);
  exact = λ b. (
    (λ i. absurd (let q = i.1 in omega arith)),
    (λ c. let at = lies_in f s e b c.within in let p = pow_pos (free_bits b) in let l = at.low in let h = at.high in absurd (omega arith)),
  );
}

-- the list by its first block
within_more : (n : ℕ) (f : Family) (l : Limits) → l.start ≤ l.end → cut_within (suc n) f l ≡ block_from f l.start (first_free (width f) l) ∷ cut_within n f (record l { start = l.start + 2 ^ first_free (width f) l })
unfolding cut_within
within_more n f l le = cond-true (nat_le l.start l.end) _ _ (le-leb l.start l.end le)

within_none : (n : ℕ) (f : Family) (l : Limits) → l.end < l.start → cut_within n f l ≡ []
unfolding cut_within
within_none zero f l lt = refl
within_none (suc n) f l lt = cond-false (nat_le l.start l.end) _ _ (lt-leb l.start l.end lt)

within_is_cut : (n : ℕ) (f : Family) (l : Limits) → l.end < 2 ^ width f → l.shortest ≤ width f → l.end + 1 - l.start ≤ n → IsCut f l.start l.end l.shortest (cut_within n f l)
within_is_cut zero f l top fit h = rw (within_none zero f l (omega arith)) (cut_none f l.start l.end l.shortest (omega arith))
within_is_cut (suc n) f l top fit h = elim (cases_lt l.end l.start) [
  | inl lt ↦ rw (within_none (suc n) f l lt) (cut_none f l.start l.end l.shortest lt)
  | inr le ↦
      let p = pow_pos (first_free (width f) l) in
      rw (within_more n f l le) (cut_step f l.start l.end l.shortest le top fit _ (within_is_cut n f (record l { start = l.start + 2 ^ first_free (width f) l }) top fit (omega arith)))
]

pub cut_is_exact : (f : Family) (l : Limits) → l.end < 2 ^ width f → l.shortest ≤ width f → IsCut f l.start l.end l.shortest (cut f l)
cut_is_exact f l top fit = within_is_cut (l.end + 1 - l.start) f l top fit (omega arith)

-- more than enough is enough
enough : (n m : ℕ) (f : Family) (l : Limits) → l.end + 1 - l.start ≤ n → l.end + 1 - l.start ≤ m → cut_within n f l ≡ cut_within m f l
enough zero m f l h g = within_none zero f l (omega arith) ∙ sym (within_none m f l (omega arith))
enough (suc n) zero f l h g = within_none (suc n) f l (omega arith) ∙ sym (within_none zero f l (omega arith))
enough (suc n) (suc m) f l h g = elim (cases_lt l.end l.start) [
  | inl lt ↦ within_none (suc n) f l lt ∙ sym (within_none (suc m) f l lt)
  | inr le ↦
      let p = pow_pos (first_free (width f) l) in
      within_more n f l le ∙ ap (λ (bs : List Block). block_from f l.start (first_free (width f) l) ∷ bs) (enough n m f (record l { start = l.start + 2 ^ first_free (width f) l }) (omega arith) (omega arith)) ∙ sym (within_more m f l le)
]

cut_next : (f : Family) (l : Limits) → l.start ≤ l.end → cut f l ≡ block_from f l.start (first_free (width f) l) ∷ cut f (record l { start = l.start + 2 ^ first_free (width f) l })
cut_next f l le =
    let p = pow_pos (first_free (width f) l) in
    let next : Limits = record l { start = l.start + 2 ^ first_free (width f) l } in
    enough (l.end + 1 - l.start) (suc (l.end + 1 - l.start)) f l (omega arith) (omega arith)
    ∙ within_more (l.end + 1 - l.start) f l le
    ∙ ap (λ (bs : List Block). block_from f l.start (first_free (width f) l) ∷ bs) (enough (l.end + 1 - l.start) (next.end + 1 - next.start) f next (omega arith) (omega arith))

pub cut_end : (f : Family) (l : Limits) → l.end < l.start → cut f l ≡ []
cut_end f l lt = within_none (l.end + 1 - l.start) f l lt

module _ (w : ℕ) (l : Limits) (le : l.start ≤ l.end) where
  abbrev next : ℕ
  next = l.start + 2 ^ first_free w l

  pub next_fits : l.end < 2 ^ w → next ≤ 2 ^ w
  next_fits top = let h = (most_free_fits (w - l.shortest) l.start l.end le).1 in omega arith

  -- what is stored after a block that ends at the greatest address, after another one at the end, and after any other
  pub after_greatest : 2 ^ w ≤ next → after_first w l ≡ record l { start = 2 ^ w - 1; end = 0 }
  unfolding after_first
  after_greatest h = cond-false (nat_lt l.end l.start) _ _ (le-ltb l.end l.start le) ∙ cond-true (nat_le (2 ^ w) next) _ _ (le-leb (2 ^ w) next h)

  after_other : next < 2 ^ w → after_first w l ≡ record l { start = next; end = cond (l.start == l.end) 0 l.end }
  unfolding after_first
  after_other h = cond-false (nat_lt l.end l.start) _ _ (le-ltb l.end l.start le) ∙ cond-false (nat_le (2 ^ w) next) _ _ (lt-leb (2 ^ w) next h)

  pub after_last : next < 2 ^ w → l.start ≡ l.end → after_first w l ≡ record l { start = next; end = 0 }
  after_last h e = after_other h ∙ ap (λ n. record l { start = next; end = n }) (cond-true (l.start == l.end) 0 l.end (eq-eqb l.start l.end e))

  pub after_more : next < 2 ^ w → (l.start ≡ l.end → ⊥) → after_first w l ≡ record l { start = next }
  after_more h e = after_other h ∙ ap (λ n. record l { start = next; end = n }) (cond-false (l.start == l.end) 0 l.end (ne_eqb l.start l.end e))

pub after_none : (w : ℕ) (l : Limits) → l.end < l.start → after_first w l ≡ l
unfolding after_first
after_none w l lt = cond-true (nat_lt l.end l.start) _ _ (lt-ltb l.end l.start lt)

some_bits : (f : Family) → 0 < 2 ^ width f - 1
some_bits Ipv4 = omega arith
some_bits Ipv6 = omega arith

-- what is stored gives the rest
stored_rest : (f : Family) (l : Limits) → l.start ≤ l.end → l.end < 2 ^ width f → cut f (after_first (width f) l) ≡ cut f (record l { start = l.start + 2 ^ first_free (width f) l })
stored_rest f l le top =
    let w = width f in
    let n = l.start + 2 ^ first_free w l in
    let p = pow_pos (first_free w l) in
    let fits = next_fits w l le top in
    let more = some_bits f in
    elim (cases_lt n (2 ^ w)) [
      | inr ge ↦
          let rest : Limits = record l { start = n } in
          let past : Limits = record l { start = 2 ^ w - 1; end = 0 } in
          ap (cut f) (after_greatest w l le ge) ∙ cut_end f past (omega arith) ∙ sym (cut_end f rest (omega arith))
      | inl lt ↦ elim (cases_eq l.start l.end) [
        | inl e ↦
            let rest : Limits = record l { start = n } in
            let past : Limits = record l { start = n; end = 0 } in
            ap (cut f) (after_last w l le lt e) ∙ cut_end f past (omega arith) ∙ sym (cut_end f rest (omega arith))
        | inr other ↦ ap (cut f) (after_more w l le lt other)
      ]
    ]

-- the networks that are left, by the first of them
pub subnets_next : (f : Family) (l : Limits) → l.start ≤ l.end → l.end < 2 ^ width f → subnets f l ≡ record { number = l.start; len = width f - first_free (width f) l } ∷ subnets f (after_first (width f) l)
subnets_next f l le top =
    ap (map net_of) (cut_next f l le)
    ∙ ap (λ n. record { number = n; len = width f - first_free (width f) l } ∷ subnets f (record l { start = l.start + 2 ^ first_free (width f) l })) (first_at f l.start l.end l.shortest le)
    ∙ ap (λ bs. record { number = l.start; len = width f - first_free (width f) l } ∷ map net_of bs) (sym (stored_rest f l le top))

pub subnets_none : (f : Family) (l : Limits) → l.end < l.start → subnets f l ≡ []
subnets_none f l lt = ap (map net_of) (cut_end f l lt)

-- a call of `next`, where the limits stand in the fields
pub next_none : (f : Family) (l : Limits) → l.end < l.start → ((subnets f l ≡ []) × (subnets f l ≡ [])) × (l ≡ after_first (width f) l)
next_none f l lt = ((subnets_none f l lt, subnets_none f l lt), sym (after_none (width f) l lt))

pub next_some : (f : Family) (l : Limits) (s e : ℕ) (n : Network) (new : Limits) → l.end < 2 ^ width f → l.start ≤ l.end → s ≡ l.start → e ≡ l.end
    → n ≡ record { number = l.start; len = width f - first_free (width f) (record { start = s; end = e; shortest = l.shortest }) }
    → new ≡ after_first (width f) (record { start = s; end = e; shortest = l.shortest })
    → (subnets f l ≡ n ∷ subnets f new) × (new ≡ after_first (width f) l)
next_some f l s e n new top le p q is stored =
    let same : record { start = s; end = e; shortest = l.shortest } ≡ l = λ i. record { start = p i; end = q i; shortest = l.shortest } in
    let left = stored ∙ ap (after_first (width f)) same in
    let item : n ≡ record { number = l.start; len = width f - first_free (width f) l } = is ∙ ap (λ k. record { number = l.start; len = width f - first_free (width f) k }) same in
    (subnets_next f l le top ∙ (λ i. sym item i ∷ subnets f (sym left i)), left)
