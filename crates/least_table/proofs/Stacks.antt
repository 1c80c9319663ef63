-- Where the items of blocks of one size stand, one block after the other.
use Rattle.std.proofs.Common.{◌≡◌, ℕ, ◌+◌, ◌*◌, ◌/◌, ◌%◌, ◌-◌, ◌<◌, ◌≤◌, List, [], ◌∷◌, ◌++◌, length, take, slice_index_or, refl, sym, ap, ◌∙◌, length-append, Global, Vec, arith}
use Rattle.std.proofs.Math.Nat.{div-lt_iff_lt-mul, mod-lt, mul-le-mul_right}
use Rattle.std.proofs.lemmas.List.{get_or_append_left, get_or-append_right, length-take-le}
use Rattle.std.proofs.lemmas.List.Concat.{get_or-flat_map}
use Rattle.std.proofs.lemmas.List.Elements.{All-head, All-tail, All-take}
use Rattle.least_table.specs.InnerStacks.{AreFull, joined_blocks}

module _ (size : ℕ) {X : Type 0} where
  pub length_joined : (bs : List (Vec X Global)) → AreFull size bs → length (joined_blocks bs) ≡ length bs * size
  length_joined [] full = omega arith
  length_joined (b ∷ bs) full =
      omega (arith, length-append b.items (joined_blocks bs), All-head (λ b. length b.items ≡ size) b bs full, length_joined bs (All-tail (λ b. length b.items ≡ size) b bs full))

  module _ (bs : List (Vec X Global)) (last : List X) (at : ℕ) (positive : 0 < size) (full : AreFull size bs) where
    -- a place lies in the block that its quotient tells, if there is such a block
    pub in_block : (b : Vec X Global) (x : X) → at / size < length bs → b ≡ slice_index_or bs (at / size) b → x ≡ slice_index_or b.items (at % size) x → x ≡ slice_index_or (joined_blocks bs ++ last) at x
    in_block b x within is item =
        let q = at / size in
        let before : length (joined_blocks (take q bs)) ≡ q * size = length_joined (take q bs) (All-take (λ b. length b.items ≡ size) q bs full) ∙ rw (length-take-le q bs (omega (arith, within))) refl in
        let place : length (joined_blocks (take q bs)) + at % size ≡ at = grind (arith, before) in
        let inside : at % size < length (slice_index_or bs q b).items = omega (arith, full q b within, mod-lt at positive) in
        let short : at < length (joined_blocks bs) = grind (arith, length_joined bs full, mul-le-mul_right {m = q + 1} {n = length bs} size (omega (arith, within)), mod-lt at positive) in
        item ∙ ap (λ (c : Vec X Global). slice_index_or c.items (at % size) x) is ∙ sym (get_or-flat_map (λ b. b.items) bs q (at % size) b x within inside)
        ∙ ap (λ n. slice_index_or (joined_blocks bs) n x) place ∙ sym (get_or_append_left (joined_blocks bs) last x at short)

    -- and in the last one, if it is past all others
    module _ (within : at < length (joined_blocks bs ++ last)) (short : length last ≤ size) (past : length bs ≤ at / size) where
      last_place : (at % size ≡ at - length (joined_blocks bs)) × (length (joined_blocks bs) ≤ at)
      last_place =
          let below : at / size < length bs + 1 = (div-lt_iff_lt-mul {k = size} {x = at} {y = length bs + 1} positive).1 (omega (arith, within, short, length_joined bs full, length-append (joined_blocks bs) last)) in
          let block : at / size ≡ length bs = omega (arith, past, below) in
          (grind (arith, block, length_joined bs full), grind (arith, block, length_joined bs full))

      pub last_within : at % size < length last
      last_within = omega (arith, within, last_place, length-append (joined_blocks bs) last)

      pub in_last : (x : X) → x ≡ slice_index_or last (at % size) x → x ≡ slice_index_or (joined_blocks bs ++ last) at x
      in_last x item = item ∙ rw (last_place.0) refl ∙ sym (get_or-append_right (joined_blocks bs) last (length (joined_blocks bs)) at x refl last_place.1)
