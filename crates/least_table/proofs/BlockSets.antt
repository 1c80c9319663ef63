-- Sets that are kept stay what they are while others are added.
use Rattle.std.proofs.Common.{◌≡◌, ℕ, suc, ◌+◌, ◌/◌, ◌%◌, ◌<◌, ◌≤◌, ⊎_elim, List, [], ◌∷◌, ◌++◌, length, map, drop, slice_index_or, slice_set, Option, Some, None, sym, ap, ◌∙◌, length-append, Global, Vec, arith, refl}
use Rattle.std.proofs.lemmas.Bool.{cases_eq}
use Rattle.std.proofs.lemmas.List.{drop-append-le, get_or-map, get_or-set_other, get_or-set_same, get_or_append_left, length-drop, length-map, map-set, take-append-le, take_all}
use Rattle.std.proofs.Math.Seq.{get_or-append_seam}
use Rattle.least_table.specs.InnerSets.{HasSet, KeepsSets, block_of_set, set_at, set_in, size_in, size_of}

abbrev Stands : List (Option ℕ) → ℕ → Type 0
Stands block place = suc place + size_in block place ≤ length block

-- a set stays as its block grows
front : (block more : List (Option ℕ)) (place : ℕ) → Stands block place → Stands (block ++ more) place × (set_in (block ++ more) place ≡ set_in block place)
front block more place h =
    let size : size_in (block ++ more) place ≡ size_in block place = ap size_of (get_or_append_left block more None place (omega (arith, h))) in (
      omega (arith, h, size, length-append block more),
      rw (size, drop-append-le (suc place) block more (omega (arith, h))) (take-append-le (size_in block place) (drop (suc place) block) more (omega (arith, h, length-drop (suc place) block))),
    )

-- the set that a block grew by
here : (block hops : List (Option ℕ)) (n : ℕ) → n ≡ length hops → Stands (block ++ Some n ∷ hops) (length block) × (set_in (block ++ Some n ∷ hops) (length block) ≡ hops)
here block hops n e = (omega (arith, ap size_of (get_or-append_seam block (Some n) hops None), length-append block (Some n ∷ hops), e), set_here block)
  where
    set_here : (block : List (Option ℕ)) → set_in (block ++ Some n ∷ hops) (length block) ≡ hops
    set_here [] = take_all n hops (omega (arith, e))
    set_here (s ∷ block) = set_here block

keeps_longer : (sets : List (List (Option ℕ))) (i : ℕ) → i < length sets → (more : List (Option ℕ)) → KeepsSets sets (slice_set sets i (slice_index_or sets i [] ++ more))
keeps_longer sets i within more at h = ⊎_elim
    (λ e.
    let was : block_of_set sets at ≡ slice_index_or sets i [] = rw e refl in
    let is : block_of_set (slice_set sets i (slice_index_or sets i [] ++ more)) at ≡ slice_index_or sets i [] ++ more = rw e (get_or-set_same sets i (slice_index_or sets i [] ++ more) [] within) in
    rw (is, was) (front (slice_index_or sets i []) more (at % 512) (rw was at h)))
    (λ n. rw (get_or-set_other sets i (at / 512) (slice_index_or sets i [] ++ more) [] n) (h, refl))
    (cases_eq (at / 512) i)

-- a set is added at the end of a block
module _ (blocks : List (Vec (Option ℕ) Global)) (i : ℕ) (block new : Vec (Option ℕ) Global) (hops : List (Option ℕ)) (n : ℕ)
    (within : i < length blocks) (is : block ≡ slice_index_or blocks i block) (grown : new.items ≡ block.items ++ Some n ∷ hops) where
  abbrev all : List (Vec (Option ℕ) Global) → List (List (Option ℕ))
  all = map (λ b. b.items)

  was : slice_index_or (all blocks) i [] ≡ block.items
  was = get_or-map (λ (b : Vec (Option ℕ) Global). b.items) blocks i block [] within ∙ ap (λ (b : Vec (Option ℕ) Global). b.items) (sym is)

  changed : all (slice_set blocks i new) ≡ slice_set (all blocks) i (slice_index_or (all blocks) i [] ++ Some n ∷ hops)
  changed = map-set (λ (b : Vec (Option ℕ) Global). b.items) blocks i new ∙ rw (was, grown) refl

  inside : i < length (all blocks)
  inside = omega (arith, within, length-map blocks (λ (b : Vec (Option ℕ) Global). b.items))

  pub keeps_appended : KeepsSets (all blocks) (all (slice_set blocks i new))
  keeps_appended = rw changed (keeps_longer (all blocks) i inside (Some n ∷ hops))

  pub has_appended : (at : ℕ) → at / 512 ≡ i → at % 512 ≡ length block.items → n ≡ length hops → HasSet (all (slice_set blocks i new)) at × (set_at (all (slice_set blocks i new)) at ≡ hops)
  has_appended at e p size = rw (changed, e, get_or-set_same (all blocks) i (slice_index_or (all blocks) i [] ++ Some n ∷ hops) [] inside, was, p) (here block.items hops n size)
