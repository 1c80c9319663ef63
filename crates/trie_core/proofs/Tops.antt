-- A list by its last element.
use Rattle.std.proofs.Common.{◌≡◌, ◌<◌, ◌-◌, ◌+◌, List, [], ◌∷◌, ◌++◌, length, take, sym, ap, ◌∙◌, slice_index_or, slice_set, length-take, take_all, arith}
use Rattle.std.proofs.Math.Seq.{set-append_seam}
use Rattle.std.proofs.lemmas.Grind.{take_at_read}

module _ {X : Type 0} where
  pub by_last : (xs : List X) (x : X) → 0 < length xs → x ≡ slice_index_or xs (length xs - 1) x → xs ≡ take (length xs - 1) xs ++ x ∷ []
  by_last xs x p e = sym (take_all (length xs - 1 + 1) xs (omega (arith, p))) ∙ (take_at_read xs (length xs - 1) x (omega (arith, p))).1 ∙ ap (λ y. take (length xs - 1) xs ++ y ∷ []) (sym e)

  -- with y in the place of the last
  pub last_set : (xs : List X) (x y : X) → 0 < length xs → x ≡ slice_index_or xs (length xs - 1) x → slice_set xs (length xs - 1) y ≡ take (length xs - 1) xs ++ y ∷ []
  last_set xs x y p e =
      let n : length xs - 1 ≡ length (take (length xs - 1) xs) = omega (arith, length-take (length xs - 1) xs) in
      (λ i. slice_set (by_last xs x p e i) (n i) y) ∙ set-append_seam (take (length xs - 1) xs) x [] y
