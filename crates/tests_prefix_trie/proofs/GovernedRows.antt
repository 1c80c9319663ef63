-- A worked row: the longest match of what a key governs.
use Rattle.std.proofs.Common.{◌≡◌, ◌<◌, ℕ, Bool, true, false, List, [], ◌∷◌, length, Some, None, cond, refl, ap, ◌∙◌, arith}
use Rattle.std.specs.FinMap.{empty, get, insert, get-empty, get-insert}
use Rattle.ipnet_blocks.specs.BitStrings.{begins, bits_cmp}
use Rattle.trie_core.specs.Nodes.{BitMap}
use Rattle.trie_core.specs.Search.{IsLongest}
use Rattle.trie_core.proofs.Strings.{bits_total, same}
use Rattle.prefix_trie.specs.Laws.{IsGoverned}
use Rattle.prefix_trie.proofs.Governed.{governed_match}

-- the keys 1 and 10
abbrev two : BitMap ℕ
two = insert (insert empty (true ∷ []) 1) (true ∷ false ∷ []) 2

at : (x : List Bool) → get two x ≡ cond (same x (true ∷ false ∷ [])) (Some 2) (cond (same x (true ∷ [])) (Some 1) None)
at x =
    get-insert bits_total (insert empty (true ∷ []) 1) (true ∷ false ∷ []) 2 x
    ∙ ap (λ o. cond (same x (true ∷ false ∷ [])) (Some 2) o) (get-insert bits_total empty (true ∷ []) 1 x ∙ ap (λ o. cond (same x (true ∷ [])) (Some 1) o) (get-empty bits_cmp x))

-- 1 governs 11
governs : IsGoverned two (true ∷ []) (true ∷ true ∷ [])
governs = record { inside = refl; free = free }
  where
    free : (k : List Bool) → 1 < length k → begins k (true ∷ true ∷ []) ≡ true → get two k ≡ None
    free [] l e = absurd (omega (arith, l))
    free (true ∷ []) l e = absurd (omega (arith, l))
    free (true ∷ true ∷ []) l e = at (true ∷ true ∷ [])
    free (true ∷ true ∷ b ∷ k) l e = absurd (cc)
    free (true ∷ false ∷ k) l e = absurd (cc)
    free (false ∷ k) l e = absurd (cc)

of_key : IsLongest two (true ∷ []) 1 1
of_key = record { within = omega arith; found = at (true ∷ []); longest = λ k lt le. absurd (omega (arith, lt, le)) }

-- so its longest match is 1
match_row : IsLongest two (true ∷ true ∷ []) 1 1
match_row = ((governed_match two (true ∷ []) (true ∷ true ∷ []) governs).0 1 1).1 of_key
