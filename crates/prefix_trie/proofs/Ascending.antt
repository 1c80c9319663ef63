-- The order of bit strings is that of the numbers that they begin, and then of their lengths.
use Rattle.std.proofs.Common.{◌≡◌, ℕ, zero, suc, ◌<◌, ◌≤◌, ◌↔◌, inl, inr, ⊎_elim, Bool, true, false, List, [], ◌∷◌, length, refl, Less, arith}
use Rattle.ipnet_blocks.specs.BitStrings.{begins, bits_cmp}
use Rattle.trie_core.proofs.Numbers.{number_bound}
use Rattle.prefix_trie.specs.Laws.{IsSooner, PrefixesAscend}

earlier_from_sooner : (w : ℕ) (s t : List Bool) → length s ≤ w → length t ≤ w → IsSooner w s t → bits_cmp s t ≡ Less
earlier_from_sooner w s [] h k (inl l) = absurd (omega arith)
earlier_from_sooner w s [] h k (inr l) = absurd (let m = l.1 in omega arith)
earlier_from_sooner w [] (b ∷ t) h k l = refl
earlier_from_sooner zero (a ∷ s) (b ∷ t) h k l = absurd (omega arith)
earlier_from_sooner (suc w) (false ∷ s) (true ∷ t) h k l = refl
earlier_from_sooner (suc w) (true ∷ s) (false ∷ t) h k l =
    let i = number_bound w t in
    absurd (⊎_elim (λ m. omega arith) (λ m. let n = m.0 in omega arith) l)
earlier_from_sooner (suc w) (false ∷ s) (false ∷ t) h k l = earlier_from_sooner w s t (omega arith) (omega arith) (grind arith)
earlier_from_sooner (suc w) (true ∷ s) (true ∷ t) h k l = earlier_from_sooner w s t (omega arith) (omega arith) (grind arith)

sooner_from_earlier : (w : ℕ) (s t : List Bool) → length s ≤ w → length t ≤ w → bits_cmp s t ≡ Less → IsSooner w s t
sooner_from_earlier w [] [] h k e = absurd (cc)
sooner_from_earlier w (a ∷ s) [] h k e = absurd (cc)
sooner_from_earlier w [] (b ∷ t) h k e = grind arith
sooner_from_earlier zero (a ∷ s) (b ∷ t) h k l = absurd (omega arith)
sooner_from_earlier (suc w) (false ∷ s) (true ∷ t) h k e = let i = number_bound w s in inl (omega arith)
sooner_from_earlier (suc w) (true ∷ s) (false ∷ t) h k e = absurd (cc)
sooner_from_earlier (suc w) (false ∷ s) (false ∷ t) h k e = let i = sooner_from_earlier w s t (omega arith) (omega arith) e in grind arith
sooner_from_earlier (suc w) (true ∷ s) (true ∷ t) h k e = let i = sooner_from_earlier w s t (omega arith) (omega arith) e in grind arith

pub strings_ascend : (w : ℕ) (s t : List Bool) → length s ≤ w → length t ≤ w → (bits_cmp s t ≡ Less) ↔ IsSooner w s t
strings_ascend w s t h k = (sooner_from_earlier w s t h k, earlier_from_sooner w s t h k)

-- ---- prefixes of one string

shorter_from_earlier : (q s t : List Bool) → begins s q ≡ true → begins t q ≡ true → bits_cmp s t ≡ Less → length s < length t
shorter_from_earlier q [] [] h k e = absurd (cc)
shorter_from_earlier q (a ∷ s) [] h k e = absurd (cc)
shorter_from_earlier q [] (b ∷ t) h k e = omega arith
shorter_from_earlier [] (a ∷ s) (b ∷ t) h k e = absurd (cc)
shorter_from_earlier (false ∷ q) (true ∷ s) (b ∷ t) h k e = absurd (cc)
shorter_from_earlier (false ∷ q) (false ∷ s) (true ∷ t) h k e = absurd (cc)
shorter_from_earlier (true ∷ q) (false ∷ s) (b ∷ t) h k e = absurd (cc)
shorter_from_earlier (true ∷ q) (true ∷ s) (false ∷ t) h k e = absurd (cc)
shorter_from_earlier (false ∷ q) (false ∷ s) (false ∷ t) h k e = let l = shorter_from_earlier q s t h k e in omega arith
shorter_from_earlier (true ∷ q) (true ∷ s) (true ∷ t) h k e = let l = shorter_from_earlier q s t h k e in omega arith

earlier_from_shorter : (q s t : List Bool) → begins s q ≡ true → begins t q ≡ true → length s < length t → bits_cmp s t ≡ Less
earlier_from_shorter q s [] h k l = absurd (omega arith)
earlier_from_shorter q [] (b ∷ t) h k l = refl
earlier_from_shorter [] (a ∷ s) (b ∷ t) h k l = absurd (cc)
earlier_from_shorter (false ∷ q) (true ∷ s) (b ∷ t) h k l = absurd (cc)
earlier_from_shorter (false ∷ q) (false ∷ s) (true ∷ t) h k l = refl
earlier_from_shorter (true ∷ q) (false ∷ s) (b ∷ t) h k l = absurd (cc)
earlier_from_shorter (true ∷ q) (true ∷ s) (false ∷ t) h k l = absurd (cc)
earlier_from_shorter (false ∷ q) (false ∷ s) (false ∷ t) h k l = earlier_from_shorter q s t h k (omega arith)
earlier_from_shorter (true ∷ q) (true ∷ s) (true ∷ t) h k l = earlier_from_shorter q s t h k (omega arith)

pub prefixes_ascend : PrefixesAscend
prefixes_ascend q s t h k = (shorter_from_earlier q s t h k, earlier_from_shorter q s t h k)
