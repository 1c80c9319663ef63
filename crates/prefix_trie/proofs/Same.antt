-- Bit strings compared by their numbers, and entries stored one after another.
use Rattle.std.proofs.Common.{◌≡◌, ℕ, ◌≤◌, Bool, List, [], ◌∷◌, ◌++◌, length, nat_eq, Decides, refl, sym, ap, subst, ◌∙◌}
use Rattle.std.specs.FinMap.{insert}
use Rattle.std.proofs.lemmas.Bool.Decides.{same_from_decides, Decides-eqb}
use Rattle.trie_core.specs.Bits.{number_from}
use Rattle.trie_core.specs.Prefixes.{prefix_bits, IsMasked}
use Rattle.trie_core.proofs.Strings.{same, same-Decides}
use Rattle.trie_core.proofs.Masked.{masked_number}
use Rattle.trie_core.specs.Nodes.{BitMap}
use Rattle.prefix_trie.specs.Made.{inserted}

numbers_by : (xs ys : List Bool) (a b n : ℕ) → n ≤ 128 → prefix_bits 128 a n ≡ xs → prefix_bits 128 b n ≡ ys → IsMasked 128 a n → IsMasked 128 b n → Decides (nat_eq a b) (xs ≡ ys)
numbers_by xs ys a b n h e f l m =
    let d = Decides-eqb a b in (
      λ t. sym e ∙ ap (λ x. prefix_bits 128 x n) (d.0 t) ∙ f,
      λ t. d.1 (sym (masked_number 128 a n h l) ∙ ap (number_from 128) (e ∙ t ∙ sym f) ∙ masked_number 128 b n h m),
    )

-- strings of one length are the same where their numbers are
pub same_numbers : (xs ys : List Bool) (a b : ℕ) → length xs ≤ 128 → length xs ≡ length ys → prefix_bits 128 a (length xs) ≡ xs → prefix_bits 128 b (length ys) ≡ ys → IsMasked 128 a (length xs) → IsMasked 128 b (length ys) → nat_eq a b ≡ same xs ys
same_numbers xs ys a b h k e f l m =
    same_from_decides (nat_eq a b) (same xs ys) (numbers_by xs ys a b (length xs) h e (ap (prefix_bits 128 b) k ∙ f) l (subst (λ n. IsMasked 128 b n) (sym k) m)) (same-Decides xs ys)

-- one entry more
pub inserted_last : {K X : Type 0} (bits : K → List Bool) (m : BitMap X) (es : List (K × X)) (e : K × X) → inserted bits m (es ++ e ∷ []) ≡ insert (inserted bits m es) (bits e.0) e.1
inserted_last bits m [] e = refl
inserted_last bits m (d ∷ es) e = inserted_last bits (insert m (bits d.0) d.1) es e
