-- The frame of a branch below skipped levels, and the word of its path.
use Rattle.std.proofs.Common.{◌≡◌, ℕ, ◌+◌, ◌-◌, ◌*◌, ◌%◌, ◌^◌, ◌<◌, ◌≤◌, Bool, List, ◌∷◌, ◌++◌, length, take, refl, sym, ap, subst, ◌∙◌, pow_mono, pow-add, append_assoc, take_all, take_at, length-append, mod-eq_of_lt, mul-le-mul_right, add-mul, one-mul, arith}
use Rattle.std.specs.FinMap.{entries}
use Rattle.ipnet_blocks.specs.Blocks.{digits}
use Rattle.ipnet_blocks.proofs.Strings.{length-digits}
use Rattle.trie_core.specs.InnerPaths.{IsAligned}
use Rattle.trie_core.specs.InnerPlaces.{child_string, AllBelow}
use Rattle.trie_core.specs.Nodes.{Seen}
use Rattle.trie_core.specs.InnerNodes.{under}
use Rattle.trie_core.specs.InnerCount.{all_nodes}
use Rattle.trie_core.specs.InnerWalks.{Left, AreParts, part_map, levels_of, nodes_of}
use Rattle.trie_core.specs.InnerChains.{chain, skipped, chain_levels}
use Rattle.trie_core.specs.InnerOpened.{IsOpened}
use Rattle.trie_core.proofs.Frames.{part_rest, IsChildNext}
use Rattle.trie_core.proofs.Longer.{IsFollowed, followed, digits-append}
use Rattle.trie_core.proofs.Levels.{chain_rest, chain_nodes}

-- a number of five bits before those of skipped levels
pub number_below : (k child skip : ℕ) → child < 32 → skip < 2 ^ (5 * k) → child * 2 ^ (5 * k) + skip < 2 ^ (5 * k + 5)
number_below k child skip h l =
    let m = 2 ^ (5 * k) in
    let g : (child + 1) * m ≤ 32 * m = let s : child + 1 ≤ 32 = omega (arith, h) in mul-le-mul_right m s in
    omega (arith, g, add-mul child 1 m, one-mul m, l, pow-add 2 (5 * k) 5)

pub number_fits : (k child skip : ℕ) → k ≤ 5 → child < 32 → skip < 2 ^ (5 * k) → child * 2 ^ (5 * k) + skip < 2 ^ 32
number_fits k child skip h l s =
    let m : 2 ^ (5 * k + 5) ≤ 2 ^ 32 = pow_mono {i = 5 * k + 5} {j = 32} (omega (arith, h)) in
    omega (arith, number_below k child skip l s, m)

pub number_kept : (k child skip : ℕ) {x : ℕ} → k ≤ 5 → child < 32 → skip < 2 ^ (5 * k) → x ≡ child → x * 2 ^ (5 * k) % 2 ^ 32 + skip < 2 ^ 32
number_kept k child skip {x} h l s e =
    let z : x * 2 ^ (5 * k) % 2 ^ 32 ≡ child * 2 ^ (5 * k) = ap (λ i. i * 2 ^ (5 * k) % 2 ^ 32) e ∙ mod-eq_of_lt (omega (arith, number_fits k child skip h l s)) in
    omega (arith, z, number_fits k child skip h l s)

-- the word of the string followed by both, where y is their number as the code has it
pub went_down : (bits n k child skip : ℕ) {x y : ℕ} → IsAligned bits n → k ≤ 5 → child < 32 → skip < 2 ^ (5 * k) → n + (5 * k + 5) ≤ 128 → x ≡ child → y ≡ x * 2 ^ (5 * k) % 2 ^ 32 + skip → IsFollowed bits n (5 * k + 5) (child * 2 ^ (5 * k) + skip) (bits + y * 2 ^ (128 - (n + (5 * k + 5))) % 2 ^ 128)
went_down bits n k child skip {x} {y} a h l s r e f =
    let m = 5 * k + 5 in
    let z : y ≡ child * 2 ^ (5 * k) + skip = f ∙ ap (λ i. i * 2 ^ (5 * k) % 2 ^ 32 + skip) e ∙ ap (λ i. i + skip) (mod-eq_of_lt (omega (arith, number_fits k child skip h l s))) in
    subst (λ i. IsFollowed bits n m (child * 2 ^ (5 * k) + skip) (bits + i * 2 ^ (128 - (n + m)) % 2 ^ 128)) (sym z) (followed bits n m (child * 2 ^ (5 * k) + skip) a (number_below k child skip l s) r)

pub first_below : {Y : Type 0} {w p : ℕ} {y : Y} {ys zs : List (ℕ × Y)} → AllBelow w ys → ys ≡ (p, y) ∷ zs → p < w
first_below {w = w} b e = (subst (AllBelow w) e b).0

module _ {X : Type 0} where
  pub opened_rest : {vs : List (ℕ × X)} {cs ds : List (ℕ × Seen X)} {trail way : List Bool} {child : ℕ} {m : Seen X} {f : Left X} → IsChildNext vs cs ds trail child m → IsOpened trail child m f way → part_rest vs cs trail ≡ under way f.0 ++ part_rest vs ds trail
  opened_rest {vs} {ds = ds} {trail = trail} n o = n.rest ∙ ap (λ es. es ++ part_rest vs ds trail) (sym o.rest)

  pub opened_within : {m d : Seen X} {vs : List (ℕ × X)} {cs : List (ℕ × Seen X)} (n k skip : ℕ) → chain k (skipped k skip) d ≡ m → AreParts d vs cs → n + 5 * m.levels ≤ 125 → n + (5 * k + 5) ≤ 128
  opened_within {m} {d} n k skip v a l =
      let y : (chain k (skipped k skip) d).levels ≡ m.levels = ap (λ x. x.levels) v in
      omega (arith, y, chain_levels k (skipped k skip) d, a.levels, l)

  pub opened : {m d : Seen X} {vs : List (ℕ × X)} {cs : List (ℕ × Seen X)} {trail way : List Bool} {bits number : ℕ} (k skip child : ℕ) → chain k (skipped k skip) d ≡ m → skip < 2 ^ (5 * k) → AreParts d vs cs → bits ≡ 5 * k + 5 → number ≡ child * 2 ^ (5 * k) + skip → way ≡ trail ++ digits bits number
      → IsOpened trail child m (entries (part_map vs cs), levels_of cs + 1, 2 * nodes_of cs, bits) way
  unfolding child_string
  opened {m} {d} {vs} {cs} {trail} {way} {bits} {number} k skip child v h a b c w =
      let s = skipped k skip in
      let t = trail ++ child_string child in
      let l : length s ≡ 5 * k = length-digits (5 * k) skip in
      let z : bits ≡ 5 + 5 * k = omega (arith, b) in
      let e : way ≡ t ++ s = w ∙ ap (λ x. trail ++ x) ((λ i. digits (z i) (c i)) ∙ digits-append 5 (5 * k) child skip h) ∙ sym (append_assoc trail (child_string child) s) in
      let f : way ≡ t ++ take (5 * k) s = e ∙ ap (λ x. t ++ x) (sym (take_all (5 * k) s (omega (arith, l)))) in
      let n : length way ≡ length trail + bits = omega (arith, ap length w, length-append trail (digits bits number), length-digits bits number) in
      let j : length way - bits ≡ length trail = omega (arith, n) in
      let y : (chain k s d).levels ≡ m.levels = ap (λ x. x.levels) v in
      record {
        rest = (λ i. under (f i) (entries (a.map i))) ∙ sym (chain_rest k s t d (omega (arith, l))) ∙ ap (λ x. under t (entries x.entries)) v;
        positive = omega arith;
        fewer = omega (arith, y, chain_levels k s d, a.levels);
        reach = omega (arith, y, chain_levels k s d, a.levels, b);
        nodes = omega (arith, subst (λ x. all_nodes x ≡ all_nodes d + k) v (chain_nodes k s d), a.nodes);
        above = (λ i. take (j i) (w i)) ∙ take_at trail (digits bits number) (length trail) refl;
        longer = n;
      }
