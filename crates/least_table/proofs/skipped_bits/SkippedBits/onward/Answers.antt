use Rattle.std.proofs.Common.{◌≡◌, ◌+◌, ◌*◌, ◌/◌, ◌%◌, ◌-◌, ◌^◌, ◌<◌, ◌≤◌, ◌++◌, ◌∙◌, ℕ, List, Bool, ap, ap₂, arith, length, subst, sym}
use Rattle.std.proofs.Math.Facts.{Fits-of_lt}
use Rattle.ipnet_blocks.specs.Blocks.{digits}
use Rattle.trie_core.specs.Prefixes.{IsMasked}
use Rattle.trie_core.proofs.Aligned.{path_length}
use Rattle.trie_core.proofs.Longer.{IsFollowed, followed}
use Rattle.least_table.proofs.skipped_bits.SkippedBits.onward.Goals as goal

-- the word of a path with these bits after it
behind : (r n m x f : ℕ) (s t : List Bool) → n ≡ length s → digits m f ≡ t → x ≡ f → IsMasked 128 r (length s) → f < 2 ^ m → length s + length t ≤ 128 → IsFollowed r n m x (r + x * 2 ^ (128 - (n + m)) % 2 ^ 128)
behind r n m x f s t e v i k fb l = subst (λ y. IsFollowed r n m y (r + y * 2 ^ (128 - (n + m)) % 2 ^ 128)) (sym i)
    (followed r n m f (record { short = omega (arith, e, l); masked = subst (λ j. IsMasked 128 r j) (sym e) k }) fb (omega (arith, e, l, path_length {n = m} f v)))

pub overflow_sub-len : goal.overflow_sub-len
overflow_sub-len c = omega (arith, c.len.ensures, path_length {n = c.self.inside.levels} c.self.inside.bits c.self.view_is, c.requires.room)

pub overflow_add-to_bits : goal.overflow_add-to_bits
overflow_add-to_bits c = Fits-of_lt (behind c.to_bits.result c.len.result c.self.inside.levels c.from.result c.self.inside.bits c.args.path.now c.args.self.now c.len.ensures c.self.view_is c.from.ensures c.to_bits.ensures.masked c.self.invariant.1 c.requires.room).fits

pub new-requires : goal.new-requires
new-requires c = omega (arith, c.len.ensures, path_length {n = c.self.inside.levels} c.self.inside.bits c.self.view_is, c.requires.room)

pub returns : goal.returns
returns c =
    let r = c.to_bits.result in
    c.new.ensures
    ∙ (behind r c.len.result c.self.inside.levels c.from.result c.self.inside.bits c.args.path.now c.args.self.now c.len.ensures c.self.view_is c.from.ensures c.to_bits.ensures.masked c.self.invariant.1 c.requires.room).value
    ∙ ap₂ (λ us vs. us ++ vs) (ap (λ n. digits n (r / 2 ^ (128 - n))) c.len.ensures ∙ c.to_bits.ensures.bits) (ap (digits c.self.inside.levels) c.from.ensures ∙ c.self.view_is)
