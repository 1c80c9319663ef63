use Rattle.std.proofs.Common.{◌≡◌, ◌∙◌, ◌≤◌, ap, sym, subst, take, length, ℕ, Bool, true, IsTrue, nat_eq, ◌↔◌, arith}
use Rattle.std.proofs.lemmas.Bool.Decides.{nat_tests}
use Rattle.trie_core.specs.Bits.{number_from}
use Rattle.ipnet_blocks.specs.BitStrings.{begins}
use Rattle.trie_core.specs.Prefixes.{prefix_bits}
use Rattle.ipnet_blocks.proofs.BitStrings.{begins_take}
use Rattle.prefix_trie.proofs.Cleared.{begins_by_numbers}
use Rattle.trie_core.proofs.Masked.{take-prefix_bits}
use Rattle.prefix_trie.proofs.prefix.Prefix.contains.Goals as goal

same : (a b : ℕ) (t : Bool) → (a ≡ b → t ≡ true) × (t ≡ true → a ≡ b) → IsTrue (nat_eq a b) ↔ IsTrue t
same a b t f = (λ h. f.0 (grind (arith, nat_tests)), λ h. let e = f.1 h in grind (arith, nat_tests))

pub returns-then-len-prefix_len : goal.returns-then-len-prefix_len
returns-then-len-prefix_len g c =
    let p = g.Self.Prefix.bits c.args.self.now in
    let q = g.Self.Prefix.bits c.args.other.now in
    let w = g.Self.R.Key.width in
    let fits : length p ≤ w = subst (λ n. n ≤ w) c.prefix_len-len.ensures.value (c.prefix_len-len.ensures.within c.requires.fits) in
    let other_fits : length q ≤ w = subst (λ n. n ≤ w) c.prefix_len.ensures.value (c.prefix_len.ensures.within c.requires.other_fits) in
    let l : length (g.Self.Prefix.bits c.args.self.now) ≤ length (g.Self.Prefix.bits c.args.other.now) = grind (arith, nat_tests, c.if-len-prefix_len.true, c.prefix_len-len.ensures.value, c.prefix_len.ensures.value) in
    let cut = ap (λ n. prefix_bits w (g.Self.R.Key.number c.repr.result) n) c.prefix_len-len.ensures.value ∙ sym (take-prefix_bits w (g.Self.R.Key.number c.repr.result) (length q) (length p) other_fits l) ∙ ap (take (length p)) c.repr.ensures in
    let a = c.to_bits.ensures.value ∙ c.masked_key.ensures.number ∙ ap (number_from w) cut in
    let b = c.to_bits-then-len-prefix_len.ensures.value ∙ c.mask.ensures.number in
    let t = begins_by_numbers w p q fits l in
    same c.to_bits.result c.to_bits-then-len-prefix_len.result (begins p q) (λ e. t.0 (sym a ∙ e ∙ b), λ e. a ∙ t.1 e ∙ sym b)

pub returns-else-len-prefix_len : goal.returns-else-len-prefix_len
returns-else-len-prefix_len g c = (
  λ h. let z : ⊥ = grind (arith, nat_tests, c.if-len-prefix_len.false) in absurd z,
  λ h. let l = (begins_take (g.Self.Prefix.bits c.args.self.now) (g.Self.Prefix.bits c.args.other.now) h).0 in grind (arith, nat_tests, l, c.prefix_len-len.ensures.value, c.prefix_len.ensures.value),
)
