use Rattle.std.proofs.Common.{◌≡◌, ◌≤◌, ◌<◌, ◌-◌, ◌*◌, ◌/◌, ◌%◌, ◌^◌, ◌∙◌, ℕ, ap, subst, length, List, Bool, arith}
use Rattle.ipnet_blocks.specs.Blocks.{digits}
use Rattle.trie_core.specs.Prefixes.{prefix_bits}
use Rattle.prefix_trie.proofs.Cleared.{at_top}
use Rattle.prefix_trie.proofs.prefix.path_of.Goals as goal

-- the path of a key at the top, from the facts of the calls
top_path : (w' w r b n : ℕ) (bits path : List Bool) → w' ≡ w → w' ≤ 128 → b ≡ r → b < 2 ^ w → n ≡ length bits → length bits ≤ w → path ≡ digits n (b * 2 ^ (128 - w') % 2 ^ 128 / 2 ^ (128 - n)) → prefix_bits w r (length bits) ≡ bits → path ≡ bits
top_path w' w r b n bits path e h f g k l p q =
    p ∙ (λ i. digits (k i) (f i * 2 ^ (128 - e i) % 2 ^ 128 / 2 ^ (128 - k i))) ∙ ap (digits (length bits)) (at_top w r (length bits) (subst (λ x. x < 2 ^ w) f g) (omega arith) l) ∙ q

pub returns-clause-value : goal.returns-clause-value
returns-clause-value g c = top_path c.width-width.result g.P.R.Key.width (g.P.R.Key.number c.repr.result) c.to_bits.result c.prefix_len.result (g.P.Prefix.bits c.args.prefix.now) c.new.result c.width-width.ensures.value c.width-width.ensures.within c.to_bits.ensures.value c.to_bits.ensures.below c.prefix_len.ensures.value (subst (λ n. n ≤ g.P.R.Key.width) c.prefix_len.ensures.value (c.prefix_len.ensures.within c.requires)) c.new.ensures c.repr.ensures

pub returns-clause-width : goal.returns-clause-width
returns-clause-width g c = omega (arith, ap length (returns-clause-value g c), c.prefix_len.ensures.value, c.prefix_len.ensures.within c.requires)

pub returns-clause-within : goal.returns-clause-within
returns-clause-within g c = omega (arith, returns-clause-width g c, c.width-width.ensures.value, c.width-width.ensures.within)
