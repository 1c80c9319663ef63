use Rattle.std.proofs.Common.{◌≡◌, ◌∙◌, ap, sym, arith}
use Rattle.std.specs.FinMap.{len, len-empty, empty_of_len}
use Rattle.std.proofs.lemmas.Bool.Decides.{nat_tests}
use Rattle.ipnet_blocks.specs.BitStrings.{bits_cmp}
use Rattle.prefix_trie.proofs.map.PrefixMap.is_empty.Goals as goal

pub returns : goal.returns
returns g c =
    let l = c.self.invariant.entries_counted ∙ ap (λ m. len m.entries) c.self.view_is in (
      λ h. let z : c.self.inside.len ≡ 0 = grind (arith, nat_tests) in empty_of_len _ (sym l ∙ z),
      λ e. let z : c.self.inside.len ≡ 0 = l ∙ ap len e ∙ len-empty bits_cmp _ in grind (arith, nat_tests),
    )
