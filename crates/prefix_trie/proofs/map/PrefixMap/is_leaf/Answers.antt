use Rattle.std.proofs.Common.{◌∙◌, ◌++◌, ◌∷◌, ap, subst, List, Bool, IsTrue, ◌↔◌}
use Rattle.std.specs.FinMap.{get, get-empty}
use Rattle.ipnet_blocks.specs.BitStrings.{bits_cmp}
use Rattle.trie_core.specs.Inside.{NothingInside}
use Rattle.prefix_trie.specs.Seen.{SeenMap}
use Rattle.prefix_trie.proofs.map.PrefixMap.is_leaf.Goals as goal

pub returns-clause-all : goal.returns-clause-all
returns-clause-all g c =
    subst (λ (q : List Bool). IsTrue c.is_leaf.result ↔ (NothingInside c.args.self.now.entries q × NothingInside c.args.self.now.spares q)) c.path_of.ensures.value
    (subst (λ (m : SeenMap _). IsTrue c.is_leaf.result ↔ (NothingInside m.entries c.path_of.result × NothingInside m.spares c.path_of.result)) c.self.view_is c.is_leaf.ensures)

pub returns-clause-tidy : goal.returns-clause-tidy
returns-clause-tidy g c e =
    let a = returns-clause-all g c in
    (λ t. (a.0 t).0, λ f. a.1 (f, λ b k. ap (λ s. get s (g.P.Prefix.bits c.args.prefix.now ++ b ∷ k)) e ∙ get-empty bits_cmp (g.P.Prefix.bits c.args.prefix.now ++ b ∷ k)))
