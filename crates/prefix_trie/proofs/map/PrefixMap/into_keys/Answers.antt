use Rattle.std.proofs.Common.{ap, ◌∙◌, map}
use Rattle.prefix_trie.proofs.map.PrefixMap.into_keys.Goals as goal

pub returns : goal.returns
returns g c = c.of_entries.ensures ∙ ap (map (λ e. e.0)) c.into_iter.ensures.into_iter_gives
