-- The conditions under which a route is refused.
use Rattle.std.specs.Prelude.{◌≡◌, true, List, []}
use Rattle.prefix_trie.specs.declared.refused.Refused.TheVariants.{Memory}
use Rattle.route_choices.specs.Choices.{Choice, is_one_too_many}
use Rattle.route_choices.specs.declared.hop.Hop.{Hop}
use Rattle.route_table.specs.declared.refused.AddRefused.{AddRefused}
use Rattle.route_table.specs.declared.refused.AddRefused.TheVariants.{Store, TooMany}

-- for a network with these choices: memory ran out, and it has none, so isn't stored; or eight other hops are stored
abbrev pub IsRefused : List Choice → Hop → AddRefused → Type 0
IsRefused cs h (Store why) = (why ≡ Memory) × (cs ≡ [])
IsRefused cs h TooMany = is_one_too_many cs h ≡ true
