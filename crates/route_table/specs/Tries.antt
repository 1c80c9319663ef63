-- The map of one family of a table, from bit strings to the choices of networks.
use Rattle.std.specs.Prelude.{List, map, filter}
use Rattle.std.specs.FinMap.{from_entries}
use Rattle.ipnet_addr.specs.Addresses.{Family, same_family}
use Rattle.ipnet_blocks.specs.Blocks.{bit_string}
use Rattle.trie_core.specs.Nodes.{BitMap}
use Rattle.route_choices.specs.Choices.{Choice}
use Rattle.route_laws.specs.Networks.{Stored}

-- the networks of a family: each one's choices at its bit string
unfoldable pub map_of : Family → List Stored → BitMap (List Choice)
map_of f T = from_entries (map (λ s. (bit_string s.block, s.choices)) (filter (λ s. same_family s.block.family f) T))
