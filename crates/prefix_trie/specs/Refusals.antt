-- The condition under which a map has no room left.
use Rattle.prefix_trie.specs.Seen.{SeenMap}

-- no map is out of room, since each node owns its lists
abbrev pub no_room : {X : Type 0} → SeenMap X → Type 0
no_room m = ⊥
