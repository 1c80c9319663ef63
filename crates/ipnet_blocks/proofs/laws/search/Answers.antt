use Rattle.ipnet_blocks.proofs.laws.search.Goals as goal
use Rattle.ipnet_blocks.proofs.Search.{search_is_maximal}

pub returns : goal.returns
returns c = search_is_maximal
