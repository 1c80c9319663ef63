use Rattle.route_table.proofs.FamilyMap.{empty_is_stored, empty_side}
use Rattle.route_table.proofs.family_table.FamilyTable.new.Goals as goal

pub invariant_of-result : goal.invariant_of-result
invariant_of-result g c = (empty_is_stored _ _ c.in_ok-new.ensures.map, c.in_ok-new.ensures.tidy, c.requires.some, c.requires.few)

pub returns-clause-networks : goal.returns-clause-networks
returns-clause-networks g c = empty_side _ _ c.in_ok-new.ensures.map
