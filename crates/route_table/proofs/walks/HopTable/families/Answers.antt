use Rattle.route_table.proofs.walks.HopTable.families.Goals as goal

pub returns : goal.returns
returns c = rw (c.v4.ensures, c.v6.ensures) c.sides-v4.ensures
