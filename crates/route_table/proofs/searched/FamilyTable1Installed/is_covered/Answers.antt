use Rattle.std.proofs.Common.{◌≤◌, length, sym, subst}
use Rattle.ipnet_blocks.specs.Blocks.{IsBlock}
use Rattle.route_laws.specs.Networks.{routes_of}
use Rattle.route_table.specs.InnerGoverning.{GovernsNone}
use Rattle.route_table.proofs.Holes.{block_of_bits, covered_is}
use Rattle.route_table.proofs.FamilyTables.{routes_in_family}
use Rattle.route_table.proofs.Strings.{block_at_is_block}
use Rattle.route_laws.proofs.Networks.{routes_are_table}
use Rattle.route_table.proofs.searched.FamilyTable1Installed.is_covered.Goals as goal

pub prefix_of-requires : goal.prefix_of-requires
prefix_of-requires g c = subst (λ w. length c.args.block.now ≤ w) (sym g.met.P.FamilyNet.width_is) c.requires

pub governs_none-requires : goal.governs_none-requires
governs_none-requires g c =
    let s = c.args.block.now in
    subst IsBlock (sym (block_of_bits g.P.FamilyNet.family g.P.Prefix.of_bits g.P.FamilyNet.parts g.met.P.FamilyNet.parts_are s c.requires c.prefix_of.result c.prefix_of.ensures.key))
    (block_at_is_block g.P.FamilyNet.family s c.requires)

pub returns : goal.returns
returns g c =
    let f = g.P.FamilyNet.family in
    let s = c.args.block.now in
    let M = routes_of c.args.self.now in
    covered_is f M (routes_are_table c.args.self.now c.governs_none.ensures.side.table) (routes_in_family f c.args.self.now c.governs_none.ensures.side) s c.requires c.governs_none.result
    (subst (GovernsNone c.governs_none.result M) (block_of_bits f g.P.Prefix.of_bits g.P.FamilyNet.parts g.met.P.FamilyNet.parts_are s c.requires c.prefix_of.result c.prefix_of.ensures.key) c.governs_none.ensures.none)
