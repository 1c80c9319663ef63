use Rattle.std.proofs.Common.{◌∷◌, [], ◌∙◌, ap, arith, refl, subst, sym}
use Rattle.ipnet_addr.specs.Addresses.{Ipv4, Ipv6, rank, width}
use Rattle.ipnet_blocks.specs.Blocks.{Block, IsBlock, bit_string}
use Rattle.nearest_table.specs.Changed.{MakeNearest}
use Rattle.route_choices.specs.Choices.{default_preference}
use Rattle.route_choices.specs.Hops.{number_of}
use Rattle.route_laws.specs.Networks.{routes_of}
use Rattle.route_laws.specs.Tables.{route_of}
use Rattle.route_table.specs.InnerLeast.{entries_of}
use Rattle.route_table.proofs.FamilyTables.{both_families}
use Rattle.route_table.proofs.OneEdits.{changes, edits_here, edits_there}
use Rattle.route_table.proofs.PartBits.{part_four, part_six}
use Rattle.route_table.proofs.updates.HopTable.edits_of_change.Goals as goal

pub returns-in_ok-v4-in-V4 : goal.returns-in_ok-v4-in-V4
returns-in_ok-v4-in-V4 c =
    let old = c.self.inside in
    let r = route_of c.args.net.now c.args.hop default_preference in
    let ok = subst IsBlock c.in-V4.ensures.block c.in-V4.ensures.is_block in
    let f = ap (λ (b : Block). b.family) (sym c.in-V4.ensures.block) in
    let all = both_families old.v4 old.v6 c.args.self.now c.self.invariant c.self.view_is _ _ refl refl in
    let made = subst (λ (b : Block). MakeNearest (width Ipv4) ((bit_string b, number_of c.args.hop) ∷ []) (entries_of (routes_of old.v4)) c.in_ok-v4-in-V4.v4.items) c.in-V4.ensures.block c.in_ok-v4-in-V4.ensures.edits in
    record {
      changes = changes r ok c.in_ok-v4-in-V4.ensures.hop;
      both = record {
        table = all.table;
        ipv4 = edits_here r ok c.in_ok-v4-in-V4.ensures.hop Ipv4 _ _ _ f (part_four _ _ _ all) made c.in_ok-v4-in-V4.ensures.within;
        ipv6 = edits_there r ok c.in_ok-v4-in-V4.ensures.hop Ipv6 _ old.v6 _ (λ e. let q = ap rank (sym f ∙ e) in omega arith) (part_six _ _ _ all) c.self.invariant.1 c.new.ensures.items;
      };
    }

pub returns-in_ok-v6-in-V6 : goal.returns-in_ok-v6-in-V6
returns-in_ok-v6-in-V6 c =
    let old = c.self.inside in
    let r = route_of c.args.net.now c.args.hop default_preference in
    let ok = subst IsBlock c.in-V6.ensures.block c.in-V6.ensures.is_block in
    let f = ap (λ (b : Block). b.family) (sym c.in-V6.ensures.block) in
    let all = both_families old.v4 old.v6 c.args.self.now c.self.invariant c.self.view_is _ _ refl refl in
    let made = subst (λ (b : Block). MakeNearest (width Ipv6) ((bit_string b, number_of c.args.hop) ∷ []) (entries_of (routes_of old.v6)) c.in_ok-v6-in-V6.v6.items) c.in-V6.ensures.block c.in_ok-v6-in-V6.ensures.edits in
    record {
      changes = changes r ok c.in_ok-v6-in-V6.ensures.hop;
      both = record {
        table = all.table;
        ipv4 = edits_there r ok c.in_ok-v6-in-V6.ensures.hop Ipv4 _ old.v4 _ (λ e. let q = ap rank (sym f ∙ e) in omega arith) (part_four _ _ _ all) c.self.invariant.0 c.new-in-V6.ensures.items;
        ipv6 = edits_here r ok c.in_ok-v6-in-V6.ensures.hop Ipv6 _ _ _ f (part_six _ _ _ all) made c.in_ok-v6-in-V6.ensures.within;
      };
    }
