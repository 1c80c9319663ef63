use Rattle.std.proofs.Common.{rules, ◌≡◌, ◌∙◌, List, [], ◌∷◌, sym, ap, subst, if◌then◌else◌, arith}
use Rattle.ipnet_addr.specs.Addresses.{Address, IsAddress}
use Rattle.ipnet_blocks.specs.Blocks.{Block, IsBlock, has_address}
use Rattle.ipnet_blocks.proofs.Search.{left_is_block, right_is_block}
use Rattle.ipnet.specs.IpNets.{block}
use Rattle.ipnet.specs.declared.ip_net.IpNet.{IpNet}
use Rattle.route_choices.specs.Choices.{default_preference}
use Rattle.route_choices.specs.Hops.{IsHop, number_of}
use Rattle.route_choices.specs.declared.hop.Hop.{Hop}
use Rattle.route_laws.specs.Networks.{Stored, IsStoredTable, choices_at, overwritten_by, routes_of}
use Rattle.route_laws.specs.Tables.{hop_at, route_of}
use Rattle.route_laws.proofs.Networks.{routes_are_table}
use Rattle.route_laws.proofs.Overwritten.{leaf_overwritten, networks_placed, over_hops, room_inside, halves_overwritten, routes_overwritten}
use Rattle.route_table.proofs.Outcomes.{when_err}
use Rattle.route_table.proofs.table.Table.overwrite.Goals as goal

-- the hops of a table that was overwritten
over : (T U : List Stored) (net : IpNet) (hop : Hop) → U ≡ overwritten_by T (block net) (record { hop = hop; pref = default_preference }) → IsStoredTable T → IsBlock (block net) → IsHop hop
    → (x : Address) → IsAddress x → hop_at (routes_of U) x ≡ (if has_address (block net) x then number_of hop else hop_at (routes_of T) x)
over T U net hop is table ok in_range x a =
    ap (λ T. hop_at (routes_of T) x) is
    ∙ ap (λ M. hop_at M x) (routes_overwritten T (block net) (record { hop = hop; pref = default_preference }))
    ∙ over_hops _ (routes_are_table _ table) (route_of net hop default_preference) ok in_range x a

pub returns-in_err-is_leaf-clause-absent : goal.returns-in_err-is_leaf-clause-absent
returns-in_err-is_leaf-clause-absent g c = when_err c.from_residual.result (ap (choices_at c.args.self.now) (sym c.cleared-net.ensures.block) ∙ c.in_err-is_leaf.ensures.absent)

pub halves-requires : goal.halves-requires
halves-requires g c = omega (arith, room_inside _ c.in_ok-is_leaf.ensures.tables.1 (block c.cleared-net.result) c.cleared-net.ensures.is_block _ c.in_ok-is_leaf.ensures.leaf c.if-not-is_leaf.true)

pub returns-then-not-is_leaf-clause-networks : goal.returns-then-not-is_leaf-clause-networks
returns-then-not-is_leaf-clause-networks g c =
    let new : Stored = record { block = block c.cleared-net.result; choices = record { hop = c.args.hop; pref = default_preference } ∷ [] } in
    halves_overwritten Stored.block c.args.self.now (networks_placed c.args.self.now c.in_ok-is_leaf.ensures.tables.0) new c.cleared-net.ensures.is_block (room_inside _ c.in_ok-is_leaf.ensures.tables.1 (block c.cleared-net.result) c.cleared-net.ensures.is_block _ c.in_ok-is_leaf.ensures.leaf c.if-not-is_leaf.true)
    c.halves.result.0 c.halves.result.1 c.halves.ensures.lower c.halves.ensures.upper _ _ _ c.in_ok-is_leaf.ensures.networks c.remove_inside.ensures.networks c.remove_inside-then-not-is_leaf.ensures.networks
    ∙ ap (λ (b : Block). overwritten_by c.args.self.now b (record { hop = c.args.hop; pref = default_preference })) c.cleared-net.ensures.block

pub returns-then-not-is_leaf-clause-hops : goal.returns-then-not-is_leaf-clause-hops
returns-then-not-is_leaf-clause-hops g c = over _ _ _ _ (returns-then-not-is_leaf-clause-networks g c) c.in_ok-is_leaf.ensures.tables.0 (subst IsBlock c.cleared-net.ensures.block c.cleared-net.ensures.is_block) c.in_ok-is_leaf.ensures.hop

pub returns-else-not-is_leaf-clause-networks : goal.returns-else-not-is_leaf-clause-networks
returns-else-not-is_leaf-clause-networks g c =
    let new : Stored = record { block = block c.cleared-net.result; choices = record { hop = c.args.hop; pref = default_preference } ∷ [] } in
    leaf_overwritten c.args.self.now c.in_ok-is_leaf.ensures.tables.0 new c.cleared-net.ensures.is_block _ c.in_ok-is_leaf.ensures.networks (c.in_ok-is_leaf.ensures.leaf.0 c.if-not-is_leaf.false)
    ∙ ap (λ (b : Block). overwritten_by c.args.self.now b (record { hop = c.args.hop; pref = default_preference })) c.cleared-net.ensures.block

pub returns-else-not-is_leaf-clause-hops : goal.returns-else-not-is_leaf-clause-hops
returns-else-not-is_leaf-clause-hops g c = over _ _ _ _ (returns-else-not-is_leaf-clause-networks g c) c.in_ok-is_leaf.ensures.tables.0 (subst IsBlock c.cleared-net.ensures.block c.cleared-net.ensures.is_block) c.in_ok-is_leaf.ensures.hop

pub remove_inside-requires : goal.remove_inside-requires
remove_inside-requires g c =
    let room = room_inside _ c.in_ok-is_leaf.ensures.tables.1 (block c.cleared-net.result) c.cleared-net.ensures.is_block _ c.in_ok-is_leaf.ensures.leaf c.if-not-is_leaf.true in
    (search rules, subst IsBlock (sym c.halves.ensures.lower) (left_is_block (block c.cleared-net.result) c.cleared-net.ensures.is_block room))

pub remove_inside-requires-then-not-is_leaf : goal.remove_inside-requires-then-not-is_leaf
remove_inside-requires-then-not-is_leaf g c =
    let room = room_inside _ c.in_ok-is_leaf.ensures.tables.1 (block c.cleared-net.result) c.cleared-net.ensures.is_block _ c.in_ok-is_leaf.ensures.leaf c.if-not-is_leaf.true in
    (search rules, subst IsBlock (sym c.halves.ensures.upper) (right_is_block (block c.cleared-net.result) c.cleared-net.ensures.is_block room))
