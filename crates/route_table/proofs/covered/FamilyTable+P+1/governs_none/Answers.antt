use Rattle.std.proofs.Common.{◌≤◌, ◌∙◌, List, sym, ap, arith, subst}
use Rattle.ipnet_blocks.specs.Blocks.{first, last}
use Rattle.ipnet_blocks.specs.Networks.{block_of}
use Rattle.ipnet_addr.proofs.Ascending.{All-from_In}
use Rattle.ipnet_addr.proofs.Members.{In}
use Rattle.route_laws.specs.Networks.{routes_of}
use Rattle.route_laws.specs.Tables.{Route}
use Rattle.route_laws.proofs.Networks.{routes_are_table}
use Rattle.route_table.specs.InnerGoverning.{gaps}
use Rattle.route_table.proofs.Gaps.{block_in_family, gaps-after, gaps-before, gaps-none, gaps-short, head_within, rest_within}
use Rattle.route_table.proofs.Governings.{gap_governs, no_gap_governs, routes_end}
use Rattle.route_table.proofs.covered.FamilyTable+P+1.governs_none.Goals as goal

pub loop-len-init : goal.loop-len-init
loop-len-init g c =
    let n = block_of g.P.FamilyNet.family (g.P.FamilyNet.parts c.args.net) in
    let table = routes_are_table c.args.self.now c.list-inside.ensures.side.table in
    let is = block_in_family g.P.FamilyNet.family (g.P.FamilyNet.parts c.args.net) c.ip_net.result c.ip_net.ensures in
    let at = c.span-whole.ensures.first ∙ ap first is in
    let end = c.span-whole.ensures.last ∙ ap last is in
    let ends = λ (r : Route) (i : In r c.list-inside.result).
    routes_end (routes_of c.args.self.now) table n c.requires r (subst (λ (rs : List Route). In r rs) c.list-inside.ensures.routes i) in (
      c.span-whole.ensures.order,
      All-from_In (λ (r : Route). last r.block ≤ c.span-whole.result.last) c.list-inside.result (λ r i. let l = ends r i in omega (arith, l, end)),
      (λ i. gaps n.len (sym at i) (sym end i) (sym c.list-inside.ensures.routes i)),
    )

pub returns-then-at-route-clause-none : goal.returns-then-at-route-clause-none
returns-then-at-route-clause-none g c =
    let n = block_of g.P.FamilyNet.family (g.P.FamilyNet.parts c.args.net) in
    let table = routes_are_table c.args.self.now c.list-inside.ensures.side.table in
    gap_governs (routes_of c.args.self.now) table n c.requires _ _ (c.loop-len.invariant.2
    ∙ gaps-before n _ (g.met.P.FamilyNet.bits_are c.args.net) _ c.prefix_len.ensures.value c.loop-len.at c.span-whole.result.last _ _ _ c.in-Some.ensures
    (omega arith) (omega arith))

pub returns-then-route-whole-clause-none : goal.returns-then-route-whole-clause-none
returns-then-route-whole-clause-none g c =
    let n = block_of g.P.FamilyNet.family (g.P.FamilyNet.parts c.args.net) in
    let table = routes_are_table c.args.self.now c.list-inside.ensures.side.table in
    no_gap_governs (routes_of c.args.self.now) table n c.requires (c.loop-len.invariant.2
    ∙ gaps-none n _ (g.met.P.FamilyNet.bits_are c.args.net) _ c.prefix_len.ensures.value c.loop-len.at c.span-whole.result.last _ _ _ c.in-Some.ensures
    (omega arith) (omega arith) (omega arith))

pub overflow_add-route : goal.overflow_add-route
overflow_add-route g c =
    let within = head_within c.span-whole.result.last c.loop-len.inside _ c.in-Some.ensures.0 c.in-Some.ensures.1 c.loop-len.invariant.1 in
    omega (arith, c.in-Some.ensures.4, c.span-whole.ensures.fits, within)

pub loop-len-preserved-then-len-prefix_len : goal.loop-len-preserved-then-len-prefix_len
loop-len-preserved-then-len-prefix_len g c =
    let n = block_of g.P.FamilyNet.family (g.P.FamilyNet.parts c.args.net) in
    let within = head_within c.span-whole.result.last c.loop-len.inside _ c.in-Some.ensures.0 c.in-Some.ensures.1 c.loop-len.invariant.1 in
    let on = gaps-after n _ (g.met.P.FamilyNet.bits_are c.args.net) _ c.prefix_len.ensures.value c.loop-len.at c.span-whole.result.last _ _ _ c.in-Some.ensures
    (omega arith) (omega arith) (omega (arith, within, c.in-Some.ensures.4)) in (
      omega (arith, within, c.in-Some.ensures.4, c.loop-len.invariant.0),
      rest_within c.span-whole.result.last c.loop-len.inside _ c.in-Some.ensures.0 c.in-Some.ensures.1 c.loop-len.invariant.1,
      c.loop-len.invariant.2 ∙ on ∙ ap (λ k. gaps n.len k c.span-whole.result.last c.next_span.new.routes) (sym c.max-at.ensures),
    )

pub loop-len-preserved : goal.loop-len-preserved
loop-len-preserved g c =
    let n = block_of g.P.FamilyNet.family (g.P.FamilyNet.parts c.args.net) in (
      c.loop-len.invariant.0,
      rest_within c.span-whole.result.last c.loop-len.inside _ c.in-Some.ensures.0 c.in-Some.ensures.1 c.loop-len.invariant.1,
      c.loop-len.invariant.2
          ∙ gaps-short n _ (g.met.P.FamilyNet.bits_are c.args.net) _ c.prefix_len.ensures.value c.loop-len.at c.span-whole.result.last _ _ _ c.in-Some.ensures (omega arith),
    )

pub returns-clause-none : goal.returns-clause-none
returns-clause-none g c =
    let n = block_of g.P.FamilyNet.family (g.P.FamilyNet.parts c.args.net) in
    let table = routes_are_table c.args.self.now c.list-inside.ensures.side.table in
    let none = ap (gaps n.len c.loop-len.at c.span-whole.result.last) c.in_default.ensures.0 in
    gap_governs (routes_of c.args.self.now) table n c.requires _ _ (c.loop-len.invariant.2 ∙ none)
