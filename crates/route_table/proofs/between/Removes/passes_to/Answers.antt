use Rattle.std.proofs.Common.{◌≡◌, ◌∙◌, sym, ap, subst}
use Rattle.std.specs.Ordering.{MatchOrdering}
use Rattle.ipnet_blocks.proofs.BlockLaws.{strict}
use Rattle.ipnet.specs.IpNets.{IsNetBefore, block}
use Rattle.route_laws.specs.LeastTables.{routes_for}
use Rattle.route_laws.specs.Tables.{IsTable, is_stored}
use Rattle.route_table.proofs.BetweenSteps.{is_truncated, not_there, passed_by, rest_comes}
use Rattle.route_table.proofs.between.Removes.passes_to.Goals as goal

pub loop-first-preserved : goal.loop-first-preserved
loop-first-preserved c =
    let p = c.in-Some.field-0-0.now in
    let n = c.args.net.now in
    let e = c.in-Some.ensures.cases.0 in
    let t = rest_comes c.loop-first.self.coming.now c.in-Some.rest.now p e c.loop-first.invariant.0 in
    let sooner = subst (λ o. MatchOrdering o (IsNetBefore p.0 n) (p.0 ≡ n) (IsNetBefore n p.0)) (sym c.in-Less.ensures) (c.network_order.ensures.either p.0 n) in
    let l = (c.network_blocks.ensures.ordered p.0 n t.1 (is_truncated n c.requires.truncated)).0 sooner in (
      t.0,
      c.loop-first.invariant.1,
      λ b f. passed_by p c.in-Some.rest.now n l b f ∙ ap (λ ys. is_stored (routes_for ys) b) (sym e) ∙ c.loop-first.invariant.2 b f,
    )

pub returns-in-Greater-clause-stored : goal.returns-in-Greater-clause-stored
returns-in-Greater-clause-stored c =
    let p = c.in-Some.field-0-0.now in
    let n = c.args.net.now in
    let e = c.in-Some.ensures.cases.0 in
    let t = rest_comes c.loop-first.self.coming.now c.in-Some.rest.now p e c.loop-first.invariant.0 in
    let later = subst (λ o. MatchOrdering o (IsNetBefore p.0 n) (p.0 ≡ n) (IsNetBefore n p.0)) (sym c.in-Greater.ensures) (c.network_order.ensures.either p.0 n) in
    let l = (c.network_blocks.ensures.ordered n p.0 (is_truncated n c.requires.truncated) t.1).0 later in
    not_there p c.in-Some.rest.now n (subst (λ ys. IsTable (routes_for ys)) e c.loop-first.invariant.0.table) l
    ∙ ap (λ ys. is_stored (routes_for ys) (block n)) (sym e) ∙ c.loop-first.invariant.2 (block n) (λ m. strict (block n) (block n) m m)
