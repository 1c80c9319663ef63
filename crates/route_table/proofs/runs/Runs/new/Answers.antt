use Rattle.std.proofs.Common.{◌≡◌, ◌∙◌, None, Option, [], map, ap, arith, subst, sym, false, nat_le}
use Rattle.std.proofs.lemmas.Bool.{cond-true, le-leb}
use Rattle.ipnet_addr.proofs.Ascending.{In-from_All, Rising-from_pairs}
use Rattle.ipnet_blocks.specs.Blocks.{IsBlock}
use Rattle.route_laws.specs.Tables.{Route}
use Rattle.route_table.specs.InnerRouteSpans.{Run}
use Rattle.route_table.specs.InnerRunning.{IsAtHand, from_on, over, route_span_of, topmost}
use Rattle.route_table.proofs.Painted.{greatest, greatest_key, placed_first}
use Rattle.route_table.proofs.RunSteps.{hops_are, placed_as}
use Rattle.route_laws.proofs.Alterations.{Sooner}
use Rattle.route_table.proofs.runs.Runs.new.Goals as goal

pub returns-clause-runs : goal.returns-clause-runs
returns-clause-runs g c =
    let rs = c.args.rest in
    let f = g.P.FamilyNet.family in
    let end = c.greatest.result in
    let v = c.advance.new.self in
    let p = placed_first f end rs (Rising-from_pairs Sooner rs c.requires.routes.ascending)
    (λ r i. (In-from_All (λ (s : Route). IsBlock s.block) rs c.requires.routes.blocks r i, In-from_All (λ (s : Route). s.block.family ≡ f) rs c.requires.family r i))
    (greatest f end (greatest_key f g.P.R.Key.width end g.met.P.FamilyNet.width_is c.greatest.ensures)) in
    record {
      placed = placed_as v 0 end [] (map route_span_of rs) (c.advance.ensures.at ∙ c.of.ensures) c.advance.ensures.end (ap (λ s. s.items) c.advance.ensures.stack ∙ c.new.ensures) c.advance.ensures.next p;
      hand = subst (λ (o : Option Run). IsAtHand o v.done v.at v.end) (sym c.advance.ensures.run) tt;
    }

pub returns-clause-end : goal.returns-clause-end
returns-clause-end g c = c.advance.ensures.end ∙ greatest_key g.P.FamilyNet.family g.P.R.Key.width c.greatest.result g.met.P.FamilyNet.width_is c.greatest.ensures

pub returns-clause-hops : goal.returns-clause-hops
returns-clause-hops g c x =
    let rs = c.args.rest in
    let v = c.advance.new.self in
    let hops = hops_are v false 0 [] (map route_span_of rs) c.advance.ensures.done (c.advance.ensures.at ∙ c.of.ensures) (ap (λ s. s.items) c.advance.ensures.stack ∙ c.new.ensures) c.advance.ensures.next in
    ap (λ h. h x) hops ∙ ap (λ (o : Option Run). over o (from_on false 0 (topmost None (map route_span_of rs)) x) x) c.advance.ensures.run ∙ cond-true (nat_le 0 x) (topmost None (map route_span_of rs) x) None (le-leb 0 x (omega arith))
