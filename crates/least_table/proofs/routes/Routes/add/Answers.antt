use Rattle.std.proofs.Common.{rules, ◌≡◌, ◌∷◌, [], ◌∙◌, ap, subst, sym, reverse, IfSome, IsTrue, ◌<◌, ◌^◌}
use Rattle.std.proofs.lemmas.List.{reverse-append}
use Rattle.std.proofs.lemmas.List.Elements.{All-cons}
use Rattle.std.proofs.lemmas.Result.{on_ok_weaker}
use Rattle.least_table.specs.InnerSteps.{AreNetworks}
use Rattle.least_table.proofs.routes.Routes.add.Goals as goal

pub returns-clause-networks : goal.returns-clause-networks
returns-clause-networks g c =
    let P = g.P.Prefix in
    let others = reverse c.self.inside.stack in
    on_ok_weaker c.push.result
    (λ e h. subst (AreNetworks P.fits P.of_bits P.bits) (sym (ap reverse e ∙ reverse-append c.self.inside.stack ((c.prefix_of.result, c.args.hop) ∷ [])))
    (All-cons (λ r. IsTrue (P.fits r.0) × (r.0 ≡ P.of_bits (P.bits r.0)) × IfSome r.1 (λ n. n < 2 ^ 32)) (c.prefix_of.result, c.args.hop) others
    (c.prefix_of.ensures.fits, c.prefix_of.ensures.key ∙ ap P.of_bits (sym c.prefix_of.ensures.bits), search rules) (subst (AreNetworks P.fits P.of_bits P.bits) (sym c.self.view_is) h))) c.push.ensures
