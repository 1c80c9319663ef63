use Rattle.std.proofs.Common.{◌≡◌, refl, sym, ap, subst, ◌∙◌}
use Rattle.std.specs.FinMap.{get}
use Rattle.std.specs.Map.Calls.{MayWrite, ModifiesValue}
use Rattle.prefix_trie.specs.Entry.{entry_value}
use Rattle.prefix_trie.proofs.Written.{is_there, rest_kept, stored_after}
use Rattle.prefix_trie.proofs.entry.Entry.and_modify.Goals as goal

at_both : {X : Type 0} (P : X → X → Type 0) (p q a b : X) → p ≡ a → q ≡ b → P a b → P p q
at_both P p q a b x y h = subst (λ r. P r q) (sym x) (subst (P a) (sym y) h)

pub returns-in-Occupied-clause-update : goal.returns-in-Occupied-clause-update
returns-in-Occupied-clause-update g c =
    let u = c.f-in-Occupied.new.arg2 in
    let old = ap entry_value c.in-Occupied.is ∙ c.get_mut.ensures.value in
    let did : MayWrite g.F.FnOnce c.args.f c.get_mut.result.now u
    = record { lent = c.get_mut.result; result = c.f-in-Occupied.result; left = _; before = refl; met = c.f-in-Occupied.ensures; after = refl } in
    at_both (ModifiesValue g.F.FnOnce c.args.f) _ _ _ _ old (c.get_mut.ensures.written u).value did

pub returns-in-Occupied-clause-rest : goal.returns-in-Occupied-clause-rest
returns-in-Occupied-clause-rest g c = rw c.in-Occupied.is (rest_kept c.in-Occupied.entry.map.now (g.P.Prefix.bits c.in-Occupied.entry.key) _ c.f-in-Occupied.new.arg2 refl)

pub invariant_of-entry-clause-found : goal.invariant_of-entry-clause-found
invariant_of-entry-clause-found g c = stored_after c.in-Vacant.entry.map.now.entries c.path_of-path.result _ _ c.f.new.arg2 refl (sym c.path_of-path.ensures.value) ∙ sym c.if-not-entry.false

pub returns-else-not-entry-clause-update : goal.returns-else-not-entry-clause-update
returns-else-not-entry-clause-update g c =
    let m = c.in-Vacant.entry.map.now in
    let u = c.f.new.arg2 in
    let old = ap entry_value c.in-Vacant.is ∙ ap (get m.entries) (sym c.path_of-path.ensures.value) ∙ c.value_mut.ensures.value in
    let did : MayWrite g.F.FnOnce c.args.f c.value_mut.result.now u
    = record { lent = c.value_mut.result; result = c.f.result; left = _; before = refl; met = c.f.ensures; after = refl } in
    at_both (ModifiesValue g.F.FnOnce c.args.f) _ _ _ _ old (is_there m.entries c.path_of-path.result _ _ u refl (sym c.path_of-path.ensures.value)) did

pub returns-else-not-entry-clause-rest : goal.returns-else-not-entry-clause-rest
returns-else-not-entry-clause-rest g c = rw c.in-Vacant.is (rest_kept c.in-Vacant.entry.map.now (g.P.Prefix.bits c.in-Vacant.entry.key) c.path_of-path.result c.f.new.arg2 c.path_of-path.ensures.value)
