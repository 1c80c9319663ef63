-- A handle without a content: a null pointer, which owns nothing.
use Rattle.routes_c.proofs.Steps.{[], ◌∷◌, refl, None, proved, ftrue, ‵, raw, ◌$◌, ◌∵◌, !, qed, drop, done, join, fjoin, suffices, enter, lit, and_then, no_more, returns, alloc_all, pass_all, free_all, look_at, get, sets, agg, yes, null_ptr, plain, nothing, owned, on_entry, Is, Stays, walk_of, says, stay_dropped, Goes-dropped, ends_at, to}
use Rattle.routes_c.proofs.HeldFields.{Fields, allocator_typed, fields_are, fields_made, fields_typed}
use Rattle.std_heap.specs.contracts.Global.{the_row as G}
use Rattle.std_heap.proofs.Global.TheLaws as global
use Rattle.routes_c.specs.contracts.boxed_content.BoxedContent.none as f
use Rattle.routes_c.specs.contracts.boxed_content.BoxedContent.{the_type}
use Rattle.routes_c.specs.declared.boxed_content.BoxedContent.{BoxedContent}
use Rattle.routes_c.proofs.boxed_content.BoxedContent.TheLaws as laws
use Rattle.routes_c.proofs.boxed_content.BoxedContent.none.Statement.{statement}
use Rattle.routes_c.proofs.boxed_content.BoxedContent.none.Code as code

abbrev stayed : Stays f.ended.signature.params f.ended.kept
stayed = (stay_dropped _ yes, tt)

pub none_spec : {M : Type 1} → statement M
none_spec 𝓤 𝓛 𝓜 𝓡 wired =
    let c = f.clauses 𝓛 𝓜.mem 𝓡.returns in let W = walk_of 𝓛 f.ended stayed c in
    proved 𝓛 f.ended stayed c 𝓜 𝓡 (Goes-dropped 𝓛 0 (plain (λ _. G)) yes (λ κs x w. refl), tt)
    f.Key.name code.function (code.unfolded 𝓤 𝓛.H 𝓜 𝓡 wired)
    (λ κs. ((λ g. global.lowered g ∷ []), tt)) (λ κs. (global.lowers.val_is, tt)) (λ κs qs bounds a n are.
    let h : BoxedContent = record { at = null_ptr; alloc = a.0; content = None } in
    let y : W.Ghost = ((κs, qs, bounds, a, (global.lowered a.0 ∷ [], tt)), tt) in
    qed 𝓛 (raw (on_entry 𝓛 f.signature κs qs a y.0.4) ∷ ‵ ftrue ∷ []) ∵ drop ! $ drop ! $
    enter ! _ _ _ _ _ $ alloc_all ! (λ l. pass_all ! refl (allocator_typed 𝓛 a.0) $
    sets ! (agg ! (and_then ! (lit ! tt) (and_then ! (get ! refl) (no_more !)))) refl (fields_typed 𝓛 h).0 $
    returns ! (look_at ! 0 refl) $ free_all ! refl $
    suffices ! _ (ends_at 𝓛 f.ended stayed c y (laws.lowered h) h (tt, tt) (tt, tt)) $ says ! refl $
    nothing ! $ owned ! Fields (Is Fields) (fields_made 𝓛) (to the_type h) (laws.lowered h ∷ []) (fields_are h) $ fjoin ! $
    nothing ! $ nothing ! $ join ! $ nothing ! $ done !))
