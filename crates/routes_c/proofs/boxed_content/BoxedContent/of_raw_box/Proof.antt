-- The pointer's type changes, and its value doesn't: what the parts owned is what the handle owns.
use Rattle.routes_c.proofs.Steps.{[], ◌∷◌, refl, Some, proved, ftrue, ‵, ◌⊛◌, ◌$◌, ◌∵◌, !, qed, move, keep, done, join, split, fsplit, fjoin, suffices, enter, of_opd, fld, stop, and_then, no_more, returns, alloc_all, pass_all, free_all, look_at, get, get_in, sets, agg, whole, sub, yes, rawptr_Lawful, plain, nothing, owned, Is, Stays, walk_of, says, stay_dropped, Goes-dropped, ends_at, to}
use Rattle.routes_c.proofs.HeldFields.{Fields, RawBox-row, allocator_typed, fields_are, fields_made, fields_typed, loose_vals, loose_tells, loose_typed}
use Rattle.routes_c.specs.contracts.boxed_content.BoxedContent.of_raw_box as f
use Rattle.routes_c.specs.contracts.boxed_content.BoxedContent.{the_type}
use Rattle.routes_c.specs.contracts.content.Content.{the_row as S}
use Rattle.routes_c.specs.declared.boxed_content.BoxedContent.{BoxedContent}
use Rattle.routes_c.proofs.boxed_content.BoxedContent.TheLaws as laws
use Rattle.routes_c.proofs.boxed_content.BoxedContent.of_raw_box.Statement.{statement}
use Rattle.routes_c.proofs.boxed_content.BoxedContent.of_raw_box.Code as code

abbrev stayed : Stays f.ended.signature.params f.ended.kept
stayed = (stay_dropped _ yes, tt)

pub of_raw_box_spec : {M : Type 1} → statement M
of_raw_box_spec 𝓤 𝓛 𝓜 𝓡 wired =
    let c = f.clauses 𝓛 𝓜.mem 𝓡.returns in let W = walk_of 𝓛 f.ended stayed c in
    proved 𝓛 f.ended stayed c 𝓜 𝓡 (Goes-dropped 𝓛 0 (plain (λ _. RawBox-row S)) yes (λ κs x w. refl), tt)
    f.Key.name code.function (code.unfolded 𝓤 𝓛.H 𝓜 𝓡 wired)
    (λ κs. (loose_vals S, tt)) (λ κs. (loose_tells S, tt)) (λ κs qs bounds a n are.
    let h : BoxedContent = record { at = a.0.at; alloc = a.0.alloc; content = Some a.0.value } in
    let y : W.Ghost = ((κs, qs, bounds, a, (loose_vals S a.0, tt)), tt) in
    qed 𝓛 ((‵ ftrue ⊛ ‵ ((RawBox-row S).own_val a.0 (loose_vals S a.0)) ⊛ ‵ ftrue) ∷ ‵ ftrue ∷ []) ∵
    split ! $ move ! (1 ∷ []) $ split ! $ fsplit ! $ keep ! (1 ∷ []) $
    enter ! _ _ _ _ _ $ alloc_all ! (λ l. pass_all ! refl (loose_typed 𝓛 S a.0) $
    -- [the content and its block; the locals]
    sets ! (of_opd ! (get_in ! (fld ! refl (stop !)) (sub ! 0 refl (whole !)))) refl ((rawptr_Lawful 𝓛).typed a.0.at _ refl).0 $
    sets ! (of_opd ! (get_in ! (fld ! refl (stop !)) (sub ! 1 refl (whole !)))) refl (allocator_typed 𝓛 a.0.alloc).0 $
    sets ! (of_opd ! (get ! refl)) refl ((rawptr_Lawful 𝓛).typed a.0.at _ refl).0 $
    sets ! (agg ! (and_then ! (get ! refl) (and_then ! (get ! refl) (no_more !)))) refl (fields_typed 𝓛 h).0 $
    returns ! (look_at ! 0 refl) $ free_all ! refl $
    suffices ! _ (ends_at 𝓛 f.ended stayed c y (laws.lowered h) h (tt, tt) (tt, tt)) $ says ! refl $
    owned ! Fields (Is Fields) (fields_made 𝓛) (to the_type h) (laws.lowered h ∷ []) (fields_are h) $ fjoin ! $
    nothing ! $ nothing ! $ join ! $ nothing ! $ done !))
