-- The pointer has its type again. What the handle owned is what the parts own, since it has one.
use Rattle.routes_c.proofs.Steps.{[], ◌∷◌, refl, Option, proved, ftrue, fact, ‵, raw, ◌⊛◌, ◌$◌, ◌∵◌, !, qed, move, keep, done, join, split, fsplit, fjoin, rewrite, suffices, enter, of_opd, fld, stop, and_then, no_more, returns, alloc_all, pass_all, free_all, look_at, get, get_in, sets, agg, whole, sub, yes, rawptr_Lawful, plain, nothing, owned, heard, Is, Stays, walk_of, says, stay_dropped, Goes-dropped, ends_at, to}
use Rattle.routes_c.proofs.HeldFields.{LooseFields, RawBox-row, allocator_typed, held_vals, held_tells, held_typed, loose_fields_are, loose_fields_made, loose_typed, loose_vals, taken}
use Rattle.routes_c.specs.BoxedContent.{held_owns}
use Rattle.routes_c.specs.contracts.boxed_content.BoxedContent.into_raw_box as f
use Rattle.routes_c.specs.contracts.boxed_content.BoxedContent.{the_row as H}
use Rattle.routes_c.specs.contracts.raw_box.RawBox.{the_type}
use Rattle.routes_c.specs.contracts.content.Content.{the_row as S}
use Rattle.routes_c.proofs.boxed_content.BoxedContent.into_raw_box.Statement.{statement}
use Rattle.routes_c.proofs.boxed_content.BoxedContent.into_raw_box.Code as code

abbrev stayed : Stays f.ended.signature.params f.ended.kept
stayed = (stay_dropped _ yes, tt)

pub into_raw_box_spec : {M : Type 1} → statement M
into_raw_box_spec 𝓤 𝓛 𝓜 𝓡 wired =
    let c = f.clauses 𝓛 𝓜.mem 𝓡.returns in let W = walk_of 𝓛 f.ended stayed c in
    proved 𝓛 f.ended stayed c 𝓜 𝓡 (Goes-dropped 𝓛 0 (plain (λ _. H)) yes (λ κs x w. refl), tt)
    f.Key.name code.function (code.unfolded 𝓤 𝓛.H 𝓜 𝓡 wired)
    (λ κs. (held_vals, tt)) (λ κs. (held_tells, tt)) (λ κs qs bounds a n are.
    let h = a.0 in
    let y : W.Ghost = ((κs, qs, bounds, a, (held_vals h, tt)), tt) in
    qed 𝓛 ((‵ ftrue ⊛ ‵ (H.own_val h (held_vals h)) ⊛ ‵ ftrue) ∷ raw (fact 𝓤 _) ∷ []) ∵
    move ! (1 ∷ []) $ heard ! _ (λ has. let s = taken h.content has in
    let l : (RawBox-row S).Denot = record { at = h.at; alloc = h.alloc; value = s.0 } in
    split ! $ move ! (1 ∷ []) $ split ! $ fsplit ! $ keep ! (1 ∷ []) $
    rewrite ! 0 (λ (o : Option S.Denot). ‵ (held_owns h.alloc h.at o)) s.1 refl $
    enter ! _ _ _ _ _ $ alloc_all ! (λ b. pass_all ! refl (held_typed 𝓛 h) $
    -- [the content and its block; the locals]
    sets ! (of_opd ! (get_in ! (fld ! refl (stop !)) (sub ! 0 refl (whole !)))) refl ((rawptr_Lawful 𝓛).typed h.at _ refl).0 $
    sets ! (of_opd ! (get_in ! (fld ! refl (stop !)) (sub ! 1 refl (whole !)))) refl (allocator_typed 𝓛 h.alloc).0 $
    sets ! (of_opd ! (get ! refl)) refl ((rawptr_Lawful 𝓛).typed h.at _ refl).0 $
    sets ! (agg ! (and_then ! (get ! refl) (and_then ! (get ! refl) (no_more !)))) refl (loose_typed 𝓛 S l).0 $
    returns ! (look_at ! 0 refl) $ free_all ! refl $
    suffices ! _ (ends_at 𝓛 f.ended stayed c y _ l (tt, tt) (tt, tt)) $ says ! s.1 $
    owned ! (LooseFields S) (Is (LooseFields S)) (loose_fields_made 𝓛 S) (to (the_type S) l) (loose_vals S l) (loose_fields_are S l) $ fjoin ! $
    nothing ! $ nothing ! $ join ! $ nothing ! $ done !)))
