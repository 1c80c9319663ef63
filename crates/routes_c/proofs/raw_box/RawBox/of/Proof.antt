-- A box taken apart: the call hands over the block.
use Rattle.routes_c.proofs.Steps.{◌≡◌, [], ◌∷◌, refl, proved, full_share, ftrue, flft, id⊢, tables, fact, ‵, raw, ◌⊛◌, some, later, ◌$◌, ◌∵◌, !, qed, move, keep, drop, use1, use2, done, join, split, fjoin, pick, await, suffices, enter, of_opd, fld, stop, and_then, no_more, returns, alloc_all, pass_all, free_all, look_at, get, get_in, sets, lands_as, agg, whole, sub, plain, nothing, owned, heard, Is, Stays, walk_of, says, stay_dropped, Goes-dropped, ends_at, to, calls_at, triple_of, framed, lft_new, facts, shows, only, lasts, rewrite, rawptr_Lawful, ptr_val, ap, sym, ◌∙◌, ◌++◌}
use Rattle.routes_c.proofs.HeldFields.{Box-row, LooseFields, RawBox-row, allocator_typed, box_vals, box_tells, box_typed, loose_fields_are, loose_fields_made, loose_typed, loose_vals}
use denote.Exit.{no}
use mir.Raw.{raw as raw_type}
use denote.Param.{layout, arg}
use denote.Param.Laws.{arg_laws}
use denote.RattleType.{RattleType}
use contract.BorrowLft.{◌⊑◌}
use mir.Syntax.{impl, tcons, tnil, dnil, Dict}
use Rattle.routes_c.specs.contracts.raw_box.RawBox.of as f
use Rattle.routes_c.proofs.raw_box.RawBox.of.Statement.{statement}
use Rattle.routes_c.proofs.raw_box.RawBox.of.Code as code
use Rattle.std_alloc.specs.contracts.boxed.Box.into_raw_with_allocator as g
use Rattle.std_alloc.proofs.boxed.Box.into_raw_with_allocator.Met.{met}
use Rattle.std_heap.specs.contracts.Global.{the_row as G}
use Rattle.std_heap.proofs.Global.TheLaws as global
use Rattle.std_heap.proofs.GlobalAllocator.TheImpl.Met.{passed}
use denote.Param.NoDrop.{glues, function}
use prog.Routine.{Env}
use prog.Wired.{Wired, node, end}
use Rattle.routes_c.proofs.Destruct++none.drop.Code as drop_code
use Rattle.routes_c.proofs.Destruct++none.drop.Symbol as no_drop
use contract.Monad.{fact_i}
use base.Logic.{emp}
use types.Kit.{use0}
use mir.Val.{vstruct, of_list}
use denote.Signature.{type_at}
use denote.Triple.Clauses.{Lasts}
use Rattle.std.specs.Box.Ownership.{box_owns}
use Rattle.std.specs.Global.{Global}
use Rattle.routes_c.specs.contracts.raw_box.RawBox.{the_type}
use Rattle.std_heap.specs.contracts.GlobalAllocator.TheImpl.{ghosts, dict}

abbrev stayed : (T : RattleType) (d : Dict) → Stays (f.ended T d).signature.params (f.ended T d).kept
stayed T d = (stay_dropped _ no, tt)

-- the allocator as a type argument, and its drop
abbrev A : RattleType
A = arg (raw_type (layout G)) no G

abbrev drops : Dict
drops = impl ("routes_c::Destruct++none::drop" ∷ []) (tcons (layout A) tnil) dnil

-- it is that of a type which needs none
drop_wired : (γ : Env) → Wired γ no_drop.code → Wired γ (node (("routes_c::Destruct++none::drop", function) ∷ []) [] end)
unfolding drop_code.code
drop_wired γ w = w

pub of_spec : {M : Type 1} → statement M
of_spec 𝓤 𝓛 𝓜 𝓡 wired T LT dT mT =
    let R = f.T-row T in let c = f.clauses T dT 𝓛 𝓜.mem 𝓡.returns in let W = walk_of 𝓛 (f.ended T dT) (stayed T dT) c in
    proved 𝓛 (f.ended T dT) (stayed T dT) c 𝓜 𝓡 (Goes-dropped 𝓛 1 (plain (λ _. Box-row R)) no (λ κs x w. refl), tt)
    _ _ (code.unfolded 𝓤 𝓛.H 𝓜 𝓡 wired (T, tt) dT)
    (λ κs. (box_vals R, tt)) (λ κs. (box_tells R, tt)) (λ κs qs bounds a n are.
    let y : W.Ghost = ((κs, qs, bounds, a, (box_vals R a.0, tt)), tt) in
    qed 𝓛 (((‵ (flft κs.0 qs.0) ⊛ ‵ ftrue) ⊛ ‵ ((Box-row R).own_val a.0 (box_vals R a.0)) ⊛ ‵ ftrue) ∷ (raw (fact 𝓤 (κs.0 ⊑ T.lives)) ⊛ ‵ ftrue) ∷ []) ∵
    move ! (1 ∷ []) $ split ! $ heard ! _ (λ within. drop ! $ split ! $ split ! $ move ! (2 ∷ []) $ split ! $ keep ! (2 ∷ 0 ∷ []) $
    enter ! _ _ _ _ _ $ alloc_all ! (λ l. pass_all ! refl (box_typed 𝓛 R a.0) $
    -- [the token; the box; the locals]
    sets ! (of_opd ! (get ! refl)) refl (box_typed 𝓛 R a.0).0 $
    lft_new ! tt (λ β.
    let C = triple_of 𝓛 (g.signature T A ghosts dict drops dT) (g.spec T A ghosts dict drops dT 𝓛 𝓜.mem 𝓡.returns) in
    let z : C.Ghost = (((κs.0, (β ∷ [], tt)), (qs.0, (full_share, tt)), tt, (a.0, tt), (box_vals R a.0, tt)), tt) in
    nothing ! $ move ! (1 ∷ 0 ∷ []) $ join ! $ move ! (1 ∷ 0 ∷ []) $ join ! $ nothing ! $ move ! (2 ∷ 0 ∷ []) $ join ! $ move ! (1 ∷ 0 ∷ []) $ join ! $
    nothing ! $ use0 𝓛 (raw (fact 𝓤 (β ∷ [] ⊑ G.lives))) (fact_i 𝓤 _ (emp 𝓤) (global.the_within (β ∷ []))) $ join ! $
    use0 𝓛 (raw (fact 𝓤 (κs.0 ⊑ T.lives))) (fact_i 𝓤 _ (emp 𝓤) within) $ join ! $
    move ! (1 ∷ 0 ∷ []) $ use2 𝓛 (raw (C.pre z)) (id⊢ 𝓤 _) $
    calls_at ! (framed 𝓤 𝓛.H 𝓜 (tables 𝓤 𝓛.H 𝓜 𝓡 𝓡.env)) C
    (met 𝓤 𝓛 𝓜 𝓡 (code.calls-std_alloc::boxed::Box::into_raw_with_allocator 𝓡.env wired) T A LT (arg_laws (raw_type (layout G)) no G global.the_row_laws refl) ghosts dict drops dT
    (passed 𝓡.env (code.calls-std_heap::GlobalAllocator::allocate 𝓡.env wired) (code.calls-std_heap::GlobalAllocator::deallocate 𝓡.env wired) (code.calls-std_heap::GlobalAllocator::grow 𝓡.env wired) (code.calls-std_heap::GlobalAllocator::shrink 𝓡.env wired) _ 𝓤 𝓛 𝓜 𝓡)
    (glues "routes_c::Destruct++none::drop" 𝓡.env (drop_wired 𝓡.env (code.calls-routes_c::Destruct++none::drop 𝓡.env wired)) A (arg_laws (raw_type (layout G)) no G global.the_row_laws refl) _ 𝓤 𝓛 𝓜 𝓡) mT)
    z (and_then ! (get ! refl) (no_more !)) (λ v.
    let V = type_at (g.signature T A ghosts dict drops dT).result z.0.0 in
    use1 𝓛 (later (some (λ (r : V.Denot). ((‵ (flft κs.0 qs.0) ⊛ ‵ (flft (β ∷ []) full_share) ⊛ ‵ ftrue) ⊛ ‵ (V.own_val r (v ∷ []))) ⊛
    some (λ (ws : Lasts (g.ended T A ghosts dict drops dT) z.0.0 z.0.3). ‵ (lasts (g.ended T A ghosts dict drops dT) z.0.0 z.0.3 ws)
    ⊛ raw (fact 𝓤 (r.1 ≡ a.0.alloc)) ⊛ ‵ (box_owns (ghosts.dealloc_token a.0.alloc) R r.0 a.0.value))))) (id⊢ 𝓤 _) $
    await ! tt $ pick ! (λ r. split ! $ split ! $ split ! $ move ! (2 ∷ []) $ facts ! V (Is V) (shows 𝓛 V) r (v ∷ []) (λ is.
    move ! (2 ∷ []) $ pick ! (λ ws. split ! $ drop ! $ split ! $ heard ! _ (λ same.
    -- [the value and its block; the token; the token of β; ..]
    let l : (RawBox-row R).Denot = record { at = r.0; alloc = r.1; value = a.0.value } in
    rewrite ! 0 (λ (h : Global). ‵ (box_owns (ghosts.dealloc_token h) R r.0 a.0.value)) (sym same) refl $
    lands_as ! (ap only (is.1.0 ∙ ap (λ us. vstruct (of_list (us ++ (is.0.1.0 ++ []))) ∷ []) is.1.1.0 ∙ ap (λ us. vstruct (of_list (ptr_val r.0 ∷ us ++ [])) ∷ []) (global.lowers.val_is r.1 is.0.1.0 is.1.1.1.0))) refl (loose_typed 𝓛 R l).0 $
    sets ! (of_opd ! (get_in ! (fld ! refl (stop !)) (sub ! 0 refl (whole !)))) refl ((rawptr_Lawful 𝓛).typed r.0 _ refl).0 $
    sets ! (of_opd ! (get_in ! (fld ! refl (stop !)) (sub ! 1 refl (whole !)))) refl (allocator_typed 𝓛 r.1).0 $
    sets ! (agg ! (and_then ! (get ! refl) (and_then ! (get ! refl) (no_more !)))) refl (loose_typed 𝓛 R l).0 $
    returns ! (look_at ! 0 refl) $ free_all ! refl $ keep ! (0 ∷ 1 ∷ []) $
    suffices ! _ (ends_at 𝓛 (f.ended T dT) (stayed T dT) c y _ l (tt, tt) (tt, tt)) $ says ! refl $
    owned ! (LooseFields R) (Is (LooseFields R)) (loose_fields_made 𝓛 R) (to (the_type R) l) (loose_vals R l) (loose_fields_are R l) $ fjoin ! $
    nothing ! $ nothing ! $ join ! $ nothing ! $ move ! (3 ∷ 0 ∷ []) $ join ! $ done !)))))))))
