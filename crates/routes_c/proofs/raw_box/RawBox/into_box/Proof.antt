-- The box made again: the call takes the block that the parts own.
use Rattle.routes_c.proofs.Steps.{◌≡◌, [], ◌∷◌, refl, sym, proved, full_share, ftrue, flft, id⊢, tables, fact, ‵, raw, ◌⊛◌, some, later, at_ret, ◌$◌, ◌∵◌, !, qed, move, keep, drop, use1, use2, done, join, split, fsplit, pick, await, suffices, enter, of_opd, fld, stop, and_then, no_more, blocks, first, exec, returns, alloc_all, pass_all, free_all, look_at, get, get_in, sets, lands_last, env, whole, sub, RawPtr, rawptr_Makes, rawptr_Lawful, ptr_val, plain, nothing, owned, heard, peeks, shows, lasts, Is, Stays, walk_of, says, stay_dropped, Goes-dropped, ends_at, calls_at_last, triple_of, framed, lft_new}
use Rattle.routes_c.proofs.HeldFields.{Box-row, RawBox-row, allocator_is, allocator_made, allocator_typed, box_tells, box_typed, loose_tells, loose_typed, loose_vals}
use denote.Exit.{no}
use denote.Laws.{Typed}
use denote.Param.{layout, arg}
use denote.Param.Laws.{arg_laws}
use denote.Param.NoDrop.{glues, function}
use denote.RattleType.{RattleType}
use denote.Triple.Clauses.{Lasts}
use contract.BorrowLft.{◌⊑◌}
use contract.Monad.{fact_i}
use base.Logic.{emp}
use types.Kit.{use0}
use mir.Raw.{raw as raw_type}
use mir.Syntax.{impl, tcons, tnil, Dict, dnil}
use prog.Routine.{Env}
use prog.Wired.{Wired, node, end}
use Rattle.std.proofs.Common.{subst}
use Rattle.routes_c.specs.contracts.raw_box.RawBox.into_box as f
use Rattle.routes_c.proofs.raw_box.RawBox.into_box.Statement.{statement}
use Rattle.routes_c.proofs.raw_box.RawBox.into_box.Code as code
use Rattle.routes_c.proofs.Destruct++none.drop.Code as drop_code
use Rattle.routes_c.proofs.Destruct++none.drop.Symbol as no_drop
use Rattle.std_alloc.specs.contracts.boxed.Box.from_raw as g
use Rattle.std_alloc.proofs.boxed.Box.from_raw.Met.{met}
use Rattle.std_heap.specs.contracts.Global.{the_row as G}
use Rattle.std_heap.specs.contracts.GlobalAllocator.TheImpl.{ghosts, dict}
use Rattle.std_heap.proofs.Global.TheLaws as global
use Rattle.std_heap.proofs.GlobalAllocator.TheImpl.Met.{passed}

abbrev stayed : (T : RattleType) (d : Dict) → Stays (f.ended T d).signature.params (f.ended T d).kept
stayed T d = (stay_dropped _ no, tt)

-- the allocator as a type argument, and its drop
abbrev A : RattleType
A = arg (raw_type (layout G)) no G

abbrev drops : Dict
drops = impl ("routes_c::Destruct++none::drop" ∷ []) (tcons (layout A) tnil) dnil

-- it is that of a type which needs none
drop_wired : (γ : Env) → Wired γ no_drop.code → Wired γ (node (("routes_c::Destruct++none::drop", function) ∷ []) [] end)
unfolding drop_code.code
drop_wired γ w = w

pub into_box_spec : {M : Type 1} → statement M
into_box_spec 𝓤 𝓛 𝓜 𝓡 wired T LT dT mT =
    let R = f.T-row T in let c = f.clauses T dT 𝓛 𝓜.mem 𝓡.returns in let W = walk_of 𝓛 (f.ended T dT) (stayed T dT) c in
    let 𝓣 = tables 𝓤 𝓛.H 𝓜 𝓡 𝓡.env in
    proved 𝓛 (f.ended T dT) (stayed T dT) c 𝓜 𝓡 (Goes-dropped 𝓛 1 (plain (λ _. RawBox-row R)) no (λ κs x w. refl), tt)
    _ _ (code.unfolded 𝓤 𝓛.H 𝓜 𝓡 wired (T, tt) dT)
    (λ κs. (loose_vals R, tt)) (λ κs. (loose_tells R, tt)) (λ κs qs bounds a n are.
    let l = a.0 in
    let y : W.Ghost = ((κs, qs, bounds, a, (loose_vals R l, tt)), tt) in
    qed 𝓛 (((‵ (flft κs.0 qs.0) ⊛ ‵ ftrue) ⊛ ‵ ((RawBox-row R).own_val l (loose_vals R l)) ⊛ ‵ ftrue) ∷ (raw (fact 𝓤 (κs.0 ⊑ T.lives)) ⊛ ‵ ftrue) ∷ []) ∵
    move ! (1 ∷ []) $ split ! $ heard ! _ (λ within. drop ! $ split ! $ split ! $ move ! (2 ∷ []) $ split ! $ fsplit ! $ keep ! (1 ∷ 3 ∷ []) $
    enter ! _ _ _ _ _ $ alloc_all ! (λ b. pass_all ! refl (loose_typed 𝓛 R l) $
    -- [the value and its block; the token; the locals]
    sets ! (of_opd ! (get_in ! (fld ! refl (stop !)) (sub ! 0 refl (whole !)))) refl ((rawptr_Lawful 𝓛).typed l.at _ refl).0 $
    sets ! (of_opd ! (get_in ! (fld ! refl (stop !)) (sub ! 1 refl (whole !)))) refl (allocator_typed 𝓛 l.alloc).0 $
    first ! $ blocks ! $ move ! (1 ∷ []) $ lft_new ! tt (λ β.
    let C = triple_of 𝓛 (g.signature T A ghosts dict drops) (g.spec T A ghosts dict drops 𝓛 𝓜.mem 𝓡.returns) in
    let z : C.Ghost = (((κs.0, (β ∷ [], tt)), (qs.0, (full_share, tt)), tt, (l.alloc, (l.at, tt)), (global.lowered l.alloc ∷ [], (ptr_val l.at ∷ [], tt))), l.value) in
    nothing ! $ move ! (1 ∷ 0 ∷ []) $ join ! $ move ! (1 ∷ 0 ∷ []) $ join ! $
    nothing ! $ owned ! RawPtr (Is RawPtr) (rawptr_Makes 𝓛) l.at (ptr_val l.at ∷ []) refl $ join ! $
    owned ! G (Is G) (allocator_made 𝓛) l.alloc (global.lowered l.alloc ∷ []) (allocator_is l.alloc) $ join ! $ move ! (1 ∷ 0 ∷ []) $ join ! $
    move ! (1 ∷ []) $ use0 𝓛 (raw (fact 𝓤 (β ∷ [] ⊑ G.lives))) (fact_i 𝓤 _ (emp 𝓤) (global.the_within (β ∷ []))) $ join ! $
    use0 𝓛 (raw (fact 𝓤 (κs.0 ⊑ T.lives))) (fact_i 𝓤 _ (emp 𝓤) within) $ join ! $
    move ! (1 ∷ 0 ∷ []) $ use2 𝓛 (raw (C.pre z)) (id⊢ 𝓤 _) $
    calls_at_last ! (framed 𝓤 𝓛.H 𝓜 𝓣) C
    (met 𝓤 𝓛 𝓜 𝓡 (code.calls-std_alloc::boxed::Box::from_raw 𝓡.env wired) T A LT (arg_laws (raw_type (layout G)) no G global.the_row_laws refl) ghosts dict drops
    (passed 𝓡.env (code.calls-std_heap::GlobalAllocator::allocate 𝓡.env wired) (code.calls-std_heap::GlobalAllocator::deallocate 𝓡.env wired) (code.calls-std_heap::GlobalAllocator::grow 𝓡.env wired) (code.calls-std_heap::GlobalAllocator::shrink 𝓡.env wired) _ 𝓤 𝓛 𝓜 𝓡)
    (glues "routes_c::Destruct++none::drop" 𝓡.env (drop_wired 𝓡.env (code.calls-routes_c::Destruct++none::drop 𝓡.env wired)) A (arg_laws (raw_type (layout G)) no G global.the_row_laws refl) _ 𝓤 𝓛 𝓜 𝓡))
    z (and_then ! (get ! refl) (and_then ! (get ! refl) (no_more !))) (λ v.
    use1 𝓛 (later (some (λ (r : (Box-row R).Denot). ((‵ (flft κs.0 qs.0) ⊛ ‵ (flft (β ∷ []) full_share) ⊛ ‵ ftrue) ⊛ ‵ ((Box-row R).own_val r (v ∷ []))) ⊛
    some (λ (ws : Lasts (g.ended T A ghosts dict drops) z.0.0 z.0.3). ‵ (lasts (g.ended T A ghosts dict drops) z.0.0 z.0.3 ws)
    ⊛ raw (fact 𝓤 (r.value ≡ l.value)) ⊛ raw (fact 𝓤 (r.alloc ≡ l.alloc)))))) (id⊢ 𝓤 _) $
    await ! tt $ pick ! (λ r. split ! $ split ! $ split ! $ move ! (2 ∷ []) $ peeks ! (Box-row R) (Is (Box-row R)) (shows 𝓛 (Box-row R)) r (v ∷ []) (λ is.
    let typed = subst (λ us. Typed (Box-row R).mir us) (sym (box_tells R r (v ∷ []) is)) (box_typed 𝓛 R r) in
    move ! (3 ∷ []) $ pick ! (λ ws. split ! $ drop ! $ split ! $ heard ! _ (λ same. drop ! $
    -- [the box; the token; the token of β; ..]
    lands_last ! refl typed.0 $
    exec ! 𝓣.C 𝓣.Λ (env code.Mir.locals b) code.Mir.t-4 (at_ret _ (W.post y)) $
    sets ! (of_opd ! (get ! refl)) refl typed.0 $
    returns ! (look_at ! 0 refl) $ free_all ! refl $ keep ! (0 ∷ 1 ∷ []) $
    suffices ! _ (ends_at 𝓛 (f.ended T dT) (stayed T dT) c y v r (tt, tt) (tt, tt)) $ says ! same $
    nothing ! $ nothing ! $ join ! $ nothing ! $ move ! (3 ∷ 0 ∷ []) $ join ! $ done !)))))))))
