-- The pointer has its type again, and what the handle owns there is lent: with any content there, the rest is the handle.
use Rattle.routes_c.proofs.Steps.{◌≡◌, [], ◌∷◌, List, refl, sym, ap, ◌∙◌, Option, full_share, ftrue, flft, fact, tables, ‵, raw, ◌⊛◌, some, later, at_ret, ◌$◌, ◌∵◌, !, qed, move, keep, drop, done, join, use1, split, fsplit, fjoin, pick, await, rewrite, suffices, group, enter, of_opd, fld, stop, blocks, first, exec, returns, alloc_all, pass_all, free_all, look_at, get, sets, env, plain, nothing, heard, peeks, shows, Is, Stays, walk_of, says, stay_dropped, ends_at, proved, whole, sub, to, Ptr, ptr_val}
use Rattle.std.proofs.Common.{ℕ}
use seplogic.Ra.Ura.{Ura}
use base.Fml.{Fml, GName, fsep}
use base.Logic.{ent, sep, fst∗, never}
use denote.Exit.{no}
use denote.Follow.{follows, lends_Part}
use denote.Memory.{cell_at, mem, part_at, part_of}
use denote.RattleType.{owns}
use denote.RawPtr.{block_ptr, in_a_block, null_ptr}
use denote.Ref.{MutRef, mut_Tells, mut_vals}
use denote.Signature.{types_at}
use denote.Steps.{opens}
use denote.Triple.Walked.{Goes-spent_ref}
use mir.Syntax.{named}
use mir.Val.{Val, vcons, vnil, vptr, vstruct}
use types.ByLocal.{sets_last, through}
use types.Kit.{fpack, frame, fsplit3}
use types.Logic.{Logic, sem}
use types.Part.{look_in}
use types.Run.{addr, load}
use Rattle.std.specs.Box.Ownership.{box_owns}
use Rattle.std_heap.specs.contracts.GlobalAllocator.TheImpl.{ghosts}
use Rattle.std_heap.proofs.Global.TheLaws as global
use mir.Raw.{raw as bare}
use denote.Memory.{lone}
use Rattle.routes_c.proofs.HeldFields.{Fields, held_tells, taken}
use Rattle.routes_c.specs.BoxedContent.{held_owns}
use Rattle.routes_c.specs.InnerLent.{with_content}
use Rattle.routes_c.specs.contracts.boxed_content.BoxedContent.{the_row as H, the_type}
use Rattle.routes_c.specs.contracts.boxed_content.BoxedContent.lend as f
use Rattle.routes_c.specs.contracts.content.Content.{the_row as S}
use Rattle.routes_c.specs.declared.boxed_content.BoxedContent.{BoxedContent}
use Rattle.routes_c.proofs.boxed_content.BoxedContent.lend.Statement.{statement}
use Rattle.routes_c.proofs.boxed_content.BoxedContent.lend.Code as code

abbrev stayed : Stays f.ended.signature.params f.ended.kept
stayed = (stay_dropped _ no, tt)

-- the handle's machine value, by its pointer
abbrev word : BoxedContent → Ptr → Val
word h p = vstruct (vcons (ptr_val p) (vcons (global.lowered h.alloc) vnil))

-- what the handle is but its content
abbrev Rest : BoxedContent → ℕ → ℕ → ℕ → ℕ → Fml
Rest h b o c d = fsep (fsep (ghosts.dealloc_token h.alloc (bare (lone S.mir)) (block_ptr c d)) (Fields.own_val (to the_type h) (word h (block_ptr c d) ∷ []))) (cell_at full_share H.mir (word h (block_ptr c d) ∷ []) b o)

back : {M : Type 1} {𝓤 : Ura M} (𝓛 : Logic 𝓤) (h : BoxedContent) (b o c d : ℕ) → h.at ≡ block_ptr c d → (w : S.Denot)
    → ent 𝓤 (sep 𝓤 (sem 𝓛 ((mem S).own_at w c d)) (sem 𝓛 (Rest h b o c d))) (sem 𝓛 ((mem H).own_at (with_content h w) b o))
unfolding part_of
back 𝓛 h b o c d at w =
    qed 𝓛 (‵ (part_at S full_share w c d) ∷ ‵ (Rest h b o c d) ∷ []) ∵ move ! (1 ∷ []) $ fsplit ! $ fsplit ! $ move ! (3 ∷ 0 ∷ []) $ fjoin ! $
    rewrite ! 0 (λ (p : Ptr). ‵ (box_owns (ghosts.dealloc_token h.alloc) S p w)) (sym at) refl $ move ! (1 ∷ 0 ∷ []) $ fjoin ! $ move ! (1 ∷ 0 ∷ []) $ fjoin ! $
    fpack ! (List Val) (λ us. fsep (cell_at full_share H.mir us b o) (H.own_val (with_content h w) us)) (word h (block_ptr c d) ∷ []) $ done !

pub lend_spec : {M : Type 1} → statement M
lend_spec 𝓤 𝓛 𝓜 𝓡 wired =
    let cl = f.clauses 𝓛 𝓜.mem 𝓡.returns in let W = walk_of 𝓛 f.ended stayed cl in let 𝓣 = tables 𝓤 𝓛.H 𝓜 𝓡 𝓡.env in
    proved 𝓛 f.ended stayed cl 𝓜 𝓡 (Goes-spent_ref 𝓛 1 (0 ∷ []) tt (plain (λ _. H)), tt)
    f.Key.name code.function (code.unfolded 𝓤 𝓛.H 𝓜 𝓡 wired)
    (λ κs. (mut_vals, tt)) (λ κs. (mut_Tells (named 0) κs.0 H, tt)) (λ κs qs bounds a n are.
    let h = a.0.now in let κ = κs.0 in let b = a.0.ref_ptr.0 in let o = a.0.ref_ptr.1 in let γ = a.0.ghost_name in
    let y : W.Ghost = ((κs, qs, bounds, a, (vptr b o ∷ [], tt)), tt) in
    qed 𝓛 (((‵ (flft κ qs.0) ⊛ ‵ ftrue) ⊛ ‵ (owns (types_at f.ended.signature.params κs) a y.0.4)) ∷ raw (fact 𝓤 _) ∷ []) ∵
    move ! (1 ∷ []) $ heard ! _ (λ has. let s = taken h.content has in
    split ! $ split ! $ move ! (2 ∷ []) $ fsplit ! $ fsplit3 ! $ drop ! $ move ! (0 ∷ 1 ∷ 3 ∷ []) $
    enter ! _ _ _ _ _ $ alloc_all ! (λ l. pass_all ! refl ((tt, tt), tt) $
    opens ! tt H {h = h} b o (λ vs. move ! (1 ∷ []) $ peeks ! H (Is H) (shows 𝓛 H) h vs (λ is.
    fsplit ! $ move ! (1 ∷ []) $ rewrite ! 0 (λ (x : Option S.Denot). ‵ (held_owns h.alloc h.at x)) s.1 refl $
    in_a_block ! h.at (λ p. box_owns (ghosts.dealloc_token h.alloc) S p s.0) (fst∗ 𝓤 (never 𝓤) (sem 𝓛 (ghosts.dealloc_token h.alloc (bare (lone S.mir)) null_ptr))) (λ c d at.
    let told = held_tells h vs is ∙ ap (λ (p : Ptr). word h p ∷ []) at in
    fsplit ! $ rewrite ! 2 (λ (us : List Val). ‵ (Fields.own_val (to the_type h) us)) told refl $ rewrite ! 3 (λ (us : List Val). ‵ (cell_at full_share H.mir us b o)) told refl $
    -- [the content; the right to free; the fields; the cell; the open borrow; obs; auth; the locals]
    first ! $ blocks ! $
    sets ! (of_opd ! (load ! (through ! refl (fld ! refl (stop !))) (look_in ! 3 (sub ! 0 refl (whole !))))) refl (tt, tt) $
    sets ! (of_opd ! (get ! refl)) refl (tt, tt) $
    sets_last ! (addr ! (through ! refl (stop !))) refl (tt, tt) $
    exec ! 𝓣.C 𝓣.Λ (env code.Mir.locals l) code.Mir.t-2 (at_ret _ (W.post y)) $
    sets ! (of_opd ! (get ! refl)) refl (tt, tt) $
    move ! (1 ∷ 2 ∷ []) $ fjoin ! $ move ! (0 ∷ 2 ∷ []) $ fjoin ! $ move ! (2 ∷ 3 ∷ 4 ∷ 1 ∷ 0 ∷ []) $ group ! 5 $
    use1 𝓛 (later (some (λ (γ' : GName). ‵ ((MutRef (named 0) κ S).own_val (record { ref_ptr = (c, d); ghost_name = γ'; now = s.0 }) (vptr c d ∷ [])) ⊛ ‵ (flft κ qs.0) ⊛ ‵ (follows H S γ γ' (with_content h)))))
    (lends_Part 𝓛 H S (with_content h) (named 0) κ qs.0 b o c d γ (sem 𝓛 (Rest h b o c d)) (back 𝓛 h b o c d at) (H.coded.code h) (H.coded.code h) s.0) $ await ! tt $ pick ! (λ γ'.
    split ! $ move ! (1 ∷ []) $ split ! $ move ! (2 ∷ 0 ∷ 1 ∷ []) $
    -- [the content's borrow; the token; what follows; the locals]
    returns ! (look_at ! 0 refl) $ free_all ! refl $ keep ! (0 ∷ 1 ∷ 2 ∷ []) $
    suffices ! _ (ends_at 𝓛 f.ended stayed cl y (vptr c d) (record { ref_ptr = (c, d); ghost_name = γ'; now = s.0 }) (tt, tt) (tt, tt)) $
    nothing ! $ nothing ! $ fjoin ! $ join ! $ nothing ! $ move ! (2 ∷ 0 ∷ []) $ join ! $ join ! $ frame ! $ says ! s.1 $ done !)))))))
