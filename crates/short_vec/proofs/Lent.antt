-- A `&mut` to a list is opened, so that its items are lent. Assumes `Logic`.
--     E, vec           the items' row as the proofs of `Vec` have it, and the list as a `Vec`
--     short_opens      what a `&mut` to a list owns: the block where there is one, the three words and the open borrow
--     After, rows_back     the block but for its items, and with them again
--     short_made       the list is made again, with other items as many
use Rattle.short_vec.proofs.Steps.{◌≡◌, ℕ, ◌+◌, ◌-◌, ◌*◌, ◌<◌, ◌≤◌, ◌^◌, Bool, true, false, List, [], ◌∷◌, length, refl, sym, ap, ◌∙◌, Ura, full_share, ent, sep, id⊢, Lft, Share, GName, Fml, ftrue, flft, fsep, w32, Val, vint, Logic, sem, Goal, Soaks, Seq, Item, ‵, ◌$◌, ◌∵◌, !, qed, done, move, drop, use1, fsplit, fjoin, flt_i, flt_l, fpack, rewrite, RattleType, mem, cell_at, part_at, Array, Ptr, block_ptr, Laws, opens}
use base.Fml.{fobs, fauth, fbor, fobor, froom}
use base.Logic.{never}
use mir.Syntax.{given, ty_array}
use mir.Raw.{raw as bare}
use mir.Val.{vstruct, vcons, vnil}
use types.Run.{well_typed}
use types.SemTy.{Body}
use denote.Index.{row}
use denote.Laws.{shows}
use denote.Memory.{part_of}
use denote.Param.{layout}
use denote.RawPtr.{ptr_val, in_block, in_a_block}
use denote.Steps.{peeks}
use denote.Struct.Owning.{to}
use Rattle.std_alloc.specs.Vec.Ownership.{vec_owns, owns_if, has_block}
use Rattle.core.specs.Allocator.{block_with_items}
use Rattle.std_alloc.proofs.VecSteps.El.{El, el_d, sz}
use Rattle.std_alloc.proofs.VecSteps.Opens.{Blk}
use Rattle.std_alloc.proofs.VecSteps.Rows.{whole}
use Rattle.std_heap.specs.contracts.Global as Heap
use Rattle.std_heap.specs.contracts.GlobalAllocator.TheImpl.{ghosts as tokens}
use Rattle.std_heap.proofs.Global.TheLaws as heap
use Rattle.short_vec.proofs.Seen.{R, V, D, Words}
use Rattle.short_vec.specs.contracts.short_vec.ShortVec as S
use Rattle.short_vec.proofs.short_vec.ShortVec.TheLaws.{lowers}

module _ (T : RattleType) (L : Laws T) where
  abbrev pub E : El
  E = record { row = T; laws = L; al = record { row = Heap.the_row; laws = heap.the_row_laws; g = tokens; d = given 0; drops = given 0 } }

  abbrev pub vec : D T → el_d E
  vec d = record { ptr = d.ptr; len = d.len; cap = d.cap; alloc = d.alloc; items = d.items; ok = d.ok; small = d.small }

  -- the machine's value of the list, at the pointer p
  abbrev pub word : D T → Ptr → List Val
  word d p = vstruct (vcons (ptr_val p) (vcons (vint w32 d.len) (vcons (vint w32 d.cap) (vcons (heap.lowered d.alloc) vnil)))) ∷ []

  -- the block, where there is one
  abbrev pub Block : D T → ℕ → ℕ → List T.Denot → Fml
  Block d b o xs = Blk E d.alloc b o d.len d.cap xs

  -- the fields, and what they own
  abbrev pub Own : D T → ℕ → ℕ → Fml
  Own d b o = (Words T).own_val (to (S.the_type (R T)) d) (word d (block_ptr b o))

  abbrev pub Cell : D T → ℕ → ℕ → ℕ → ℕ → Fml
  Cell d b o rb ro = cell_at full_share (V T).mir (word d (block_ptr b o)) rb ro

  module _ {M : Type 1} {𝓤 : Ura M} {𝓛 : Logic 𝓤} {K : Type 0} {Γ : List (Item 𝓤)} {G : Goal 𝓤 𝓛.H} where
    -- [the block; the words; what they own; the open borrow; obs; auth]
    pub short_opens : K → Soaks G → {κ : Lft} {q : Share} {γ : GName} (d : D T) (rb ro : ℕ)
        → ((b o : ℕ) → d.ptr ≡ block_ptr b o → d.len < 2 ^ 32 → d.cap * sz E < 2 ^ 63
        → Seq K 𝓛 (‵ (Block d b o d.items) ∷ ‵ (Cell d b o rb ro) ∷ ‵ (Own d b o) ∷ ‵ (fobor κ q (Body (mem (V T)) rb ro γ)) ∷ ‵ (fobs γ ((V T).coded.code d)) ∷ ‵ (fauth γ ((V T).coded.code d)) ∷ Γ) G)
        → Seq K 𝓛 (‵ (fobs γ ((V T).coded.code d)) ∷ ‵ (fbor κ (Body (mem (V T)) rb ro γ)) ∷ ‵ (flft κ q) ∷ Γ) G
    short_opens t z d rb ro k =
        opens t z (V T) {h = d} rb ro (λ us. move t (1 ∷ []) $ peeks t (V T) _ (shows 𝓛 (V T)) d us (λ is. fsplit t $ move t (1 ∷ []) $ fsplit t $ flt_l t (λ fit.
        in_a_block t d.ptr (λ p. in_block p (owns_if (has_block d.cap) (block_with_items (tokens.dealloc_token d.alloc) (R T) p d.len d.cap d.items))) (id⊢ 𝓤 (never 𝓤)) (λ b o e.
        let at = (lowers T L).val_is d us is ∙ ap (word d) e in
        rewrite t 1 (λ (ws : List Val). ‵ ((Words T).own_val (to (S.the_type (R T)) d) ws)) at refl $ rewrite t 2 (λ (ws : List Val). ‵ (cell_at full_share (V T).mir ws rb ro)) at refl $
        move t (2 ∷ []) $ well_typed t (λ ok. move t (1 ∷ 0 ∷ []) $ k b o e ok.1.1.0.fits fit)))))

  -- the block but for its items, where there is one
  abbrev pub After : D T → ℕ → ℕ → Bool → Fml
  After d b o y = owns_if y (fsep (froom (bare (ty_array (layout T) (d.cap - d.len))) b (o + d.len * sz E)) (tokens.dealloc_token d.alloc (bare (ty_array (layout T) d.cap)) (block_ptr b o)))

  module _ {M : Type 1} {𝓤 : Ura M} (𝓛 : Logic 𝓤) where
    pub rows_back : (d : D T) (b o : ℕ) (y : Bool) (ys : List T.Denot) → length ys ≡ d.len
        → ent 𝓤 (sep 𝓤 (sem 𝓛 (row (R T) full_share ys b o)) (sem 𝓛 (After d b o y))) (sem 𝓛 (owns_if y (block_with_items (tokens.dealloc_token d.alloc) (R T) (block_ptr b o) d.len d.cap ys)))
    rows_back d b o true ys l = qed 𝓛 (‵ (row (R T) full_share ys b o) ∷ ‵ (After d b o true) ∷ []) ∵ use1 𝓛 (‵ (part_at (Array (R T) d.len) full_share ys b o)) (whole E 𝓛 full_share d.len ys b o l) $ done !
    rows_back d b o false ys l = qed 𝓛 (‵ (row (R T) full_share ys b o) ∷ ‵ ftrue ∷ []) ∵ drop ! $ done !

    pub short_made : (d : D T) (ys : List T.Denot) (ok : (d.len ≡ length ys) × (d.len ≤ d.cap)) (b o rb ro : ℕ) → d.ptr ≡ block_ptr b o → d.cap * sz E < 2 ^ 63
        → ent 𝓤 (sep 𝓤 (sem 𝓛 (Block d b o ys)) (sem 𝓛 (fsep (Own d b o) (Cell d b o rb ro)))) (sem 𝓛 ((mem (V T)).own_at (record d { items = ys; ok = ok }) rb ro))
    unfolding part_of
    short_made d ys ok b o rb ro e fit =
        qed 𝓛 (‵ (Block d b o ys) ∷ ‵ (fsep (Own d b o) (Cell d b o rb ro)) ∷ []) ∵ flt_i ! (d.cap * sz E) (2 ^ 63) fit $ fjoin ! $
        rewrite ! 0 (λ (p : Ptr). ‵ (vec_owns (tokens.dealloc_token d.alloc) (R T) p d.len d.cap ys)) (sym e) refl $ move ! (1 ∷ []) $ fsplit ! $ move ! (0 ∷ 2 ∷ []) $ fjoin ! $ move ! (1 ∷ 0 ∷ []) $ fjoin ! $
        fpack ! (List Val) (λ us. fsep (cell_at full_share (V T).mir us rb ro) ((V T).own_val (record d { items = ys; ok = ok }) us)) (word d (block_ptr b o)) $ done !
