-- Lines written one after another.
use Rattle.std.proofs.Common.{◌≡◌, ℕ, List, [], ◌++◌, Option, Result, refl, sym, ap, ◌∙◌, subst, append_assoc, append-nil}
use Rattle.route_program.specs.declared.counted.Counted.{Counted}
use Rattle.route_program.specs.declared.error.RunError.{RunError}
use Rattle.route_program.specs.declared.error.RunError.TheVariants.{Write}
use Rattle.route_program.specs.Devices.{Written, Torn, Closes}
use Rattle.route_program.proofs.Written.{Written-nil, Written-trans, Torn-after, Torn-longer, Closes-written}

-- all but what is left was written; `bytes` are the bytes of some
pub record Told {A W : Type 0} (contents : W → Option (List ℕ)) (bytes : List A → List ℕ) (old new : Counted W) (all left : List A) : Type 0 where
  pub done : List ℕ
  pub split : bytes all ≡ done ++ bytes left
  pub written : Written contents old new done

module _ {A W : Type 0} (contents : W → Option (List ℕ)) (bytes : List A → List ℕ) where
  pub Told-nil : (w : Counted W) (all : List A) → Told contents bytes w w all all
  Told-nil w all = record { done = []; split = refl; written = Written-nil contents w }

  pub Told-all : (a b : Counted W) (all left : List A) → Told contents bytes a b all left → bytes left ≡ [] → Written contents a b (bytes all)
  Told-all a b all left p e = subst (Written contents a b) (sym (p.split ∙ ap (λ t. p.done ++ t) e ∙ append-nil p.done)) p.written

  -- the next line, and the piece that it was written from
  module _ (a b c : Counted W) (all left later : List A) (line piece : List ℕ) (p : Told contents bytes a b all left) (e : bytes left ≡ line ++ bytes later) (is : piece ≡ line) where
    one_more : bytes all ≡ p.done ++ (piece ++ bytes later)
    one_more = p.split ∙ ap (λ t. p.done ++ t) (e ∙ ap (λ t. t ++ bytes later) (sym is))

    pub Told-more : Written contents b c piece → Told contents bytes a c all later
    Told-more q = record { done = p.done ++ piece; split = one_more ∙ sym (append_assoc p.done piece (bytes later)); written = Written-trans contents a b c p.done piece p.written q }

    -- the writer failed in it
    pub Told-torn : (why : RunError) → (why ≡ Write) × Torn contents b c piece → (why ≡ Write) × Torn contents a c (bytes all)
    Told-torn why q = (q.0, subst (Torn contents a c) (sym one_more) (Torn-after contents a b c p.done (piece ++ bytes later) p.written (Torn-longer contents b c piece (bytes later) q.1)))

    -- it is the last one
    pub Told-last : {T : Type 0} (r : Result T RunError) → bytes later ≡ [] → Closes contents 1 b c r piece → Closes contents 1 a c r (bytes all)
    Told-last r none q =
        let whole = one_more ∙ ap (λ t. p.done ++ (piece ++ t)) none ∙ ap (λ t. p.done ++ t) (append-nil piece) in
        subst (Closes contents 1 a c r) (sym whole) (Closes-written contents a b c r p.done piece p.written q)
