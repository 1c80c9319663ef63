-- What is made of the parts of a list in turn, while a state goes on.
use Rattle.std.proofs.Common.{◌≡◌, List, [], ◌∷◌, ◌++◌, sym, ap, ◌∙◌, append_assoc}

module _ {S E : Type 0} (next : S → E → S) (after : S → List E → S) (none : (s : S) → after s [] ≡ s) (more : (s : S) (e : E) (es : List E) → after s (e ∷ es) ≡ after (next s e) es) where
  pub after-append : (s : S) (es fs : List E) → after s (es ++ fs) ≡ after (after s es) fs
  after-append s [] fs = ap (λ t. after t fs) (sym (none s))
  after-append s (e ∷ es) fs = more s e (es ++ fs) ∙ after-append (next s e) es fs ∙ ap (λ t. after t fs) (sym (more s e es))

  -- the state gives this at each part
  pub made-append : {O : Type 0} (gives : S → E → List O) (made : S → List E → List O) → ((s : S) → made s [] ≡ []) → ((s : S) (e : E) (es : List E) → made s (e ∷ es) ≡ gives s e ++ made (next s e) es)
      → (s : S) (es fs : List E) → made s (es ++ fs) ≡ made s es ++ made (after s es) fs
  made-append gives made nothing one s [] fs = ap (λ t. made t fs) (sym (none s)) ∙ ap (λ l. l ++ made (after s []) fs) (sym (nothing s))
  made-append gives made nothing one s (e ∷ es) fs =
      one s e (es ++ fs) ∙ ap (λ l. gives s e ++ l) (made-append gives made nothing one (next s e) es fs) ∙ sym (append_assoc (gives s e) (made (next s e) es) (made (after (next s e) es) fs))
      ∙ rw (one s e es, more s e es)
