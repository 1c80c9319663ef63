-- Writes one after another.
use Rattle.std.proofs.Common.{◌≡◌, ◌==◌, length-append, suc-add, zero-add, ℕ, zero, suc, ◌<◌, ◌+◌, Bool, true, false, not, ◌&&◌, ◌||◌, List, [], ◌∷◌, ◌++◌, length, Option, Result, Ok, Err, refl, sym, ap, ◌∙◌, subst, append_assoc, append-nil, arith}
use Rattle.std.proofs.KnownBytes.{Appends-nil, Appends-trans}
use Rattle.std.proofs.lemmas.Bool.{or_right, and_right}
use Rattle.std.proofs.lemmas.Bool.Decides.{nat_tests}
use Rattle.route_program.specs.declared.error.RunError.{RunError}
use Rattle.route_program.specs.declared.counted.Counted.{Counted}
use Rattle.route_program.specs.Counted.{one_more, more_by}
use Rattle.route_program.specs.Devices.{Written, Delivers, has_bytes, Closed, Torn, Closes}

-- a text of two has bytes where one of them has
one_has : (s t : List ℕ) (waits : Bool) → (has_bytes t || (has_bytes s || waits)) ≡ (has_bytes (s ++ t) || waits)
one_has [] t waits = refl
one_has (b ∷ s) t waits = or_right (has_bytes t) true refl

none_has : (s t : List ℕ) (fails : Bool) → (not (has_bytes t) && (not (has_bytes s) && fails)) ≡ (not (has_bytes (s ++ t)) && fails)
none_has [] t fails = refl
none_has (b ∷ s) t fails = and_right (not (has_bytes t)) false refl

pub has_some : (text : List ℕ) → 0 < length text → has_bytes text ≡ true
has_some [] h = absurd (omega arith)
has_some (b ∷ text) h = refl

-- flushes after flushes
more_plus : (m n x : ℕ) → more_by (m + n) x ≡ more_by n (more_by m x)
more_plus zero n x = rw zero-add
more_plus (suc m) n x = rw suc-add (more_plus m n (one_more x))

-- whether bytes wait after so many flushes
waits_plus : (m n : ℕ) (waits : Bool) → ((m + n == 0) && waits) ≡ ((n == 0) && ((m == 0) && waits))
waits_plus m n waits = grind (arith, nat_tests)

module _ {W : Type 0} (contents : W → Option (List ℕ)) where
  pub Written-nil : (w : Counted W) → Written contents w w []
  Written-nil w = record { appended = Appends-nil (contents w.device); faults = refl; flushes = refl; waits = refl; fails = refl }

  pub Written-trans : (a b c : Counted W) (s t : List ℕ) → Written contents a b s → Written contents b c t → Written contents a c (s ++ t)
  Written-trans a b c s t p q = record {
    appended = Appends-trans _ _ _ s t p.appended q.appended;
    faults = q.faults ∙ p.faults;
    flushes = q.flushes ∙ p.flushes;
    waits = q.waits ∙ ap (λ w. has_bytes t || w) p.waits ∙ one_has s t a.waiting;
    fails = q.fails ∙ ap (λ w. not (has_bytes t) && w) p.fails ∙ none_has s t a.failing;
  }

  pub Torn-after : (a b c : Counted W) (s t : List ℕ) → Written contents a b s → Torn contents b c t → Torn contents a c (s ++ t)
  Torn-after a b c s t p q = record {
    front = s ++ q.front;
    back = q.back;
    is_front = ap (λ l. s ++ l) q.is_front ∙ sym (append_assoc s q.front q.back);
    appended = Appends-trans _ _ _ s q.front p.appended q.appended;
    failed = (q.failed.0 ∙ ap (λ n. n + 1) p.faults, q.failed.1);
    flushes = q.flushes ∙ p.flushes;
  }

  -- what is torn in a text is torn in a longer one
  pub Torn-longer : (a b : Counted W) (s t : List ℕ) → Torn contents a b s → Torn contents a b (s ++ t)
  Torn-longer a b s t p = record {
    front = p.front;
    back = p.back ++ t;
    is_front = ap (λ l. l ++ t) p.is_front ∙ append_assoc p.front p.back t;
    appended = p.appended;
    failed = p.failed;
    flushes = p.flushes;
  }

  -- the end of a reply after its beginning
  pub Closes-written : {T : Type 0} (a b c : Counted W) (r : Result T RunError) (s t : List ℕ) → Written contents a b s → Closes contents 1 b c r t → Closes contents 1 a c r (s ++ t)
  Closes-written a b c (Ok x) s t p q = record { appended = Appends-trans _ _ _ s t p.appended q.appended; faults = q.faults ∙ p.faults; flushed = (q.flushed.0 ∙ ap one_more p.flushes, q.flushed.1, q.flushed.2) }
  Closes-written a b c (Err e) s t p q = (q.0, Torn-after a b c s t p q.1)

  -- a flush closes a reply
  pub Closes-delivered : {T : Type 0} (a b : Counted W) (r : Result T RunError) → Delivers contents a b r [] → Closes contents 1 a b r []
  Closes-delivered a b (Ok x) q = record { appended = q.appended; faults = q.faults; flushed = q.flushed }
  Closes-delivered a b (Err e) q = q

  -- and then nothing more
  pub Closes-end : {T : Type 0} (a b c : Counted W) (r : Result T RunError) (s : List ℕ) → Written contents a b s → Closes contents 1 b c r [] → Closes contents 1 a c r s
  Closes-end a b c r s p q = subst (Closes contents 1 a c r) (append-nil s) (Closes-written a b c r s [] p q)

  Delivers-closed : {T : Type 0} (a b : Counted W) (r : Result T RunError) (s : List ℕ) → Closes contents 1 a b r s
      → Delivers contents a b r s
  Delivers-closed a b (Ok x) s q = record { appended = q.appended; faults = q.faults; flushed = q.flushed }
  Delivers-closed a b (Err e) s q = q

  -- the end of a text after its beginning, and then all is flushed
  pub Delivers-after : {T : Type 0} (a b c : Counted W) (r : Result T RunError) (s : List ℕ) → Written contents a b s → Delivers contents b c r [] → Delivers contents a c r s
  Delivers-after a b c r s p q = Delivers-closed a c r s (Closes-end a b c r s p (Closes-delivered b c r q))

  pub Closed-nil : (w : Counted W) → Closed contents 0 w w []
  Closed-nil w = record { appended = Appends-nil (contents w.device); faults = refl; flushed = (refl, refl, refl) }

  -- replies after replies
  pub Closed-plus : (m n : ℕ) (a b c : Counted W) (s t : List ℕ) → Closed contents m a b s → Closed contents n b c t
      → Closed contents (m + n) a c (s ++ t)
  Closed-plus m n a b c s t p q = record {
    appended = Appends-trans _ _ _ s t p.appended q.appended;
    faults = q.faults ∙ p.faults;
    flushed = (
      q.flushed.0 ∙ ap (more_by n) p.flushed.0 ∙ sym (more_plus m n a.flushes),
      q.flushed.1 ∙ ap (λ w. (n == 0) && w) p.flushed.1 ∙ sym (waits_plus m n a.waiting),
      q.flushed.2 ∙ ap (λ w. (n == 0) && w) p.flushed.2 ∙ sym (waits_plus m n a.failing),
    );
  }

  pub Closed-after : {A : Type 0} (xs ys : List A) (a b c : Counted W) (s t : List ℕ) → Closed contents (length xs) a b s → Closed contents (length ys) b c t → Closed contents (length (xs ++ ys)) a c (s ++ t)
  Closed-after xs ys a b c s t p q = rw length-append (Closed-plus (length xs) (length ys) a b c s t p q)
