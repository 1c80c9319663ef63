-- A choice put in or taken out by its place.
use Rattle.std.proofs.Common.{◌≡◌, ◌≢◌, ℕ, suc, ◌^◌, ◌+◌, ◌<◌, ◌≤◌, ◌==◌, inl, inr, ⊎_elim, ◌-◌, Bool, true, false, not, ◌||◌, cond, List, [], ◌∷◌, ◌++◌, Option, Some, None, is_some, filter, length, take, drop, get_or, refl, sym, ap, ◌∙◌, subst, arith}
use Rattle.std.proofs.lemmas.Bool.Decides.{nat_tests}
use Rattle.std.specs.List.{position_or_len, insert, remove}
use Rattle.ipnet_addr.proofs.Basics.{filtered_length}
use Rattle.ipnet_addr.proofs.Members.{In}
use Rattle.ipnet_addr.proofs.Ascending.{Rising, Rising-from_pairs}
use Rattle.route_choices.specs.declared.hop.Hop.{Hop}
use Rattle.route_choices.specs.Hops.{IsHop}
use Rattle.route_choices.specs.Choices.{Choice, AreChoices, same_hop, beats, choices_with, choices_without, holds_hop, is_one_too_many}
use Rattle.route_choices.proofs.Kept.{Rising-kept, all_kept, none_kept}
use Rattle.route_choices.proofs.Preferences.{hop_from_test, test_from_apart, strict, total, transitive}
use Rattle.route_choices.proofs.ChoiceLists.{Beats, Apart, left_back, none_of, with_are, without_none}
use Rattle.route_choices.proofs.Slots as slots
use Rattle.route_choices.specs.InnerSlots.{ends_at, ends_before, filled, given, padded}

next : (n : ℕ) → 1 + n ≡ suc n
next n = omega arith

-- one out
taken : (h : Hop) (cs : List Choice) → Rising Apart cs → position_or_len (λ d. same_hop d.hop h) cs < length cs → remove cs (position_or_len (λ d. same_hop d.hop h) cs) ≡ choices_without cs h
taken h [] r l = absurd (omega arith)
taken h (c ∷ cs) r l = go (taken h cs r.1) (same_hop c.hop h) refl l
  where
    go : (position_or_len (λ d. same_hop d.hop h) cs < length cs → remove cs (position_or_len (λ d. same_hop d.hop h) cs) ≡ choices_without cs h) → (b : Bool) → same_hop c.hop h ≡ b →
        position_or_len (λ d. same_hop d.hop h) (c ∷ cs) < length (c ∷ cs) → remove (c ∷ cs) (position_or_len (λ d. same_hop d.hop h) (c ∷ cs)) ≡ choices_without (c ∷ cs) h
    go rec true e l =
        let at : position_or_len (λ d. same_hop d.hop h) (c ∷ cs) ≡ 0 = ap (λ b. cond (not b) (1 + position_or_len (λ d. same_hop d.hop h) cs) 0) e in
        ap (remove (c ∷ cs)) at
        ∙ sym (all_kept (λ d. not (same_hop d.hop h)) cs (λ d i. test_from_apart d.hop h (λ q. r.0 d i (hop_from_test c.hop h e ∙ sym q))))
        ∙ ap (λ b. cond (not b) (c ∷ choices_without cs h) (choices_without cs h)) (sym e)
    go rec false e l =
        let at : position_or_len (λ d. same_hop d.hop h) (c ∷ cs) ≡ suc (position_or_len (λ d. same_hop d.hop h) cs) = ap (λ b. cond (not b) (1 + position_or_len (λ d. same_hop d.hop h) cs) 0) e ∙ next (position_or_len (λ d. same_hop d.hop h) cs) in
        ap (remove (c ∷ cs)) at
        ∙ ap (λ ds. c ∷ ds) (rec (omega arith))
        ∙ ap (λ b. cond (not b) (c ∷ choices_without cs h) (choices_without cs h)) (sym e)

pub taken_out : (cs : List Choice) → AreChoices cs → (h : Hop) → position_or_len (λ d. same_hop d.hop h) cs < length cs → remove cs (position_or_len (λ d. same_hop d.hop h) cs) ≡ choices_without cs h
taken_out cs ok h l = taken h cs (Rising-from_pairs Apart cs ok.once) l

-- found where the hop is held
pub found_held : (h : Hop) (cs : List Choice) → position_or_len (λ d. same_hop d.hop h) cs < length cs → holds_hop cs h ≡ true
found_held h [] l = absurd (omega arith)
found_held h (c ∷ cs) l = go (found_held h cs) (same_hop c.hop h) refl
  where
    go : (position_or_len (λ d. same_hop d.hop h) cs < length cs → holds_hop cs h ≡ true) → (b : Bool) → same_hop c.hop h ≡ b → holds_hop (c ∷ cs) h ≡ true
    go rec true e = ap (λ b. b || holds_hop cs h) e
    go rec false e =
        let at : position_or_len (λ d. same_hop d.hop h) (c ∷ cs) ≡ suc (position_or_len (λ d. same_hop d.hop h) cs) = ap (λ b. cond (not b) (1 + position_or_len (λ d. same_hop d.hop h) cs) 0) e ∙ next (position_or_len (λ d. same_hop d.hop h) cs) in
        ap (λ b. b || holds_hop cs h) e ∙ rec (omega arith)

pub not_found : (h : Hop) (cs : List Choice) → (position_or_len (λ d. same_hop d.hop h) cs < length cs → ⊥) → holds_hop cs h ≡ false
not_found h [] l = refl
not_found h (c ∷ cs) l = go (not_found h cs) (same_hop c.hop h) refl
  where
    go : ((position_or_len (λ d. same_hop d.hop h) cs < length cs → ⊥) → holds_hop cs h ≡ false) → (b : Bool) → same_hop c.hop h ≡ b → holds_hop (c ∷ cs) h ≡ false
    go rec true e =
        let at : position_or_len (λ d. same_hop d.hop h) (c ∷ cs) ≡ 0 = ap (λ b. cond (not b) (1 + position_or_len (λ d. same_hop d.hop h) cs) 0) e in
        absurd (l (omega arith))
    go rec false e =
        let at : position_or_len (λ d. same_hop d.hop h) (c ∷ cs) ≡ suc (position_or_len (λ d. same_hop d.hop h) cs) = ap (λ b. cond (not b) (1 + position_or_len (λ d. same_hop d.hop h) cs) 0) e ∙ next (position_or_len (λ d. same_hop d.hop h) cs) in
        ap (λ b. b || holds_hop cs h) e ∙ rec (λ m. l (omega arith))

-- one in: before the first that it beats
put : (c : Choice) (cs : List Choice) → Rising Beats cs → ((d : Choice) → In d cs → d.hop ≢ c.hop) → insert cs (position_or_len (λ d. beats c d) cs) c ≡ filter (λ d. beats d c) cs ++ c ∷ filter (λ d. beats c d) cs
put c [] r apart = refl
put c (d ∷ cs) r apart = go (put c cs r.1 (λ e i. apart e (inr i))) (beats c d) refl
  where
    not_both : (x y : Choice) → beats x y ≡ true → beats y x ≡ false
    not_both x y e = pick (beats y x) refl
      where
        pick : (b : Bool) → beats y x ≡ b → beats y x ≡ false
        pick true f = absurd (strict x y e f)
        pick false f = f

    go : insert cs (position_or_len (λ d. beats c d) cs) c ≡ filter (λ d. beats d c) cs ++ c ∷ filter (λ d. beats c d) cs → (b : Bool) → beats c d ≡ b →
        insert (d ∷ cs) (position_or_len (λ d. beats c d) (d ∷ cs)) c ≡ filter (λ d. beats d c) (d ∷ cs) ++ c ∷ filter (λ d. beats c d) (d ∷ cs)
    go rec true e =
        let at : position_or_len (λ d. beats c d) (d ∷ cs) ≡ 0 = ap (λ b. cond (not b) (1 + position_or_len (λ d. beats c d) cs) 0) e in
        let behind : (z : Choice) → In z (d ∷ cs) → beats c z ≡ true = λ z i. ⊎_elim (λ q. ap (beats c) q ∙ e) (λ j. transitive c d z e (r.0 z j)) i in
        ap (λ k. insert (d ∷ cs) k c) at
        ∙ ap (λ zs. zs ++ c ∷ d ∷ cs) (sym (none_kept (λ d. beats d c) (d ∷ cs) (λ z i. not_both c z (behind z i))))
        ∙ ap (λ zs. filter (λ d. beats d c) (d ∷ cs) ++ c ∷ zs) (sym (all_kept (λ d. beats c d) (d ∷ cs) behind))
    go rec false e =
        let at : position_or_len (λ d. beats c d) (d ∷ cs) ≡ suc (position_or_len (λ d. beats c d) cs) = ap (λ b. cond (not b) (1 + position_or_len (λ d. beats c d) cs) 0) e ∙ next (position_or_len (λ d. beats c d) cs) in
        let front : beats d c ≡ true = ⊎_elim (λ l. l) (λ l. absurd (let f = sym e ∙ l in cc)) (total d c (apart d (inl refl))) in
        ap (λ k. insert (d ∷ cs) k c) at
        ∙ ap (λ zs. d ∷ zs) rec
        ∙ ap (λ b. cond b (d ∷ filter (λ d. beats d c) cs) (filter (λ d. beats d c) cs) ++ c ∷ filter (λ d. beats c d) cs) (sym front)
        ∙ ap (λ b. filter (λ d. beats d c) (d ∷ cs) ++ c ∷ cond b (d ∷ filter (λ d. beats c d) cs) (filter (λ d. beats c d) cs)) (sym e)

pub put_in : (cs : List Choice) → AreChoices cs → (c : Choice) → insert (choices_without cs c.hop) (position_or_len (λ d. beats c d) (choices_without cs c.hop)) c ≡ choices_with cs c
put_in cs ok c = put c (choices_without cs c.hop) (Rising-kept Beats (λ d. not (same_hop d.hop c.hop)) cs (Rising-from_pairs Beats cs ok.best_first)) (λ d i. (left_back cs c.hop d i).1)

pub taken_at : (cs : List Choice) → AreChoices cs → (h : Hop) (k : ℕ) → k ≡ position_or_len (λ d. same_hop d.hop h) cs → k < length cs → remove cs k ≡ choices_without cs h
taken_at cs ok h k e l = ap (remove cs) e ∙ taken_out cs ok h (subst (λ (n : ℕ). n < length cs) e l)

pub held_at : (cs : List Choice) (h : Hop) (k : ℕ) → k ≡ position_or_len (λ d. same_hop d.hop h) cs → k < length cs → holds_hop cs h ≡ true
held_at cs h k e l = found_held h cs (subst (λ (n : ℕ). n < length cs) e l)

pub not_held_at : (cs : List Choice) (h : Hop) (k : ℕ) → k ≡ position_or_len (λ d. same_hop d.hop h) cs → length cs ≤ k → holds_hop cs h ≡ false
not_held_at cs h k e l = not_found h cs (λ m. omega arith)

pub put_at : (cs : List Choice) → AreChoices cs → (c : Choice) (k : ℕ) → k ≡ position_or_len (λ d. beats c d) (choices_without cs c.hop) → insert (choices_without cs c.hop) k c ≡ choices_with cs c
put_at cs ok c k e = ap (λ n. insert (choices_without cs c.hop) n c) e ∙ put_in cs ok c

-- a place is within
pub within : (c : Choice) (cs : List Choice) → position_or_len (λ d. beats c d) cs ≤ length cs
within c [] = omega arith
within c (d ∷ cs) = go (within c cs) (beats c d) refl
  where
    go : position_or_len (λ d. beats c d) cs ≤ length cs → (b : Bool) → beats c d ≡ b → position_or_len (λ d. beats c d) (d ∷ cs) ≤ length (d ∷ cs)
    go rec true e = let at : position_or_len (λ d. beats c d) (d ∷ cs) ≡ 0 = ap (λ b. cond (not b) (1 + position_or_len (λ d. beats c d) cs) 0) e in omega arith
    go rec false e = let at : position_or_len (λ d. beats c d) (d ∷ cs) ≡ 1 + position_or_len (λ d. beats c d) cs = ap (λ b. cond (not b) (1 + position_or_len (λ d. beats c d) cs) 0) e in omega arith

-- the same of choices in n places
module _ (n : ℕ) (xs : List (Option Choice)) (full : xs ≡ padded n (filled xs)) where
  fit : length (filled xs) ≤ n
  fit = let f = slots.fewer xs in let e = ap (λ ys. length ys) full ∙ slots.long n (filled xs) in omega arith

  module _ (are : AreChoices (filled xs)) (h : Hop) (k : ℕ) (at : k ≡ position_or_len (ends_at h) xs) where
    here : k ≡ position_or_len (λ d. same_hop d.hop h) (filled xs)
    here = at ∙ ap (position_or_len (ends_at h)) full ∙ slots.found (λ d. same_hop d.hop h) (ends_at h) refl (λ d. refl) n (filled xs) fit

    module _ (l : k < length (filled xs)) where
      pub held_here : holds_hop (filled xs) h ≡ true
      held_here = held_at (filled xs) h k here l

      pub without_here : take k xs ++ drop (k + 1) xs ++ None ∷ [] ≡ padded n (choices_without (filled xs) h)
      without_here = ap (λ ys. take k ys ++ drop (k + 1) ys ++ None ∷ []) full ∙ slots.taken_out n k (filled xs) l fit ∙ ap (padded n) (taken_at (filled xs) are h k here l)

      pub left_here : filled (take k xs ++ drop (k + 1) xs ++ None ∷ []) ≡ choices_without (filled xs) h
      left_here = ap filled without_here ∙ slots.filled_padded n (choices_without (filled xs) h) (let f = filtered_length (λ d. not (same_hop d.hop h)) (filled xs) in let g = fit in omega arith)

    module _ (l : length (filled xs) ≤ k) where
      pub not_held_here : holds_hop (filled xs) h ≡ false
      not_held_here = not_held_at (filled xs) h k here l

      pub same_here : choices_without (filled xs) h ≡ filled xs
      same_here = without_none (filled xs) are h (none_of (filled xs) h not_held_here)

  pub beyond : (k : ℕ) → length xs ≤ k → length (filled xs) ≤ k
  beyond k l = let f = slots.fewer xs in omega arith

  pub at_free : (k : ℕ) (d : Option Choice) → k < length xs → get_or xs k d ≡ None → length (filled xs) ≤ k
  at_free k d l e = let m = ap (λ ys. length ys) full ∙ slots.long n (filled xs) in slots.is_free n k (filled xs) d (omega arith) (sym (ap (λ ys. get_or ys k d) full) ∙ e)

  pub at_taken : (k : ℕ) (d : Option Choice) (c : Choice) → k < length xs → get_or xs k d ≡ Some c → k < length (filled xs)
  at_taken k d c l e = let m = ap (λ ys. length ys) full ∙ slots.long n (filled xs) in slots.is_taken n k (filled xs) d c (omega arith) (sym (ap (λ ys. get_or ys k d) full) ∙ e)

-- what was given is none or one
pub no_given : (o : Option (Hop × ℕ)) → is_some o ≡ false → given o ≡ None
no_given None e = refl
no_given (Some c) e = absurd (cc)

pub one_given : (o : Option (Hop × ℕ)) → is_some o ≡ true → (c : Choice) × (given o ≡ Some c)
one_given None e = absurd (cc)
one_given (Some c) e = (record { hop = c.0; pref = c.1 }, refl)

-- one more among those in eight places
module _ (xs : List (Option Choice)) (full : xs ≡ padded 8 (filled xs)) (before : List Choice) (choices : AreChoices before) (new : Choice) (without : filled xs ≡ choices_without before new.hop) where
  pub no_room : (d : Option Choice) (c : Choice) → get_or xs 7 d ≡ Some c → is_one_too_many before new.hop ≡ true
  no_room d c e =
      let l = at_taken 8 xs full 7 d c (let m = ap (λ ys. length ys) full ∙ slots.long 8 (filled xs) in omega arith) e in
      let f = fit 8 xs full in
      let eight : length (filled xs) ≡ 8 = omega arith in
      ap (λ ys. length ys == 8) (sym without) ∙ ap (λ k. k == 8) eight

  module _ (k : ℕ) (at : k ≡ position_or_len (ends_before new) xs) (d : Option Choice) (free : get_or xs 7 d ≡ None) where
    pub room : length (filled xs) ≤ 7
    room = at_free 8 xs full 7 d (let m = ap (λ ys. length ys) full ∙ slots.long 8 (filled xs) in omega arith) free

    there : k ≡ position_or_len (λ d. beats new d) (filled xs)
    there = at ∙ ap (position_or_len (ends_before new)) full ∙ slots.found (λ d. beats new d) (ends_before new) refl (λ d. refl) 8 (filled xs) (fit 8 xs full)

    pub below : k < length xs
    below = let m = ap (λ ys. length ys) full ∙ slots.long 8 (filled xs) in let w = within new (filled xs) in let t = there in let r = room in omega arith

    is_with : insert (filled xs) k new ≡ choices_with before new
    is_with = ap (λ cs. insert cs k new) without ∙ put_at before choices new k (there ∙ ap (position_or_len (λ d. beats new d)) without)

    pub with_put : take k xs ++ Some new ∷ take (length xs - (k + 1)) (drop k xs) ≡ padded 8 (choices_with before new)
    with_put =
        let m : length xs ≡ 8 = ap (λ ys. length ys) full ∙ slots.long 8 (filled xs) in
        let w = within new (filled xs) in let t = there in let r = room in
        ap (λ j. take k xs ++ Some new ∷ take (j - (k + 1)) (drop k xs)) m
        ∙ ap (λ ys. take k ys ++ Some new ∷ take (8 - (k + 1)) (drop k ys)) full
        ∙ slots.put_in 8 k (filled xs) new (omega arith) (omega arith)
        ∙ ap (padded 8) is_with

    pub not_too_many : is_one_too_many before new.hop ≡ false
    not_too_many = let r = room in let l : length (choices_without before new.hop) ≤ 7 = subst (λ (cs : List Choice). length cs ≤ 7) without r in grind (arith, nat_tests, l)

    pub put_are : IsHop new.hop → new.pref < 2 ^ 16 → AreChoices (choices_with before new)
    put_are i p = with_are before choices new i p not_too_many

    pub put_filled : IsHop new.hop → new.pref < 2 ^ 16 → filled (take k xs ++ Some new ∷ take (length xs - (k + 1)) (drop k xs)) ≡ choices_with before new
    put_filled i p = let f = (put_are i p).few in ap filled with_put ∙ slots.filled_padded 8 (choices_with before new) f
