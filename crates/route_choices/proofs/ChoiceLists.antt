-- The choices of one block after one is put in or taken out.
use Rattle.std.proofs.Common.{◌≡◌, ◌≢◌, suc, ◌<◌, ◌≤◌, ◌^◌, ◌⊎◌, inl, inr, ⊎_elim, Bool, true, false, cond, not, ◌||◌, ◌==◌, List, [], ◌∷◌, Some, filter, length, Contains, ◌↔◌, refl, sym, ap, ◌∙◌, subst, arith}
use Rattle.std.proofs.lemmas.Bool.Decides.{nat_tests}
use Rattle.std.proofs.lemmas.Bool.{or_right}
use Rattle.ipnet_addr.proofs.Basics.{filtered_length}
use Rattle.ipnet_addr.proofs.Members.{In, In-left, In-right, In-cases}
use Rattle.ipnet_addr.proofs.Ascending.{In-from_Contains, Contains-from_In, In-from_All, All-from_In, Rising, Rising-from_pairs, pairs_from_Rising, same_rising}
use Rattle.route_choices.specs.Hops.{IsHop}
use Rattle.route_choices.specs.declared.hop.Hop.{Hop}
use Rattle.route_choices.proofs.Kept.{In-from_filter, In-filter, Rising-kept, Rising-joined, length-mid, length-some_gone, length-apart, all_kept}
use Rattle.route_choices.specs.Choices.{Choice, AreChoices, IsBest, same_hop, beats, best, holds_hop, is_one_too_many, most_choices, choices_with, choices_without}
use Rattle.route_choices.proofs.Preferences.{hop_from_test, test_from_hop, apart_from_test, test_from_apart, strict, total, transitive}

abbrev pub Beats : Choice → Choice → Type 0
Beats c d = beats c d ≡ true

abbrev pub Apart : Choice → Choice → Type 0
Apart c d = c.hop ≢ d.hop

-- ---- the best

pub best_is : (cs : List Choice) → AreChoices cs → (c : Choice) → best cs ≡ Some c → IsBest cs c
best_is [] ok c e = absurd (cc)
best_is (d ∷ cs) ok c e =
    let q : d ≡ c = (let f = e in cc) in
    let r = Rising-from_pairs Beats (d ∷ cs) ok.best_first in
    subst (λ (z : Choice). IsBest (d ∷ cs) z) q (record {
      member = Contains-from_In (d ∷ cs) d (inl refl);
      unbeaten = λ z i. go z (beats z d) refl (⊎_elim (λ p l. strict d d (subst (λ (y : Choice). Beats y d) p l) (subst (λ (y : Choice). Beats y d) p l)) (λ j l. strict d z (r.0 z j) l) (In-from_Contains (d ∷ cs) z i));
    })
  where
    go : (z : Choice) (b : Bool) → beats z d ≡ b → (beats z d ≡ true → ⊥) → beats z d ≡ false
    go z true f none = absurd (none f)
    go z false f none = f

pub is_best : (cs : List Choice) → AreChoices cs → (c : Choice) → IsBest cs c → best cs ≡ Some c
is_best [] ok c b = absurd (In-from_Contains [] c b.member)
is_best (d ∷ cs) ok c b =
    let r = Rising-from_pairs Beats (d ∷ cs) ok.best_first in
    ⊎_elim (λ e. ap Some (sym e)) (λ i. absurd (let l = r.0 c i in let f = b.unbeaten d (Contains-from_In (d ∷ cs) d (inl refl)) in cc)) (In-from_Contains (d ∷ cs) c b.member)

-- ---- members

-- two members of one hop are one
pub one_of_hop : (cs : List Choice) → Rising Apart cs → (c d : Choice) → In c cs → In d cs → c.hop ≡ d.hop → c ≡ d
one_of_hop [] r c d i j e = absurd i
one_of_hop (x ∷ cs) r c d (inl p) (inl q) e = p ∙ sym q
one_of_hop (x ∷ cs) r c d (inl p) (inr j) e = absurd (r.0 d j (ap Choice.hop (sym p) ∙ e))
one_of_hop (x ∷ cs) r c d (inr i) (inl q) e = absurd (r.0 c i (ap Choice.hop (sym q) ∙ sym e))
one_of_hop (x ∷ cs) r c d (inr i) (inr j) e = one_of_hop cs r.1 c d i j e

module _ (cs : List Choice) (h : Hop) where
  pub left_back : (d : Choice) → In d (choices_without cs h) → In d cs × (d.hop ≢ h)
  left_back d i = let t = In-from_filter (λ d. not (same_hop d.hop h)) cs d i in (t.0, apart_from_test d.hop h t.1)

  pub left_other : (d : Choice) → In d cs → d.hop ≢ h → In d (choices_without cs h)
  left_other d i apart = In-filter (λ d. not (same_hop d.hop h)) cs d i (test_from_apart d.hop h apart)

module _ (cs : List Choice) (c : Choice) where
  abbrev others : List Choice
  others = choices_without cs c.hop

  abbrev better : List Choice
  better = filter (λ d. beats d c) others

  abbrev worse : List Choice
  worse = filter (λ d. beats c d) others

  pub put_back : (d : Choice) → In d (choices_with cs c) → (d ≡ c) ⊎ (In d cs × (d.hop ≢ c.hop))
  put_back d i = ⊎_elim
      (λ j. inr (left_back cs c.hop d (In-from_filter (λ d. beats d c) others d j).0))
      (λ j. ⊎_elim (λ e. inl e) (λ k. inr (left_back cs c.hop d (In-from_filter (λ d. beats c d) others d k).0)) j)
      (In-cases d better (c ∷ worse) i)

  pub put_itself : In c (choices_with cs c)
  put_itself = In-right c better (c ∷ worse) (inl refl)

  pub put_other : (d : Choice) → In d cs → d.hop ≢ c.hop → In d (choices_with cs c)
  put_other d i apart =
      let j = left_other cs c.hop d i apart in
      ⊎_elim
      (λ l. In-left d better (c ∷ worse) (In-filter (λ d. beats d c) others d j l))
      (λ l. In-right d better (c ∷ worse) (inr (In-filter (λ d. beats c d) others d j l)))
      (total d c apart)

-- ---- they stay choices

any_in : (h : Hop) (cs : List Choice) → holds_hop cs h ≡ true → (d : Choice) × In d cs × (d.hop ≡ h)
any_in h [] e = absurd (cc)
any_in h (d ∷ cs) e = go (any_in h cs) (same_hop d.hop h) refl
  where
    go : (holds_hop cs h ≡ true → (d : Choice) × In d cs × (d.hop ≡ h)) → (b : Bool) → same_hop d.hop h ≡ b → (z : Choice) × In z (d ∷ cs) × (z.hop ≡ h)
    go rec true q = (d, inl refl, hop_from_test d.hop h q)
    go rec false q = let t = rec (ap (λ b. b || holds_hop cs h) (sym q) ∙ e) in (t.0, inr t.1, t.2)

pub in_any : (h : Hop) (cs : List Choice) (d : Choice) → In d cs → d.hop ≡ h → holds_hop cs h ≡ true
in_any h [] d i e = absurd i
in_any h (x ∷ cs) d (inl p) e = ap (λ b. b || holds_hop cs h) (test_from_hop x.hop h (ap Choice.hop (sym p) ∙ e))
in_any h (x ∷ cs) d (inr i) e = or_right (same_hop x.hop h) (holds_hop cs h) (in_any h cs d i e)

pub any_or_none : (h : Hop) (cs : List Choice) → ((d : Choice) × In d cs × (d.hop ≡ h)) ⊎ ((d : Choice) → In d cs → d.hop ≢ h)
any_or_none h cs = go (holds_hop cs h) refl
  where
    go : (b : Bool) → holds_hop cs h ≡ b → ((d : Choice) × In d cs × (d.hop ≡ h)) ⊎ ((d : Choice) → In d cs → d.hop ≢ h)
    go true e = inl (any_in h cs e)
    go false e = inr (λ d i q. let t = in_any h cs d i q in cc)

-- the choices of other hops are those after the first, if that has the hop
pub without_first : (c : Choice) (cs : List Choice) (h : Hop) → AreChoices (c ∷ cs) → c.hop ≡ h → choices_without (c ∷ cs) h ≡ cs
without_first c cs h are e =
    ap (λ b. cond (not b) (c ∷ choices_without cs h) (choices_without cs h)) (test_from_hop c.hop h e)
    ∙ all_kept (λ d. not (same_hop d.hop h)) cs (λ d i. test_from_apart d.hop h (λ q. (Rising-from_pairs Apart (c ∷ cs) are.once).0 d i (e ∙ sym q)))

-- where no choice of another hop is left, there was one of this hop
pub only_held : (cs : List Choice) (h : Hop) → (cs ≡ [] → ⊥) → choices_without cs h ≡ [] → holds_hop cs h ≡ true
only_held [] h some none = absurd (some refl)
only_held (c ∷ cs) h some none = go (same_hop c.hop h) refl
  where
    go : (b : Bool) → same_hop c.hop h ≡ b → holds_hop (c ∷ cs) h ≡ true
    go true q = ap (λ b. b || holds_hop cs h) q
    go false q = absurd (let e = ap (λ b. cond (not b) (c ∷ choices_without cs h) (choices_without cs h)) (sym q) ∙ none in cc)

module _ (cs : List Choice) (ok : AreChoices cs) where
  rising : Rising Beats cs
  rising = Rising-from_pairs Beats cs ok.best_first

  apart : Rising Apart cs
  apart = Rising-from_pairs Apart cs ok.once

  pub without_are : (h : Hop) → AreChoices (choices_without cs h)
  without_are h = record {
    few = (let l = filtered_length (λ d. not (same_hop d.hop h)) cs in let m = ok.few in omega arith);
    hops = All-from_In (λ d. IsHop d.hop) (choices_without cs h) (λ d i. In-from_All (λ d. IsHop d.hop) cs ok.hops d (left_back cs h d i).0);
    prefs = All-from_In (λ d. d.pref < 2 ^ 16) (choices_without cs h) (λ d i. In-from_All (λ d. d.pref < 2 ^ 16) cs ok.prefs d (left_back cs h d i).0);
    best_first = pairs_from_Rising Beats (choices_without cs h) (Rising-kept Beats (λ d. not (same_hop d.hop h)) cs rising);
    once = pairs_from_Rising Apart (choices_without cs h) (Rising-kept Apart (λ d. not (same_hop d.hop h)) cs apart);
  }

  -- a hop that is not there takes nothing out
  pub without_none : (h : Hop) → ((d : Choice) → In d cs → d.hop ≢ h) → choices_without cs h ≡ cs
  without_none h none = all_kept (λ d. not (same_hop d.hop h)) cs (λ d i. test_from_apart d.hop h (none d i))

  -- where eight other hops are stored, there is no choice of this one
  pub full_without : (h : Hop) → is_one_too_many cs h ≡ true → choices_without cs h ≡ cs
  full_without h e = ⊎_elim
      (λ t. absurd (
      let l = length-some_gone (λ d. not (same_hop d.hop h)) cs t.0 t.1 (ap not (test_from_hop t.0.hop h t.2)) in
      let m = ok.few in
      let n : length (choices_without cs h) ≡ 8 = grind (arith, nat_tests, e) in
      omega arith))
      (λ none. without_none h none)
      (any_or_none h cs)

  module _ (c : Choice) where
    length-put : length (choices_with cs c) ≤ suc (length (choices_without cs c.hop))
    length-put =
        let e = length-mid c (better cs c) (worse cs c) in
        let l = length-apart (λ d. beats d c) (λ d. beats c d) (others cs c) (λ d p q. strict d c p q) in
        omega arith

    pub fits : is_one_too_many cs c.hop ≡ false → length (choices_with cs c) ≤ most_choices
    fits e =
        let m = length-put in
        let n = (without_are c.hop).few in
        let d : length (choices_without cs c.hop) ≢ 8 = (λ q. let t : (length (choices_without cs c.hop) == 8) ≡ true = grind (arith, nat_tests, q) in cc) in
        grind (arith, d, n, m)

    pub with_are : IsHop c.hop → c.pref < 2 ^ 16 → is_one_too_many cs c.hop ≡ false → AreChoices (choices_with cs c)
    with_are hop pref e = record {
      few = fits e;
      hops = All-from_In (λ d. IsHop d.hop) (choices_with cs c) (λ d i. ⊎_elim (λ q. subst (λ (z : Choice). IsHop z.hop) (sym q) hop) (λ t. In-from_All (λ d. IsHop d.hop) cs ok.hops d t.0) (put_back cs c d i));
      prefs = All-from_In (λ d. d.pref < 2 ^ 16) (choices_with cs c) (λ d i. ⊎_elim (λ q. subst (λ (z : Choice). z.pref < 2 ^ 16) (sym q) pref) (λ t. In-from_All (λ d. d.pref < 2 ^ 16) cs ok.prefs d t.0) (put_back cs c d i));
      best_first = pairs_from_Rising Beats (choices_with cs c) (Rising-joined Beats (better cs c) (c ∷ worse cs c)
          (Rising-kept Beats (λ d. beats d c) (others cs c) below)
          ((λ d i. (In-from_filter (λ d. beats c d) (others cs c) d i).1), Rising-kept Beats (λ d. beats c d) (others cs c) below)
          (λ x y i j.
          let l = (In-from_filter (λ d. beats d c) (others cs c) x i).1 in
          ⊎_elim (λ q. subst (λ (z : Choice). Beats x z) (sym q) l) (λ k. transitive x c y l (In-from_filter (λ d. beats c d) (others cs c) y k).1) j));
      once = pairs_from_Rising Apart (choices_with cs c) (Rising-joined Apart (better cs c) (c ∷ worse cs c)
          (Rising-kept Apart (λ d. beats d c) (others cs c) distinct)
          ((λ d i q. (left_back cs c.hop d (In-from_filter (λ d. beats c d) (others cs c) d i).0).1 (sym q)), Rising-kept Apart (λ d. beats c d) (others cs c) distinct)
          (λ x y i j.
          let s = In-from_filter (λ d. beats d c) (others cs c) x i in
          ⊎_elim (λ q f. (left_back cs c.hop x s.0).1 (f ∙ ap Choice.hop q))
          (λ k f. let t = In-from_filter (λ d. beats c d) (others cs c) y k in
          strict c y t.1 (subst (λ (z : Choice). Beats z c) (one_of_hop (others cs c) distinct x y s.0 t.0 f) s.1)) j));
    }
      where
        below : Rising Beats (others cs c)
        below = Rising-kept Beats (λ d. not (same_hop d.hop c.hop)) cs rising

        distinct : Rising Apart (others cs c)
        distinct = Rising-kept Apart (λ d. not (same_hop d.hop c.hop)) cs apart

-- none, and one
pub none_are : AreChoices []
none_are = record {
  few = omega arith;
  hops = All-from_In (λ d. IsHop d.hop) [] (λ d i. absurd i);
  prefs = All-from_In (λ d. d.pref < 2 ^ 16) [] (λ d i. absurd i);
  best_first = pairs_from_Rising Beats [] tt;
  once = pairs_from_Rising Apart [] tt;
}

pub one_is : (c : Choice) → IsHop c.hop → c.pref < 2 ^ 16 → AreChoices (c ∷ [])
one_is c hop pref = with_are [] none_are c hop pref refl

-- ---- equal choices

-- choices with the same members are the same
pub same_choices : (cs ds : List Choice) → AreChoices cs → AreChoices ds → ((d : Choice) → In d cs → In d ds) → ((d : Choice) → In d ds → In d cs) → cs ≡ ds
same_choices cs ds ok okd f g = same_rising Beats strict cs ds (Rising-from_pairs Beats cs ok.best_first) (Rising-from_pairs Beats ds okd.best_first) f g

pub none_of : (cs : List Choice) (h : Hop) → holds_hop cs h ≡ false → (d : Choice) → In d cs → d.hop ≢ h
none_of cs h e d i q = let t = in_any h cs d i q in cc

-- the members, as `Contains`
pub put_is : (cs : List Choice) (c d : Choice) → Contains (choices_with cs c) d ↔ ((d ≡ c) ⊎ (Contains cs d × (d.hop ≢ c.hop)))
put_is cs c d = (
  (λ i. ⊎_elim (λ e. inl e) (λ t. inr (Contains-from_In cs d t.0, t.1)) (put_back cs c d (In-from_Contains (choices_with cs c) d i))),
  (λ s. Contains-from_In (choices_with cs c) d (⊎_elim (λ e. subst (λ (z : Choice). In z (choices_with cs c)) (sym e) (put_itself cs c)) (λ t. put_other cs c d (In-from_Contains cs d t.0) t.1) s)),
)
