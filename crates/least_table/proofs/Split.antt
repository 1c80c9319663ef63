-- A table by the route of the whole block and the tables of the halves.
use Rattle.std.proofs.Common.{◌≡◌, ℕ, suc, Bool, true, false, cond, List, [], ◌∷◌, ◌++◌, length, Option, Some, None, refl, sym, ap₂, ◌∙◌, arith}
use Rattle.std.proofs.lemmas.Bool.Decides.{nat_tests}
use Rattle.least_table.specs.Tables.{Absent, IsBitTable, GivesHops, half, half_of, inside, longest_route, hop_inheriting, own, passed}
use Rattle.least_table.specs.Wholes.{whole, with_own, without_own}

abbrev pub lifted : Bool → Option (Option ℕ) → Option (List Bool × Option ℕ) → Option (List Bool × Option ℕ)
lifted b o (Some r) = Some (b ∷ r.0, r.1)
lifted b (Some k) None = Some ([], k)
lifted b None None = None

pub longest_route-half : (t : List (List Bool × Option ℕ)) (b : Bool) (x : List Bool) → longest_route t (b ∷ x) ≡ lifted b (own t) (longest_route (half t b) x)
longest_route-half [] b x = refl
longest_route-half (([], k) ∷ t) b x = grind (arith, nat_tests, longest_route-half t b x)
longest_route-half ((false ∷ c, k) ∷ t) false x = grind (arith, nat_tests, longest_route-half t false x)
longest_route-half ((true ∷ c, k) ∷ t) true x = grind (arith, nat_tests, longest_route-half t true x)
longest_route-half (_ ∷ t) b x = longest_route-half t b x

-- the hop of an address is its hop in its half, under what the table's own route hands down
pub hop-half : (s : Option ℕ) (t : List (List Bool × Option ℕ)) (b : Bool) (x : List Bool) → hop_inheriting s t (b ∷ x) ≡ hop_inheriting (passed s (own t)) (half t b) x
hop-half s t b x = grind (arith, longest_route-half t b x)

pub IsBitTable-half : (w : ℕ) (t : List (List Bool × Option ℕ)) (b : Bool) → IsBitTable (suc w) t → IsBitTable w (half t b)
IsBitTable-half w t b h = go t b h
  where
    Absent-half : (t : List (List Bool × Option ℕ)) (b : Bool) (c : List Bool) → Absent (b ∷ c) t → Absent c (half t b)
    Absent-half [] b c h = tt
    Absent-half ((false ∷ d, k) ∷ t) false c h = ((λ e. h.0 (cc)), Absent-half t false c h.1)
    Absent-half ((true ∷ d, k) ∷ t) true c h = ((λ e. h.0 (cc)), Absent-half t true c h.1)
    Absent-half (_ ∷ t) b c h = Absent-half t b c h.1

    go : (t : List (List Bool × Option ℕ)) (b : Bool) → IsBitTable (suc w) t → IsBitTable w (half t b)
    go [] b h = tt
    go ((false ∷ c, k) ∷ t) false h = (omega (arith, h.0), Absent-half t false c h.1, go t false h.2)
    go ((true ∷ c, k) ∷ t) true h = (omega (arith, h.0), Absent-half t true c h.1, go t true h.2)
    go (_ ∷ t) b h = go t b h.2

-- ---- the tables of the halves, joined

abbrev pub joined : List (List Bool × Option ℕ) → List (List Bool × Option ℕ) → List (List Bool × Option ℕ)
joined l r = inside false l ++ inside true r

pub half-joined : (l r : List (List Bool × Option ℕ)) (b : Bool) → half (joined l r) b ≡ cond b r l
half-joined [] [] true = refl
half-joined [] [] false = refl
half-joined [] (q ∷ r) true = cc (half-joined [] r true)
half-joined [] (q ∷ r) false = half-joined [] r false
half-joined (q ∷ l) r true = half-joined l r true
half-joined (q ∷ l) r false = cc (half-joined l r false)

pub own-joined : (l r : List (List Bool × Option ℕ)) → own (joined l r) ≡ None
own-joined [] [] = refl
own-joined [] (q ∷ r) = own-joined [] r
own-joined (q ∷ l) r = own-joined l r

Absent-joined : (b : Bool) (c : List Bool) (l r : List (List Bool × Option ℕ)) → Absent c (cond b r l) → Absent (b ∷ c) (joined l r)
Absent-joined b c [] [] h = tt
Absent-joined true c [] (q ∷ r) h = ((λ e. h.0 (cc)), Absent-joined true c [] r h.1)
Absent-joined false c [] (q ∷ r) h = ((λ e. cc), Absent-joined false c [] r h)
Absent-joined true c (q ∷ l) r h = ((λ e. cc), Absent-joined true c l r h)
Absent-joined false c (q ∷ l) r h = ((λ e. h.0 (cc)), Absent-joined false c l r h.1)

IsBitTable-joined : (w : ℕ) (l r : List (List Bool × Option ℕ)) → IsBitTable w l → IsBitTable w r → IsBitTable (suc w) (joined l r)
IsBitTable-joined w [] [] h k = tt
IsBitTable-joined w [] (q ∷ r) h k = (omega (arith, k.0), Absent-joined true q.0 [] r k.1, IsBitTable-joined w [] r h k.2)
IsBitTable-joined w (q ∷ l) r h k = (omega (arith, h.0), Absent-joined false q.0 l r h.1, IsBitTable-joined w l r h.2 k)

-- ---- a table without the route of the whole block

pub own-bare : (t : List (List Bool × Option ℕ)) → own (without_own t) ≡ None
own-bare [] = refl
own-bare (([], k) ∷ t) = own-bare t
own-bare (_ ∷ t) = own-bare t

pub half-bare : (t : List (List Bool × Option ℕ)) (b : Bool) → half (without_own t) b ≡ half t b
half-bare [] b = refl
half-bare ((false ∷ c, k) ∷ t) false = cc (half-bare t false)
half-bare ((true ∷ c, k) ∷ t) true = cc (half-bare t true)
half-bare (_ ∷ t) b = half-bare t b

pub IsBitTable-bare : (w : ℕ) (t : List (List Bool × Option ℕ)) → IsBitTable w t → IsBitTable w (without_own t)
IsBitTable-bare w [] h = tt
IsBitTable-bare w (([], k) ∷ t) h = IsBitTable-bare w t h.2
IsBitTable-bare w ((b ∷ c, k) ∷ t) h = (h.0, Absent-bare t h.1, IsBitTable-bare w t h.2)
  where
    Absent-bare : (t : List (List Bool × Option ℕ)) → Absent (b ∷ c) t → Absent (b ∷ c) (without_own t)
    Absent-bare [] h = tt
    Absent-bare (([], k) ∷ t) h = Absent-bare t h.1
    Absent-bare (_ ∷ t) h = (h.0, Absent-bare t h.1)

pub own-absent : (t : List (List Bool × Option ℕ)) → Absent [] t → own t ≡ None
own-absent [] h = refl
own-absent (([], k) ∷ t) h = absurd (h.0 refl)
own-absent (_ ∷ t) h = own-absent t h.1

none_absent : (t : List (List Bool × Option ℕ)) → own t ≡ None → Absent [] t
none_absent [] e = tt
none_absent (([], k) ∷ t) e = cc
none_absent (_ ∷ t) e = ((λ f. cc), none_absent t e)

-- ---- a table with another route of the whole block

pub own-with : (o : Option (Option ℕ)) (t : List (List Bool × Option ℕ)) → own t ≡ None → own (with_own o t) ≡ o
own-with o t e = grind arith

pub half-with : (o : Option (Option ℕ)) (t : List (List Bool × Option ℕ)) (b : Bool) → half (with_own o t) b ≡ half t b
half-with o t b = grind arith

pub IsBitTable-with : (w : ℕ) (o : Option (Option ℕ)) (t : List (List Bool × Option ℕ)) → own t ≡ None → IsBitTable w t → IsBitTable w (with_own o t)
IsBitTable-with w None t e h = h
IsBitTable-with w (Some k) t e h = (omega arith, none_absent t e, h)

pub own-whole : (o : Option (Option ℕ)) (l r : List (List Bool × Option ℕ)) → own (whole o l r) ≡ o
own-whole o l r = own-with o (joined l r) (own-joined l r)

pub half-whole : (o : Option (Option ℕ)) (l r : List (List Bool × Option ℕ)) (b : Bool) → half (whole o l r) b ≡ cond b r l
half-whole o l r b = half-with o (joined l r) b ∙ half-joined l r b

pub IsBitTable-whole : (w : ℕ) (o : Option (Option ℕ)) (l r : List (List Bool × Option ℕ)) → IsBitTable w l → IsBitTable w r → IsBitTable (suc w) (whole o l r)
IsBitTable-whole w o l r a b = IsBitTable-with (suc w) o (joined l r) (own-joined l r) (IsBitTable-joined w l r a b)

-- ---- the hops

-- only an own route contains the empty address
pub hop-empty : (w : ℕ) (s : Option ℕ) (t : List (List Bool × Option ℕ)) → IsBitTable w t → hop_inheriting s t [] ≡ passed s (own t)
hop-empty w s [] h = refl
hop-empty w s (([], k) ∷ t) h = grind (arith, longest_route-empty t (own-absent t h.1))
  where
    longest_route-empty : (t : List (List Bool × Option ℕ)) → own t ≡ None → longest_route t [] ≡ None
    longest_route-empty [] e = refl
    longest_route-empty (([], k) ∷ t) e = cc
    longest_route-empty (_ ∷ t) e = longest_route-empty t e
hop-empty w s (_ ∷ t) h = hop-empty w s t h.2

-- a route of the whole block covers all addresses
pub own_covers : (w : ℕ) (t : List (List Bool × Option ℕ)) (x : List Bool) → IsBitTable w t → longest_route t x ≡ None → own t ≡ None
own_covers w t [] h e = go (own t) (λ s. sym (hop-empty w s t h) ∙ rw e refl)
  where
    go : (o : Option (Option ℕ)) → ((s : Option ℕ) → passed s o ≡ s) → o ≡ None
    go o f = grind (arith, f None, f (Some 0))
own_covers w t (b ∷ x) h e = grind (arith, longest_route-half t b x)

-- two tables with the same halves have the same hops if the halves inherit the same
pub same_hops : (w : ℕ) (s j : Option ℕ) (t u : List (List Bool × Option ℕ)) → IsBitTable w t → IsBitTable w u → passed s (own t) ≡ passed j (own u) → ((b : Bool) → half t b ≡ half u b) → (x : List Bool) → hop_inheriting s t x ≡ hop_inheriting j u x
same_hops w s j t u h k e f [] = hop-empty w s t h ∙ e ∙ sym (hop-empty w j u k)
same_hops w s j t u h k e f (b ∷ x) = hop-half s t b x ∙ ap₂ (λ v p. hop_inheriting v p x) e (f b) ∙ sym (hop-half j u b x)

module _ (w : ℕ) (h : List Bool → Option ℕ) where
  GivesHops-same : (s j : Option ℕ) (t u : List (List Bool × Option ℕ)) → IsBitTable w t → passed s (own t) ≡ passed j (own u) → ((b : Bool) → half t b ≡ half u b) → GivesHops w h j u → GivesHops w h s t
  GivesHops-same s j t u table e f g = record { table = table; same = λ x l. same_hops w s j t u table g.table e f x ∙ g.same x l }

  pub GivesHops-with : (s : Option ℕ) (o : Option (Option ℕ)) (t : List (List Bool × Option ℕ)) → own t ≡ None → GivesHops w h (passed s o) t → GivesHops w h s (with_own o t)
  GivesHops-with s o t e g = GivesHops-same s (passed s o) (with_own o t) t (IsBitTable-with w o t e g.table) (grind arith) (half-with o t) g

  pub GivesHops-bare : (s : Option ℕ) (t : List (List Bool × Option ℕ)) → GivesHops w h s t → GivesHops w h (passed s (own t)) (without_own t)
  GivesHops-bare s t g = GivesHops-same (passed s (own t)) s (without_own t) t (IsBitTable-bare w t g.table) (rw (own-bare t) refl) (half-bare t) g

  -- under an own route nothing else counts
  pub GivesHops-any : (s k j : Option ℕ) (t : List (List Bool × Option ℕ)) → own t ≡ Some j → GivesHops w h k t → GivesHops w h s t
  GivesHops-any s k j t e g = GivesHops-same s k t t g.table (rw e refl) (λ b. refl) g

  -- the halves of a table give the hops of the halves, if they inherit its own hop
  pub GivesHops-half : (s : Option ℕ) (t : List (List Bool × Option ℕ)) → GivesHops (suc w) h s t → (b : Bool) → GivesHops w (half_of b h) (passed s (own t)) (half t b)
  GivesHops-half s t g b = record { table = IsBitTable-half w t b g.table; same = λ x e. sym (hop-half s t b x) ∙ g.same (b ∷ x) (omega (arith, e)) }

  -- tables of the halves that inherit a hop make a table of the whole that passes it
  pub GivesHops-whole : (s : Option ℕ) (o : Option (Option ℕ)) (l r : List (List Bool × Option ℕ)) → GivesHops w (half_of false h) (passed s o) l → GivesHops w (half_of true h) (passed s o) r → GivesHops (suc w) h s (whole o l r)
  GivesHops-whole s o l r gl gr = record { table = IsBitTable-whole w o l r gl.table gr.table; same = at }
    where
      under : (b : Bool) (x : List Bool) → hop_inheriting s (whole o l r) (b ∷ x) ≡ hop_inheriting (passed s o) (cond b r l) x
      under b x = rw (hop-half s (whole o l r) b x, own-whole o l r, half-whole o l r b) refl

      at : (x : List Bool) → length x ≡ suc w → hop_inheriting s (whole o l r) x ≡ h x
      at [] e = absurd (omega (arith, e))
      at (false ∷ x) e = under false x ∙ gl.same x (omega (arith, e))
      at (true ∷ x) e = under true x ∙ gr.same x (omega (arith, e))
