-- Routes open and close along the addresses of a family.
use Rattle.std.proofs.Common.{◌≡◌, ℕ, suc, ◌+◌, ◌-◌, ◌<◌, ◌≤◌, ◌⊎◌, inl, inr, ⊎_elim, ◌&&◌, false, cond, nat_le, All, List, [], ◌∷◌, ◌++◌, length, map, take, Option, None, Some, refl, sym, ap, ◌∙◌, subst, arith, append_assoc, length-append}
use Rattle.std.proofs.Math.Seq.{take-append_seam}
use Rattle.std.proofs.lemmas.Bool.{cases_lt}
use Rattle.std.proofs.lemmas.Bool.Decides.{nat_tests}
use Rattle.std.proofs.lemmas.List.Elements.{All-nil, All-cons, All-head, All-tail, All-append, All-push, All-pop}
use Rattle.std.proofs.lemmas.List.Quantifiers.{all_pairs_push}
use Rattle.ipnet_addr.proofs.Members.{In}
use Rattle.ipnet_addr.proofs.Ascending.{All-from_In, Rising, Rising-from_pairs, pairs_from_Rising}
use Rattle.ipnet_blocks.proofs.Lists.{rising_cross, rising_front}
use Rattle.route_choices.proofs.Kept.{In-map}
use Rattle.route_table.specs.InnerRouteSpans.{RouteSpan}
use Rattle.route_table.specs.InnerRunning.{topmost, innermost, from_on, IsApartOrInside, IsOpen, IsComing, ArePlaced}
use Rattle.route_table.proofs.PaintedRuns.{IsSpanOf}

-- ---- the topmost of some routes

topmost_append : (k : Option ℕ) (rs ss : List RouteSpan) (x : ℕ) → topmost k (rs ++ ss) x ≡ topmost (topmost k rs x) ss x
topmost_append k [] ss x = refl
topmost_append k (r ∷ rs) ss x = topmost_append (cond (nat_le r.first x && nat_le x r.last) r.number k) rs ss x

abbrev Misses : ℕ → RouteSpan → Type 0
Misses x r = (x < r.first) ⊎ (r.last < x)

abbrev Has : ℕ → RouteSpan → Type 0
Has x r = (r.first ≤ x) × (x ≤ r.last)

-- routes that do not have a number leave it
topmost_apart : (k : Option ℕ) (rs : List RouteSpan) (x : ℕ) → All (Misses x) rs → topmost k rs x ≡ k
topmost_apart k [] x h = refl
topmost_apart k (r ∷ rs) x h =
    let out : cond (nat_le r.first x && nat_le x r.last) r.number k ≡ k = grind (arith, nat_tests, All-head (Misses x) r rs h) in
    ap (λ o. topmost o rs x) out ∙ topmost_apart k rs x (All-tail (Misses x) r rs h)

-- of routes that all have a number the last one tells
topmost_open : (e : ℕ) (k : Option ℕ) (rs : List RouteSpan) (x : ℕ) → All (Has x) rs → topmost k rs x ≡ (innermost (e, k) rs).1
topmost_open e k [] x h = refl
topmost_open e k (r ∷ rs) x h =
    let here : cond (nat_le r.first x && nat_le x r.last) r.number k ≡ r.number = grind (arith, nat_tests, All-head (Has x) r rs h) in
    ap (λ o. topmost o rs x) here ∙ topmost_open r.last r.number rs x (All-tail (Has x) r rs h)

-- ---- the innermost of the open routes

abbrev IsNested : RouteSpan → RouteSpan → Type 0
IsNested a b = (RouteSpan.last b ≤ RouteSpan.last a) × (RouteSpan.len a < RouteSpan.len b)

-- it ends first
inner_least : (e : ℕ) (k : Option ℕ) (rs : List RouteSpan) → Rising IsNested rs → All (λ r. r.last ≤ e) rs → ((innermost (e, k) rs).0 ≤ e) × All (λ r. (innermost (e, k) rs).0 ≤ r.last) rs
inner_least e k [] up h = (omega arith, All-nil (λ r. e ≤ r.last))
inner_least e k (r ∷ rs) up h =
    let t = inner_least r.last r.number rs up.1 (All-from_In (λ s. s.last ≤ r.last) rs (λ s i. (up.0 s i).0)) in
    (omega (arith, t.0, All-head (λ s. s.last ≤ e) r rs h), All-cons (λ s. (innermost (r.last, r.number) rs).0 ≤ s.last) r rs t.0 t.1)

inner_from : (at e : ℕ) (k : Option ℕ) (rs : List RouteSpan) → at ≤ e + 1 → All (λ r. at ≤ r.last + 1) rs → at ≤ (innermost (e, k) rs).0 + 1
inner_from at e k [] l h = l
inner_from at e k (r ∷ rs) l h = inner_from at r.last r.number rs (All-head (λ s. at ≤ s.last + 1) r rs h) (All-tail (λ s. at ≤ s.last + 1) r rs h)

pub inner_pushed : (k : ℕ × Option ℕ) (os : List RouteSpan) (t : RouteSpan) → innermost k (os ++ t ∷ []) ≡ (t.last, t.number)
inner_pushed k [] t = refl
inner_pushed k (o ∷ os) t = inner_pushed (o.last, o.number) os t

-- each open route is longer than those before it
shorter_than : (n m : ℕ) (rs : List RouteSpan) → Rising IsNested rs → All (λ r. (m ≤ r.len) × (r.len < n)) rs → m ≤ n → length rs + m ≤ n
shorter_than n m [] up h l = omega arith
shorter_than n m (r ∷ rs) up h l =
    let o = All-head (λ s. (m ≤ s.len) × (s.len < n)) r rs h in
    let longer : All (λ s. r.len + 1 ≤ s.len) rs = All-from_In (λ s. r.len + 1 ≤ s.len) rs (λ s i. omega (arith, (up.0 s i).1)) in
    omega (arith, o.0, shorter_than n (r.len + 1) rs up.1 (λ i d j. (longer i d j, (All-tail (λ s. (m ≤ s.len) × (s.len < n)) r rs h i d j).1)) (omega (arith, o.1)))

-- ---- lists

pub last_of : (rs : List RouteSpan) → (rs ≡ []) ⊎ ((os : List RouteSpan) × (t : RouteSpan) × (rs ≡ os ++ t ∷ []))
last_of [] = inl refl
last_of (r ∷ rs) = ⊎_elim (λ e. inr ([], r, ap (λ ss. r ∷ ss) e)) (λ p. inr (r ∷ p.0, p.1, ap (λ ss. r ∷ ss) p.2)) (last_of rs)

pub popped : (rs new os : List RouteSpan) (t : RouteSpan) → rs ≡ os ++ t ∷ [] → new ≡ take (length rs - 1) rs → new ≡ os
popped rs new os t e f =
    let l : length rs - 1 ≡ length os = omega (arith, ap length e, length-append os (t ∷ [])) in
    f ∙ ap (λ n. take n rs) l ∙ ap (λ ss. take (length os) ss) e ∙ take-append_seam os (t ∷ [])

pub rising_back : {X : Type 0} (R : X → X → Type 0) (xs ys : List X) → Rising R (xs ++ ys) → Rising R ys
rising_back R [] ys h = h
rising_back R (x ∷ xs) ys h = rising_back R xs ys h.1

pub Rising-map : {A B : Type 0} (R : A → A → Type 0) (S : B → B → Type 0) (f : A → B) (xs : List A) → ((a b : A) → In a xs → In b xs → R a b → S (f a) (f b)) → Rising R xs → Rising S (map f xs)
Rising-map R S f [] h up = tt
Rising-map R S f (x ∷ xs) h up = (
  (λ y i. let t = In-map f xs y i in subst (λ b. S (f x) b) (sym t.2) (h x t.0 (inl refl) (inr t.1) (up.0 t.0 t.1))),
  Rising-map R S f xs (λ a b i j. h a b (inr i) (inr j)) up.1,
)

-- ---- the hops from a place on

-- they depend on those from the place on
same_from : (at : ℕ) (h g : ℕ → Option ℕ) → ((x : ℕ) → at ≤ x → h x ≡ g x) → (x : ℕ) → from_on false at h x ≡ from_on false at g x
same_from at h g same x = ⊎_elim (λ l. grind (arith, nat_tests)) (λ l. ap (λ o. cond (nat_le at x) o None) (same x l)) (cases_lt x at)

-- ---- the open routes and those that come

module _ (stack coming : List RouteSpan) (at end : ℕ) (p : ArePlaced stack coming at end) where
  nests : Rising IsNested stack
  nests = Rising-from_pairs IsNested stack p.nested

  module _ (last : ℕ) (number : Option ℕ) (inner : (last, number) ≡ innermost (end, None) stack) where
    is_last : last ≡ (innermost (end, None) stack).0
    is_last i = (inner i).0

    ends_before : All (λ r. last ≤ r.last) stack
    ends_before = subst (λ n. All (λ r. n ≤ r.last) stack) (sym is_last) (inner_least end None stack nests (λ i d j. (p.opened i d j).fits)).1

    pub ends_within : last ≤ end
    ends_within = omega (arith, is_last, (inner_least end None stack nests (λ i d j. (p.opened i d j).fits)).0)

    pub ends_from : at ≤ last + 1
    ends_from = omega (arith, is_last, inner_from at end None stack (omega (arith, p.order)) (λ i d j. (p.opened i d j).ends))

    -- a span that all open routes have, and no coming one, has the innermost number
    pub span_passed : (to : ℕ) → at ≤ to → to ≤ last → All (λ r. to < r.first) coming → (later : ℕ → Option ℕ) → ((x : ℕ) → x ≤ to → later x ≡ None)
        → ((x : ℕ) → to < x → later x ≡ topmost None (stack ++ coming) x) → IsSpanOf (record { first = at; last = to }) number (from_on false at (topmost None (stack ++ coming))) later
    span_passed to some within far later gone kept = record {
      some = some;
      before = λ x l. grind (arith, nat_tests);
      within = λ x l u. grind (arith, nat_tests, steady x l u);
      gone = gone;
      kept = λ x l. grind (arith, nat_tests, kept x l);
    }
      where
        steady : (x : ℕ) → at ≤ x → x ≤ to → topmost None (stack ++ coming) x ≡ number
        steady x l u =
            topmost_append None stack coming x ∙ topmost_apart (topmost None stack x) coming x (λ i d j. inl (omega (arith, far i d j)))
            ∙ topmost_open end None stack x (λ i d j. (omega (arith, (p.opened i d j).begun), omega (arith, ends_before i d j))) ∙ (λ i. (sym inner i).1)

  -- no route has what is past the family
  topmost_past : (x : ℕ) → end < x → topmost None (stack ++ coming) x ≡ None
  topmost_past x l = topmost_apart None (stack ++ coming) x (All-append (Misses x) stack coming (λ i d j. inr (omega (arith, (p.opened i d j).fits))) (λ i d j. inr (omega (arith, (p.coming' i d j).fits))))

  -- the same routes, at a later place
  moved : (to : ℕ) → at ≤ to → to ≤ end → All (λ r. to ≤ r.last + 1) stack → All (λ r. to ≤ r.first) coming → ArePlaced stack coming to end
  moved to l u ends later = record {
    order = u;
    opened = λ i d j. let o = p.opened i d j in record { begun = omega (arith, o.begun); ends = ends i d j; fits = o.fits };
    nested = p.nested;
    coming' = λ i d j. let o = p.coming' i d j in record { later = later i d j; some = o.some; fits = o.fits; long = o.long };
    apart = p.apart;
    follow = p.follow;
  }

  -- the family closes
  pub family_closes : (number : Option ℕ) → (end, number) ≡ innermost (end, None) stack → All (λ r. end < r.first) coming
      → IsSpanOf (record { first = at; last = end }) number (from_on false at (topmost None (stack ++ coming))) (λ x. None)
  family_closes number inner far = span_passed end number inner end p.order (omega arith) far (λ x. None) (λ x l. refl) (λ x l. sym (topmost_past x l))

pub comes : {stack : List RouteSpan} {r : RouteSpan} {cs : List RouteSpan} {at end : ℕ} → ArePlaced stack (r ∷ cs) at end → IsComing at end r
comes {stack} {r} {cs} {at} {end} p = All-head (IsComing at end) r cs p.coming'

pub in_turn : {stack : List RouteSpan} {r : RouteSpan} {cs : List RouteSpan} {at end : ℕ} → ArePlaced stack (r ∷ cs) at end → All (λ c. r.first ≤ c.first) cs
in_turn p i d j = (p.follow 0 (suc i) d (omega arith) (omega arith)).order

-- the next route opens
module _ (stack : List RouteSpan) (r : RouteSpan) (cs : List RouteSpan) (at end : ℕ) (p : ArePlaced stack (r ∷ cs) at end)
    (last : ℕ) (number : Option ℕ) (inner : (last, number) ≡ innermost (end, None) stack) (by : r.first ≤ last) where
  inside : All (λ s. IsNested s r) stack
  inside i d j = (All-head (IsApartOrInside _) r cs (p.apart i d j)).inside (omega (arith, ends_before stack (r ∷ cs) at end p last number inner i d j))

  pub room : length stack < 129
  room = omega (arith, (comes p).long, shorter_than r.len 0 stack (nests stack (r ∷ cs) at end p) (λ i d j. (omega arith, (inside i d j).1)) (omega arith))

  -- it is passed over
  pub passed_are : ArePlaced stack cs at end
  passed_are = record {
    order = p.order;
    opened = p.opened;
    nested = p.nested;
    coming' = All-tail (IsComing at end) r cs p.coming';
    apart = λ i d j. All-tail (IsApartOrInside _) r cs (p.apart i d j);
    follow = λ i j d l m. p.follow (suc i) (suc j) d (omega arith) (omega arith);
  }

  -- up to it
  pub approached_are : ArePlaced stack (r ∷ cs) r.first end
  approached_are = moved stack (r ∷ cs) at end p r.first (comes p).later (omega (arith, (comes p).some, (comes p).fits))
      (λ i d j. omega (arith, ends_before stack (r ∷ cs) at end p last number inner i d j)) (All-cons (λ c. r.first ≤ c.first) r cs (omega arith) (in_turn p))

  pub opened_are : ArePlaced (stack ++ r ∷ []) cs r.first end
  opened_are = let q = approached_are in record {
    order = q.order;
    opened = All-push (IsOpen r.first end) stack r q.opened (record { begun = omega arith; ends = omega (arith, (comes p).some); fits = (comes p).fits });
    nested = all_pairs_push IsNested stack r p.nested inside;
    coming' = All-tail (IsComing r.first end) r cs q.coming';
    apart = All-push (λ s. All (IsApartOrInside s) cs) stack r (passed_are.apart) (λ i d j. p.follow 0 (suc i) d (omega arith) (omega arith));
    follow = passed_are.follow;
  }

  abbrev before : ℕ → Option ℕ
  before x = from_on false at (topmost None (stack ++ r ∷ cs)) x

  pub opened_here : at ≡ r.first → (x : ℕ) → before x ≡ from_on false r.first (topmost None ((stack ++ r ∷ []) ++ cs)) x
  opened_here e x i = from_on false (e i) (topmost None (sym (append_assoc stack (r ∷ []) cs) i)) x

  pub approached : at < r.first → IsSpanOf (record { first = at; last = r.first - 1 }) number before (from_on false r.first (topmost None (stack ++ r ∷ cs)))
  approached l = span_passed stack (r ∷ cs) at end p last number inner (r.first - 1) (omega arith) (omega arith)
      (All-cons (λ c. r.first - 1 < c.first) r cs (omega arith) (λ i d j. omega (arith, in_turn p i d j))) _ (λ x u. grind (arith, nat_tests)) (λ x u. grind (arith, nat_tests))

  -- where it has the number around it, the others paint the same without it
  passed_over : (x : ℕ) → r.number ≡ number → at ≤ x → topmost None (stack ++ r ∷ cs) x ≡ topmost None (stack ++ cs) x
  passed_over x same from = topmost_append None stack (r ∷ cs) x ∙ ap (λ k. topmost k cs x) unchanged ∙ sym (topmost_append None stack cs x)
    where
      around : x ≤ r.last → topmost None stack x ≡ number
      around u = topmost_open end None stack x (λ i d j. (omega (arith, (p.opened i d j).begun), omega (arith, (inside i d j).0))) ∙ (λ i. (sym inner i).1)

      unchanged : cond (nat_le r.first x && nat_le x r.last) r.number (topmost None stack x) ≡ topmost None stack x
      unchanged = ⊎_elim (λ l. grind (arith, nat_tests)) (λ u. grind (arith, nat_tests, around u)) (cases_lt r.last x)

  pub passed_here : r.number ≡ number → (x : ℕ) → before x ≡ from_on false at (topmost None (stack ++ cs)) x
  passed_here same = same_from at (topmost None (stack ++ r ∷ cs)) (topmost None (stack ++ cs)) (λ x l. passed_over x same l)

-- the innermost route closes
module _ (os : List RouteSpan) (t : RouteSpan) (cs : List RouteSpan) (at end : ℕ) (p : ArePlaced (os ++ t ∷ []) cs at end) (far : All (λ r. t.last < r.first) cs) where
  opened : All (IsOpen at end) os × IsOpen at end t
  opened = All-pop (IsOpen at end) (os ++ t ∷ []) os (Some t) refl p.opened

  pub closed_are : t.last < end → ArePlaced os cs (t.last + 1) end
  closed_are l = moved os cs at end rest (t.last + 1) (opened.1).ends (omega arith)
      (All-from_In (λ r. t.last + 1 ≤ r.last + 1) os (λ r i. omega (arith, (rising_cross IsNested os (t ∷ []) nested r t i (inl refl)).0))) (λ i d j. omega (arith, far i d j))
    where
      nested : Rising IsNested (os ++ t ∷ [])
      nested = nests (os ++ t ∷ []) cs at end p

      rest : ArePlaced os cs at end
      rest = record {
        order = p.order;
        opened = opened.0;
        nested = pairs_from_Rising IsNested os (rising_front IsNested os (t ∷ []) nested);
        coming' = p.coming';
        apart = (All-pop (λ r. All (IsApartOrInside r) cs) (os ++ t ∷ []) os (Some t) refl p.apart).0;
        follow = p.follow;
      }

  closed_paint : (x : ℕ) → t.last < x → topmost None ((os ++ t ∷ []) ++ cs) x ≡ topmost None (os ++ cs) x
  closed_paint x l =
      topmost_append None (os ++ t ∷ []) cs x
      ∙ ap (λ k. topmost k cs x) (topmost_append None os (t ∷ []) x ∙ topmost_apart (topmost None os x) (t ∷ []) x (All-cons (Misses x) t [] (inr l) (All-nil (Misses x))))
      ∙ sym (topmost_append None os cs x)

  abbrev held : ℕ → Option ℕ
  held x = from_on false at (topmost None ((os ++ t ∷ []) ++ cs)) x

  abbrev left : ℕ → Option ℕ
  left x = from_on false (t.last + 1) (topmost None (os ++ cs)) x

  pub closed_here : t.last < at → (x : ℕ) → held x ≡ left x
  closed_here l x =
      same_from at (topmost None ((os ++ t ∷ []) ++ cs)) (topmost None (os ++ cs)) (λ y m. closed_paint y (omega arith)) x
      ∙ ap (λ n. from_on false n (topmost None (os ++ cs)) x) (omega (arith, (opened.1).ends))

  pub closed_later : at ≤ t.last → IsSpanOf (record { first = at; last = t.last }) t.number held left
  closed_later l = span_passed (os ++ t ∷ []) cs at end p t.last t.number (sym (inner_pushed (end, None) os t)) t.last l (omega arith) far left
      (λ x u. grind (arith, nat_tests)) (λ x u. grind (arith, nat_tests, closed_paint x u))
