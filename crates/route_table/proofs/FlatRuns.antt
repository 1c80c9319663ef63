-- A walk over the runs of both families gives the flat list: the blocks of the first run, and then that of the hops that are left.
use Rattle.std.proofs.Common.{◌≡◌, ℕ, ◌+◌, ◌^◌, ◌==◌, ◌<◌, ◌≤◌, ◌⊎◌, inl, inr, ⊎_elim, ◌↔◌, List, [], ◌∷◌, ◌++◌, map, filter, All, Option, Some, None, refl, sym, ap, ◌∙◌, subst, arith, length}
use Rattle.std.proofs.lemmas.Bool.Decides.{nat_tests}
use Rattle.std.proofs.lemmas.List.{length-map, nil_from_length}
use Rattle.std.proofs.lemmas.Option.{none-some}
use native.Mathlib.Decide.{ℕ_discrete}
use Rattle.ipnet_addr.specs.Addresses.{Family, Ipv4, Ipv6, width, rank, Address, IsAddress}
use Rattle.ipnet_addr.proofs.Members.{In, In-left, In-right, In-cases}
use Rattle.ipnet_addr.proofs.Ascending.{In-from_All, In-from_Contains, Contains-from_In, Rising-from_pairs, pairs_from_Rising}
use Rattle.ipnet_blocks.specs.Blocks.{Block, IsBefore, first, first_of}
use Rattle.ipnet_blocks.specs.Cuts.{cut}
use Rattle.ipnet_blocks.specs.Maximal.{IsMaximal, IsMaximalBlock}
use Rattle.ipnet_blocks.specs.Networks.{Network}
use Rattle.ipnet_blocks.specs.InnerSpans.{limits_of}
use Rattle.ipnet_blocks.specs.declared.aggregate.Span.{Span}
use Rattle.ipnet_blocks.proofs.BlockLaws.{has_first}
use Rattle.ipnet_blocks.proofs.Cuts.{Between, cut_is_exact}
use Rattle.ipnet_blocks.proofs.Lists.{rising_append, rising_front}
use Rattle.ipnet_blocks.proofs.Unions.{IsFarBefore, maximal_join, maximal_same}
use Rattle.ipnet.specs.IpNets.{block, network_at}
use Rattle.ipnet.specs.IpSubnets.{ip_cut, ip_limits, ip_subnets}
use Rattle.ipnet.specs.declared.ip_net.IpNet.{IpNet}
use Rattle.ipnet.specs.declared.subnets.IpSubnets.{IpSubnets}
use Rattle.route_choices.proofs.Kept.{In-filter, In-from_filter, In-map, map_In}
use Rattle.route_laws.specs.Flats.{Piece, IsFlat, blocks_of, flat_of}
use Rattle.route_laws.specs.Tables.{Route, IsTable, hop_at}
use Rattle.route_laws.proofs.Flats.{flat_bound, Sooner, flat_is_shortest, flat_moved, same_flat, tells, maximal_same as block_same, search_is_flat, own_is_maximal}
use Rattle.route_laws.proofs.Insides.{rising, sound, table_of}
use Rattle.route_laws.proofs.Matches.{Rising-map, no_members}
use Rattle.route_laws.proofs.Alterations.{Sooner as RouteSooner}
use Rattle.route_table.specs.Given.{AreFamilies, IsFlatOf}
use Rattle.route_table.specs.InnerFlattening.{piece_of, pieces_of, pieces_left, hops_in, hops_of, AreBoth}
use Rattle.route_table.specs.InnerRouteSpans.{Run}
use Rattle.route_table.specs.InnerRunning.{IsFirstRun, hops_left, topmost, route_span_of}
use Rattle.route_table.specs.declared.flat.BothRuns.{BothRuns}
use Rattle.route_table.specs.declared.flat.Pieces.{Pieces}
use Rattle.route_table.specs.declared.runs.Runs.{Runs}
use Rattle.route_table.proofs.Gaps.{blocks_given, some_cut, cut_of_limits}
use Rattle.route_table.proofs.Openings.{rising_back}
use Rattle.route_table.proofs.Painted.{topmost_is}

-- ---- the first span

-- the blocks of a span are the maximal ones
pub cut_is_maximal : (f : Family) (s : Span) → s.first ≤ s.last → s.last < 2 ^ width f → IsMaximal (Between f s.first s.last) (cut f (limits_of s))
cut_is_maximal f s some top =
    let h = cut_is_exact f (limits_of s) top (omega arith) in
    record {
      ascending = h.ascending;
      exact = λ b. (
        (λ i. let c = (h.exact b).0 i in record { within = c.within; largest = λ d w l. c.largest d (omega arith) w l }),
        (λ m. (h.exact b).1 (record { within = m.within; long = omega arith; largest = λ d _ w l. m.largest d w l })),
      );
    }

-- the address is past the span
abbrev IsPastSpan : Family → Span → Address → Type 0
IsPastSpan f s x = (rank f < rank x.family) ⊎ ((x.family ≡ f) × (s.last < x.number))

-- hops of which a span is the first run, and the hops without it
record IsFirstSpan (f : Family) (s : Span) (n : ℕ) (h later : Address → Option ℕ) : Type 0 where
  some : s.first ≤ s.last
  top : s.last < 2 ^ width f
  within : (x : Address) → Between f s.first s.last x → h x ≡ Some n
  ends : h (record { family = f; number = s.last + 1 }) ≡ Some n → ⊥
  past : (x : Address) (k : ℕ) → later x ≡ Some k → IsPastSpan f s x
  kept : (x : Address) (k : ℕ) → later x ≡ Some k → h x ≡ Some k
  split : (x : Address) (k : ℕ) → h x ≡ Some k → Between f s.first s.last x ⊎ (later x ≡ Some k)

module _ (f : Family) (s : Span) (n : ℕ) (h later : Address → Option ℕ) (is : IsFirstSpan f s n h later) (ps : List Piece) (flat : IsFlat later ps) where
  abbrev bs : List Block
  bs = cut f (limits_of s)

  -- the blocks of the number that follow
  abbrev own : List Block
  own = blocks_of (filter (λ p. p.number == n) ps)

  abbrev all : List Piece
  all = map (piece_of n) bs ++ ps

  cut_here : IsMaximal (Between f s.first s.last) bs
  cut_here = cut_is_maximal f s is.some is.top

  far : (x y : Address) → Between f s.first s.last x → later y ≡ Some n → IsFarBefore x y
  far x y m e = ⊎_elim
      (λ (l : rank f < rank y.family). inl (omega (arith, ap rank m.0)))
      (λ (o : (y.family ≡ f) × (s.last < y.number)). let other : y.number ≡ s.last + 1 → ⊥ = apart o.0 in inr (m.0 ∙ sym o.0, omega (arith, m.2, o.1)))
      (is.past y n e)
    where
      apart : y.family ≡ f → y.number ≡ s.last + 1 → ⊥
      apart o at = is.ends (subst (λ (z : Address). h z ≡ Some n) (λ i. record { family = o i; number = at i }) (is.kept y n e))

  joined_here : IsMaximal (λ x. h x ≡ Some n) (bs ++ own)
  joined_here = maximal_same (λ x. Between f s.first s.last x ⊎ (later x ≡ Some n)) (λ x. h x ≡ Some n)
      (λ x _ i. ⊎_elim (is.within x) (is.kept x n) i) (λ x _ e. is.split x n e)
      _ (maximal_join (Between f s.first s.last) (λ x. later x ≡ Some n) far bs own cut_here (own_is_maximal later ps n flat))

  -- the pieces of its number
  own_exact : (b : Block) → In (piece_of n b) all ↔ IsMaximalBlock (λ x. h x ≡ Some n) b
  own_exact b = (
    (λ i. (joined_here.exact b).0 (Contains-from_In (bs ++ own) b (⊎_elim
        (λ j. let t = In-map (piece_of n) bs (piece_of n b) j in In-left b bs own (subst (λ c. In c bs) (λ k. Piece.block (sym t.2 k)) t.1))
        (λ j. In-right b bs own (map_In (λ p. p.block) (filter (λ p. p.number == n) ps) (piece_of n b) (In-filter (λ p. p.number == n) ps (piece_of n b) j (grind (arith, nat_tests)))))
        (In-cases (piece_of n b) (map (piece_of n) bs) ps i)))),
    (λ m. ⊎_elim
        (λ j. In-left (piece_of n b) (map (piece_of n) bs) ps (map_In (piece_of n) bs b j))
        (λ j.
        let t = In-map (λ p. p.block) (filter (λ p. p.number == n) ps) b j in
        let u = In-from_filter (λ p. p.number == n) ps t.0 t.1 in
        let k : Piece.number t.0 ≡ n = grind (arith, nat_tests, u.1) in
        In-right (piece_of n b) (map (piece_of n) bs) ps (subst (λ (q : Piece). In q ps) (λ i. record { block = sym t.2 i; number = k i }) u.0))
        (In-cases b bs own (In-from_Contains (bs ++ own) b ((joined_here.exact b).1 m)))),
  )

  -- for any other number the span does not count
  other_exact : (p : Piece) → (p.number ≡ n → ⊥) → In p all ↔ IsMaximalBlock (λ x. h x ≡ Some p.number) p.block
  other_exact p other = (
    (λ i. block_same (λ x. later x ≡ Some p.number) (λ x. h x ≡ Some p.number) (λ x _ e. is.kept x p.number e) to_later p.block ((flat.exact p).0 (Contains-from_In ps p (⊎_elim
        (λ j. absurd (other (ap Piece.number (In-map (piece_of n) bs p j).2))) (λ j. j) (In-cases p (map (piece_of n) bs) ps i))))),
    (λ m. In-right p (map (piece_of n) bs) ps (In-from_Contains ps p ((flat.exact p).1 (block_same (λ x. h x ≡ Some p.number) (λ x. later x ≡ Some p.number) to_later (λ x _ e. is.kept x p.number e) p.block m)))),
  )
    where
      to_later : (x : Address) → IsAddress x → h x ≡ Some p.number → later x ≡ Some p.number
      to_later x _ e = ⊎_elim (λ m. let w = is.within x m in absurd (other (let g : Some p.number ≡ Some n = sym e ∙ w in cc))) (λ l. l) (is.split x p.number e)

  exact : (p : Piece) → In p all ↔ IsMaximalBlock (λ x. h x ≡ Some p.number) p.block
  exact p = go (ℕ_discrete p.number n)
    where
      go : Dec (p.number ≡ n) → In p all ↔ IsMaximalBlock (λ x. h x ≡ Some p.number) p.block
      go (yes e) = subst (λ (q : Piece). In q all ↔ IsMaximalBlock (λ x. h x ≡ Some q.number) q.block) (λ i. record { block = p.block; number = sym e i }) (own_exact p.block)
      go (no o) = other_exact p o

  in_order : (p q : Piece) → In p (map (piece_of n) bs) → In q ps → Sooner p q
  in_order p q i j =
      let t = In-map (piece_of n) bs p i in
      let b = ((cut_here.exact t.0).0 (Contains-from_In bs t.0 t.1)).within.all (first_of t.0) (has_first t.0) in
      subst (λ (c : Block). IsBefore c q.block) (λ k. Piece.block (sym t.2 k))
      (⊎_elim (λ l. inl (omega (arith, l, ap rank b.0))) (λ o. inr (inl (omega (arith, ap rank b.0, ap rank o.0), omega (arith, b.2, o.1))))
      (is.past (first_of q.block) q.number (tells later ps flat q j (first_of q.block) (has_first q.block))))

  first_is_flat : IsFlat h all
  first_is_flat = record {
    ascending = pairs_from_Rising Sooner all (rising_append Sooner (map (piece_of n) bs) ps
        (Rising-map IsBefore Sooner (piece_of n) (λ a b l. l) bs (Rising-from_pairs IsBefore bs cut_here.ascending)) (Rising-from_pairs Sooner ps flat.ascending) in_order);
    exact = λ p. ((λ c. (exact p).0 (In-from_Contains all p c)), (λ m. Contains-from_In all p ((exact p).1 m)));
  }

first_then_rest : (f : Family) (s : Span) (n : ℕ) (h later : Address → Option ℕ) → IsFirstSpan f s n h later → flat_of h ≡ map (piece_of n) (cut f (limits_of s)) ++ flat_of later
first_then_rest f s n h later is = (same_flat h h _ _ (search_is_flat h) (first_is_flat f s n h later is (flat_of later) (search_is_flat later))).1 (λ x a. refl)

-- ---- the first run of one of the families

module _ (h later : ℕ → Option ℕ) (r : Run) (is : IsFirstRun h r later) (f : Family) (top : r.span.last < 2 ^ width f) (H L : Address → Option ℕ) (same : (x : ℕ) → H (record { family = f; number = x }) ≡ h x)
    (at : (x : Address) → ((x.family ≡ f) × (H x ≡ h x.number) × (L x ≡ later x.number)) ⊎ ((L x ≡ H x) × ((k : ℕ) → H x ≡ Some k → rank f < rank x.family))) where
  past_number : (x k : ℕ) → later x ≡ Some k → r.span.last < x
  past_number x k e = grind (arith, is.gone x, e)

  split_number : (x k : ℕ) → h x ≡ Some k → ((r.span.first ≤ x) × (x ≤ r.span.last)) ⊎ (later x ≡ Some k)
  split_number x k e = grind (arith, is.before x, is.kept x, e)

  first_in : IsFirstSpan f r.span r.number H L
  first_in = record {
    some = is.some;
    top = top;
    within = λ x m. ap H (λ i. record { family = m.0 i; number = x.number }) ∙ same x.number ∙ is.within x.number m.1 m.2;
    ends = λ e. is.ends (sym (same (r.span.last + 1)) ∙ e);
    past = λ x k e. ⊎_elim (λ o. inr (o.0, past_number x.number k (sym o.2 ∙ e))) (λ o. inl (o.1 k (sym o.0 ∙ e))) (at x);
    kept = λ x k e. ⊎_elim (λ o. o.1 ∙ sym (is.kept x.number (past_number x.number k (sym o.2 ∙ e))) ∙ sym o.2 ∙ e) (λ o. sym o.0 ∙ e) (at x);
    split = λ x k e. ⊎_elim (λ o. ⊎_elim (λ m. inl (o.0, m.0, m.1)) (λ l. inr (o.2 ∙ l)) (split_number x.number k (sym o.1 ∙ e))) (λ o. inr (o.0 ∙ e)) (at x);
  }

  run_then_rest : flat_of H ≡ map (piece_of r.number) (cut f (limits_of r.span)) ++ flat_of L
  run_then_rest = first_then_rest f r.span r.number H L first_in

-- the next run of both families
pub record IsNextRun (f : Family) (w : BothRuns) (r : Run) (v : BothRuns) : Type 0 where
  pub some : r.span.first ≤ r.span.last
  pub top : r.span.last < 2 ^ width f
  pub flat : flat_of (hops_of w) ≡ map (piece_of r.number) (cut f (limits_of r.span)) ++ flat_of (hops_of v)

module _ (w : BothRuns) (a : AreBoth w) (v : Runs Network ℕ) (r : Run) where
  pub next_ipv4 : IsFirstRun (hops_left w.v4) r (hops_left v) × (r.span.last ≤ w.v4.end) → IsNextRun Ipv4 w r (record { v4 = v; v6 = w.v6 })
  next_ipv4 is = record { some = is.0.some; top = top; flat = run_then_rest (hops_left w.v4) (hops_left v) r is.0 Ipv4 top _ _ (λ x. refl) (λ x. at x.family x.number) }
    where
      top : r.span.last < 2 ^ width Ipv4
      top = omega (arith, a.ipv4, is.1)

      at : (f : Family) (x : ℕ) → ((f ≡ Ipv4) × (hops_in (hops_left w.v4) (hops_left w.v6) f x ≡ hops_left w.v4 x) × (hops_in (hops_left v) (hops_left w.v6) f x ≡ hops_left v x))
          ⊎ ((hops_in (hops_left v) (hops_left w.v6) f x ≡ hops_in (hops_left w.v4) (hops_left w.v6) f x) × ((k : ℕ) → hops_in (hops_left w.v4) (hops_left w.v6) f x ≡ Some k → rank Ipv4 < rank f))
      at Ipv4 x = inl (refl, refl, refl)
      at Ipv6 x = inr (refl, λ k e. omega arith)

  pub next_ipv6 : (u : Runs Network ℕ) → ((x : ℕ) → hops_left w.v4 x ≡ None) × ((x : ℕ) → hops_left u x ≡ None) → IsFirstRun (hops_left w.v6) r (hops_left v) × (r.span.last ≤ w.v6.end) → IsNextRun Ipv6 w r (record { v4 = u; v6 = v })
  next_ipv6 u none is = record { some = is.0.some; top = top; flat = run_then_rest (hops_left w.v6) (hops_left v) r is.0 Ipv6 top _ _ (λ x. refl) (λ x. at x.family x.number) }
    where
      top : r.span.last < 2 ^ width Ipv6
      top = omega (arith, a.ipv6, is.1)

      at : (f : Family) (x : ℕ) → ((f ≡ Ipv6) × (hops_in (hops_left w.v4) (hops_left w.v6) f x ≡ hops_left w.v6 x) × (hops_in (hops_left u) (hops_left v) f x ≡ hops_left v x))
          ⊎ ((hops_in (hops_left u) (hops_left v) f x ≡ hops_in (hops_left w.v4) (hops_left w.v6) f x) × ((k : ℕ) → hops_in (hops_left w.v4) (hops_left w.v6) f x ≡ Some k → rank Ipv6 < rank f))
      at Ipv4 x = inr (none.1 x ∙ sym (none.0 x), λ k e. absurd (none-some k (sym (none.0 x) ∙ e)))
      at Ipv6 x = inl (refl, refl, refl)

-- its pieces
pub pieces_of_run : {f : Family} {w : BothRuns} {r : Run} {v : BothRuns} → IsNextRun f w r v → (s : IpSubnets) → s ≡ ip_limits f (limits_of r.span)
    → (flat_of (hops_of w) ≡ map (piece_of r.number) (ip_cut s) ++ flat_of (hops_of v)) × (map (piece_of r.number) (ip_cut s) ≡ [] → ⊥)
pieces_of_run {f} {w} {r} {v} next s is =
    let cut_is : ip_cut s ≡ cut f (limits_of r.span) = ap ip_cut is ∙ cut_of_limits f (limits_of r.span) in (
      next.flat ∙ ap (λ bs. map (piece_of r.number) bs ++ flat_of (hops_of v)) (sym cut_is),
      λ e. some_cut f (limits_of r.span) next.some (sym cut_is ∙ nil_from_length (ip_cut s) (sym (length-map (ip_cut s) (piece_of r.number)) ∙ ap length e)),
    )

-- hops that are none in both families
pub no_hops : (h g : ℕ → Option ℕ) → ((x : ℕ) → h x ≡ None) → ((x : ℕ) → g x ≡ None) → flat_of (λ x. hops_in h g x.family x.number) ≡ []
no_hops h g n m =
    let hops = λ (x : Address). hops_in h g x.family x.number in
    no_members (flat_of hops) (λ p i. none-some p.number (sym (at p.block.family (first p.block)) ∙ tells hops (flat_of hops) (search_is_flat hops) p i (first_of p.block) (has_first p.block)))
  where
    at : (f : Family) (x : ℕ) → hops_in h g f x ≡ None
    at Ipv4 x = n x
    at Ipv6 x = m x

-- ---- the pieces of a run

pub piece_given : (k : ℕ) (s t : IpSubnets) (n : IpNet) → ip_subnets s ≡ n ∷ ip_subnets t → (map (piece_of k) (ip_cut s) ≡ piece_of k (block n) ∷ map (piece_of k) (ip_cut t)) × (n ≡ network_at (block n))
piece_given k s t n y = let b = blocks_given s t (Some n) y in (ap (map (piece_of k)) b.0, b.1)

pub piece_none : (k : ℕ) (s t : IpSubnets) → (ip_subnets s ≡ []) × (ip_subnets t ≡ []) → (map (piece_of k) (ip_cut s) ≡ []) × (map (piece_of k) (ip_cut t) ≡ [])
piece_none k s t y = let b = blocks_given s t None y in (ap (map (piece_of k)) b.0, ap (map (piece_of k)) b.1)

-- ---- the whole walk

module _ (rs ss : List Route) (table : IsTable (rs ++ ss)) where
  pub table_left : IsTable rs
  table_left = table_of rs (λ r i. sound (rs ++ ss) table r (In-left r rs ss i)) (rising_front RouteSooner rs ss (rising (rs ++ ss) table))

  pub table_right : IsTable ss
  table_right = table_of ss (λ r i. sound (rs ++ ss) table r (In-right r rs ss i)) (rising_back RouteSooner rs ss (rising (rs ++ ss) table))

  module _ (ipv4 : All (λ r. r.block.family ≡ Ipv4) rs) (ipv6 : All (λ r. r.block.family ≡ Ipv6) ss) where
    four : (r : Route) → In r rs → r.block.family ≡ Ipv4
    four = In-from_All (λ (r : Route). r.block.family ≡ Ipv4) rs ipv4

    six : (r : Route) → In r ss → r.block.family ≡ Ipv6
    six = In-from_All (λ (r : Route). r.block.family ≡ Ipv6) ss ipv6

    pub both_paint : (h g : ℕ → Option ℕ) → ((x : ℕ) → h x ≡ topmost None (map route_span_of rs) x) → ((x : ℕ) → g x ≡ topmost None (map route_span_of ss) x) → (x : Address) → IsAddress x → hops_in h g x.family x.number ≡ hop_at (rs ++ ss) x
    both_paint h g p q x a = at x.family x.number a
      where
        at : (f : Family) (y : ℕ) → IsAddress (record { family = f; number = y }) → hops_in h g f y ≡ hop_at (rs ++ ss) (record { family = f; number = y })
        at Ipv4 y a = p y ∙ topmost_is (rs ++ ss) table Ipv4 rs (rising rs table_left)
            (λ r i. (In-left r rs ss i, four r i)) (λ r i e. ⊎_elim (λ j. j) (λ j. absurd (omega (arith, ap rank (sym e ∙ six r j)))) (In-cases r rs ss i)) (record { family = Ipv4; number = y }) a refl
        at Ipv6 y a = q y ∙ topmost_is (rs ++ ss) table Ipv6 ss (rising ss table_right)
            (λ r i. (In-right r rs ss i, six r i)) (λ r i e. ⊎_elim (λ j. absurd (omega (arith, ap rank (sym e ∙ four r j)))) (λ j. j) (In-cases r rs ss i)) (record { family = Ipv6; number = y }) a refl

    pub whole_flat : (p : Pieces) (w : BothRuns) → pieces_of p ≡ [] → ((x : ℕ) → hops_left w.v4 x ≡ topmost None (map route_span_of rs) x) → ((x : ℕ) → hops_left w.v6 x ≡ topmost None (map route_span_of ss) x) → IsFlat (hop_at (rs ++ ss)) (pieces_left p w)
    whole_flat p w none h g = rw none (flat_moved (hop_at (rs ++ ss)) (hops_of w) (λ x a. sym (both_paint (hops_left w.v4) (hops_left w.v6) h g x a)) (flat_of (hops_of w)) (search_is_flat (hops_of w)))

-- the families of a table, seen alone
pub seen_alone : {M v4 v6 : List Route} → AreFamilies M v4 v6 → AreFamilies (v4 ++ v6) v4 v6
seen_alone h = record { routes = refl; table = subst IsTable (sym h.routes) h.table; ipv4 = h.ipv4; ipv6 = h.ipv6 }

pub flat_of_table : {M v4 v6 : List Route} (ps : List Piece) → AreFamilies M v4 v6 → IsFlat (hop_at (v4 ++ v6)) ps → IsFlatOf M ps
flat_of_table {M} ps h flat =
    let is : IsFlat (hop_at M) ps = subst (λ N. IsFlat (hop_at N) ps) h.routes flat in
    record { flat = is; shortest = λ bs a. flat_is_shortest (hop_at M) ps bs is a; bound = λ f. flat_bound M h.table ps is f; table = h.table }
