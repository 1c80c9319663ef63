-- The gaps between the routes inside a network, and the blocks of them that an iterator has left.
use Rattle.std.proofs.Common.{◌≡◌, ℕ, zero, suc, ◌+◌, ◌-◌, ◌^◌, ◌≤◌, ◌<◌, inl, inr, Bool, true, false, cond, nat_lt, nat_le, max, List, [], ◌∷◌, ◌++◌, map, Option, Some, None, All, refl, sym, ap, ◌∙◌, subst, lt-ltb, le-leb, arith, length, le-ltb}
use Rattle.std.specs.Iterator.{YieldsFirst}
use Rattle.std.proofs.lemmas.Bool.Decides.{nat_tests}
use Rattle.ipnet_addr.specs.Addresses.{Family, Ipv4, Ipv6, width}
use Rattle.ipnet_addr.proofs.Members.{In}
use Rattle.ipnet_addr.proofs.Ascending.{In-from_All, All-from_In}
use Rattle.ipnet_blocks.specs.Blocks.{Block, first, last, bit_string}
use Rattle.ipnet_blocks.specs.Networks.{Network, net_of, block_of}
use Rattle.ipnet_blocks.specs.Cuts.{Limits, block_from, cut_within, cut, first_free}
use Rattle.ipnet_blocks.specs.InnerSpans.{limits_of}
use Rattle.ipnet_blocks.specs.declared.aggregate.Span.{Span}
use Rattle.ipnet.specs.IpNets.{block, family, parts, net_in, network_at}
use Rattle.ipnet.specs.IpSubnets.{ip_cut, ip_limits, ip_subnets}
use Rattle.ipnet.specs.declared.ip_net.IpNet.{IpNet}
use Rattle.ipnet.specs.declared.subnets.IpSubnets.{IpSubnets}
use Rattle.ipnet.specs.declared.subnets.IpSubnets.TheVariants.{V4, V6}
use Rattle.route_laws.specs.Tables.{Route}
use Rattle.route_laws.proofs.NetworksAt.{of_network_at, block_of-net_in}
use Rattle.route_table.specs.Items.{GivesBlock}
use Rattle.route_table.specs.InnerGoverning.{AreGaps, GivesGap, IsPassed, gap_before, gaps, gaps_left, blocks_of_spans, blocks_left, GivesSpan}
use Rattle.route_table.specs.declared.governed.Gaps.{Gaps}
use Rattle.ipnet_blocks.proofs.Strings.{length-digits}

-- ---- past a route

abbrev EndBy : ℕ → List Route → Type 0
EndBy end rs = All (λ r. last (Route.block r) ≤ end) rs

pub head_within : (end : ℕ) (rs fs : List Route) (r : Route) → rs ≡ r ∷ fs → EndBy end rs → last r.block ≤ end
head_within end rs fs r e w = In-from_All (λ (s : Route). last s.block ≤ end) rs w r (subst (λ xs. In r xs) (sym e) (inl refl))

pub rest_within : (end : ℕ) (rs fs : List Route) (r : Route) → rs ≡ r ∷ fs → EndBy end rs → EndBy end fs
rest_within end rs fs r e w = All-from_In (λ (s : Route). last s.block ≤ end) fs (λ s i. In-from_All (λ (t : Route). last t.block ≤ end) rs w s (subst (λ xs. In s xs) (sym e) (inr i)))

module _ (g h : Gaps) (at : ℕ) (fs : List Route) (n : h.net ≡ g.net) (e : h.end ≡ g.end) (i : h.inside ≡ fs) (p : IsPassed g at h) where
  pub passed_are : AreGaps g → EndBy g.end fs → AreGaps h
  passed_are a w = record {
    order = go (nat_lt at g.end) refl p;
    fits = subst (λ m. h.end < 2 ^ width (family m)) (sym n) (subst (λ x. x < 2 ^ width (family g.net)) (sym e) a.fits);
    within = subst (λ x. EndBy x h.inside) (sym e) (subst (EndBy g.end) (sym i) w);
  }
    where
      go : (b : Bool) → nat_lt at g.end ≡ b → cond b ((h.done ≡ g.done) × (h.at ≡ max g.at (at + 1))) ((h.done ≡ true) × (h.at ≡ g.at)) → h.at ≤ h.end
      go true t q = let l : at < g.end = grind (arith, nat_tests, t) in let o = a.order in let s = q.1 in omega arith
      go false t q = let o = a.order in let s = q.1 in omega arith

  -- what the gaps are after a longer route
  pub passed_left : g.done ≡ false → gaps_left h ≡ cond (nat_lt at g.end) (gaps (parts g.net).len (max g.at (at + 1)) g.end fs) []
  passed_left d = go (nat_lt at g.end) p
    where
      go : (b : Bool) → cond b ((h.done ≡ g.done) × (h.at ≡ max g.at (at + 1))) ((h.done ≡ true) × (h.at ≡ g.at)) → gaps_left h ≡ cond b (gaps (parts g.net).len (max g.at (at + 1)) g.end fs) []
      go true q =
          ap (λ b. cond b [] (gaps (parts h.net).len h.at h.end h.inside)) (q.0 ∙ d)
          ∙ ap (λ (m : IpNet). gaps (parts m).len h.at h.end h.inside) n ∙ ap (λ x. gaps (parts g.net).len x h.end h.inside) q.1
          ∙ ap (λ x. gaps (parts g.net).len (max g.at (at + 1)) x h.inside) e ∙ ap (gaps (parts g.net).len (max g.at (at + 1)) g.end) i
      go false q = ap (λ b. cond b [] (gaps (parts h.net).len h.at h.end h.inside)) q.0

-- the network has k bits, and the next route the length and the span of p
module _ (n : Block) (bits : List Bool) (same : bits ≡ bit_string n) (k : ℕ) (is : k ≡ length bits) (at end : ℕ) (rs left : List Route) (p : ℕ × Span) (gives : GivesSpan rs (Some p) left) where
  abbrev beyond : List Span
  beyond = cond (nat_lt p.1.last end) (gaps n.len (max at (p.1.last + 1)) end left) []

  stepped : gaps n.len at end rs ≡ cond (nat_lt k p.0) (gap_before at p.1.first beyond) (gaps n.len at end left)
  stepped = ap (gaps n.len at end) gives.1 ∙ (λ i. cond (nat_lt (len i) (sym gives.2 i))
      (gap_before at (sym gives.3 i) (cond (nat_lt (sym gives.4 i) end) (gaps n.len (max at (sym gives.4 i + 1)) end left) [])) (gaps n.len at end left))
    where
      len : n.len ≡ k
      len = sym (is ∙ ap length same ∙ length-digits n.len n.quotient)

  -- a route that is no longer counts for nothing
  pub gaps-short : p.0 ≤ k → gaps n.len at end rs ≡ gaps n.len at end left
  gaps-short h = stepped ∙ ap (λ b. cond b (gap_before at p.1.first beyond) (gaps n.len at end left)) (le-ltb _ _ h)

  module _ (long : k < p.0) where
    longer : gaps n.len at end rs ≡ gap_before at p.1.first beyond
    longer = stepped ∙ ap (λ b. cond b (gap_before at p.1.first beyond) (gaps n.len at end left)) (lt-ltb _ _ long)

    pub gaps-before : at < p.1.first → gaps n.len at end rs ≡ record { first = at; last = p.1.first - 1 } ∷ beyond
    gaps-before h = longer ∙ ap (λ b. cond b (record { first = at; last = p.1.first - 1 } ∷ beyond) beyond) (lt-ltb _ _ h)

    module _ (met : p.1.first ≤ at) where
      no_gap : gaps n.len at end rs ≡ beyond
      no_gap = longer ∙ ap (λ b. cond b (record { first = at; last = p.1.first - 1 } ∷ beyond) beyond) (le-ltb _ _ met)

      pub gaps-none : end ≤ p.1.last → gaps n.len at end rs ≡ []
      gaps-none h = no_gap ∙ ap (λ b. cond b (gaps n.len (max at (p.1.last + 1)) end left) []) (le-ltb _ _ h)

      pub gaps-after : p.1.last < end → gaps n.len at end rs ≡ gaps n.len (max at (p.1.last + 1)) end left
      gaps-after h = no_gap ∙ ap (λ b. cond b (gaps n.len (max at (p.1.last + 1)) end left) []) (lt-ltb _ _ h)

-- a longer route that leaves a gap before it
pub gap_given : (g h : Gaps) (r : Route) (fs : List Route) → h.net ≡ g.net → h.end ≡ g.end → h.inside ≡ fs → IsPassed g (last r.block) h → g.done ≡ false → g.inside ≡ r ∷ fs → (parts g.net).len < r.block.len → g.at < first r.block
    → gaps_left g ≡ record { first = g.at; last = first r.block - 1 } ∷ gaps_left h
gap_given g h r fs n e i p d s long far =
    let b = block g.net in
    let k = length-digits b.len b.quotient in
    ap (λ b. cond b [] (gaps (parts g.net).len g.at g.end g.inside)) d
    ∙ gaps-before b (bit_string b) refl b.len (sym k) g.at g.end g.inside fs (r.block.len, record { first = first r.block; last = last r.block }) (r, s, refl, refl, refl) long far
    ∙ ap (λ ss. record { first = g.at; last = first r.block - 1 } ∷ ss) (sym (passed_left g h (last r.block) fs n e i p d))

-- ---- the blocks of a gap

of_networks : (bs : List Block) → map block (map network_at bs) ≡ bs
of_networks [] = refl
of_networks (b ∷ bs) = let p = of_network_at b in let q = of_networks bs in λ i. p i ∷ q i

within_networks : (f : Family) (n : ℕ) (l : Limits) → map (net_in f) (map net_of (cut_within n f l)) ≡ map network_at (cut_within n f l)
unfolding cut_within
within_networks f zero l = refl
within_networks f (suc n) l = go (nat_le l.start l.end) _ (within_networks f n (record l { start = l.start + 2 ^ first_free (width f) l }))
  where
    go : (b : Bool) (rest : List Block) → map (net_in f) (map net_of rest) ≡ map network_at rest
        → map (net_in f) (map net_of (cond b (block_from f l.start (first_free (width f) l) ∷ rest) [])) ≡ map network_at (cond b (block_from f l.start (first_free (width f) l) ∷ rest) [])
    go true rest e = ap (λ ns. net_in f (net_of (block_from f l.start (first_free (width f) l))) ∷ ns) e
    go false rest e = refl

networks_are : (s : IpSubnets) → ip_subnets s ≡ map network_at (ip_cut s)
networks_are (V4 l) = within_networks Ipv4 (l.end + 1 - l.start) l
networks_are (V6 l) = within_networks Ipv6 (l.end + 1 - l.start) l

-- what a subnet iterator gives, as blocks
module _ (s t : IpSubnets) where
  pub blocks_given : (o : Option IpNet) → YieldsFirst ip_subnets s o t → GivesBlock (ip_cut s) o (ip_cut t)
  blocks_given None y = (
    sym (of_networks (ip_cut s)) ∙ ap (map block) (sym (networks_are s) ∙ y.0),
    sym (of_networks (ip_cut t)) ∙ ap (map block) (sym (networks_are t) ∙ y.1),
  )
  blocks_given (Some n) y =
      let e : map network_at (ip_cut s) ≡ n ∷ map network_at (ip_cut t) = sym (networks_are s) ∙ y ∙ ap (λ ns. n ∷ ns) (networks_are t) in
      let c : ip_cut s ≡ block n ∷ ip_cut t = sym (of_networks (ip_cut s)) ∙ ap (map block) e ∙ ap (λ bs. block n ∷ bs) (of_networks (ip_cut t)) in
      (c, head n (network_at (block n)) (sym e ∙ ap (map network_at) c))
    where
      head : {ms ns : List IpNet} (m n : IpNet) → m ∷ ms ≡ n ∷ ns → m ≡ n
      head m n e = cc

pub some_cut : (f : Family) (l : Limits) → l.start ≤ l.end → cut f l ≡ [] → ⊥
unfolding cut_within
some_cut f l h e = go (l.end + 1 - l.start) refl (e)
  where
    go : (n : ℕ) → l.end + 1 - l.start ≡ n → cut_within n f l ≡ [] → ⊥
    go zero z q = omega arith
    go (suc n) z q = let t = le-leb _ _ h in let c = sym (ap (λ b. cond b (block_from f l.start (first_free (width f) l) ∷ cut_within n f (record l { start = l.start + 2 ^ first_free (width f) l })) []) t) ∙ q in cc

pub cut_of_limits : (f : Family) (l : Limits) → ip_cut (ip_limits f l) ≡ cut f l
cut_of_limits Ipv4 l = refl
cut_of_limits Ipv6 l = refl

-- ---- the next block

-- of the gap at hand
pub next_here : (g : Gaps) (s t : IpSubnets) (n : IpNet) → ip_subnets s ≡ n ∷ ip_subnets t → (blocks_left g s ≡ block n ∷ blocks_left g t) × (n ≡ network_at (block n))
next_here g s t n y = let b = blocks_given s t (Some n) y in (ap (λ bs. bs ++ blocks_of_spans (family g.net) (gaps_left g)) b.0, b.1)

pub next_none : (g h : Gaps) (s t : IpSubnets) → YieldsFirst ip_subnets s None t → GivesGap g None h → GivesBlock (blocks_left g s) None (blocks_left h t)
next_none g h s t y z =
    let b = blocks_given s t None y in (
      (λ i. b.0 i ++ blocks_of_spans (family g.net) (z.0 i)),
      (λ i. b.1 i ++ blocks_of_spans (family h.net) (z.1 i)),
    )

-- of the next gap
pub next_gap : (g h : Gaps) (s t u v : IpSubnets) (gap : Span) (o : Option IpNet) → h.net ≡ g.net → YieldsFirst ip_subnets s None t → GivesGap g (Some gap) h → u ≡ ip_limits (family g.net) (limits_of gap) → YieldsFirst ip_subnets u o v
    → GivesBlock (blocks_left g s) o (blocks_left h v)
next_gap g h s t u v gap o n y z e w =
    let b = blocks_given s t None y in
    let c : ip_cut u ≡ cut (family g.net) (limits_of gap) = ap ip_cut e ∙ cut_of_limits (family g.net) (limits_of gap) in
    let all : blocks_left g s ≡ ip_cut u ++ blocks_of_spans (family h.net) (gaps_left h) =
    (λ i. b.0 i ++ blocks_of_spans (family g.net) (z.0 i)) ∙ (λ i. sym c i ++ blocks_of_spans (family (sym n i)) (gaps_left h)) in
    go o (blocks_given u v o w) c all
  where
    go : (o : Option IpNet) → GivesBlock (ip_cut u) o (ip_cut v) → ip_cut u ≡ cut (family g.net) (limits_of gap) → blocks_left g s ≡ ip_cut u ++ blocks_of_spans (family h.net) (gaps_left h) → GivesBlock (blocks_left g s) o (blocks_left h v)
    go None d c all = absurd (some_cut (family g.net) (limits_of gap) z.1 (sym c ∙ d.0))
    go (Some n) d c all = (all ∙ ap (λ bs. bs ++ blocks_of_spans (family h.net) (gaps_left h)) d.0, d.1)

-- a network of one family as one of either, and the number of its bits
pub block_in_family : (f : Family) (m : Network) (net : IpNet) → net ≡ net_in f m → block net ≡ block_of f m
block_in_family f m net e = ap block e ∙ block_of-net_in f m

pub length_of_bits : (f : Family) (m : Network) (s : List Bool) → s ≡ bit_string (block_of f m) → length s ≡ m.len
length_of_bits f m s e = ap length e ∙ length-digits m.len _
