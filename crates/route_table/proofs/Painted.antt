-- What the routes of a family paint is the hop of the longest match.
use Rattle.std.proofs.Common.{◌≡◌, ℕ, ◌+◌, ◌-◌, ◌^◌, ◌<◌, ◌≤◌, ◌⊎◌, inl, inr, ⊎_elim, ◌&&◌, false, cond, nat_le, List, [], ◌∷◌, map, Option, Some, None, refl, sym, ap, ◌∙◌, subst, pow_pos, arith}
use Rattle.std.proofs.lemmas.Bool.{cases_Bool, cases_lt, cond-true, cond-false}
use Rattle.std.proofs.lemmas.Bool.Decides.{nat_tests}
use Rattle.std.proofs.lemmas.List.Elements.{All-nil, All-map}
use Rattle.ipnet_addr.specs.Addresses.{Family, Ipv4, Ipv6, width, rank, Address, IsAddress}
use Rattle.ipnet_addr.proofs.Members.{In}
use Rattle.ipnet_addr.proofs.Ascending.{In-from_Contains, Contains-from_In, Rising, pairs_from_Rising, All-from_In}
use Rattle.ipnet_blocks.specs.Blocks.{IsBlock, HasAddress, first, last, first_of, host, family_block}
use Rattle.ipnet_blocks.proofs.BlockLaws.{has_first, common, strict}
use Rattle.ipnet_blocks.proofs.Maximals.{host_is_block, in_host, has_host, member_is_address}
use Rattle.ipnet_blocks.proofs.Netmasks.{block_is_interval}
use Rattle.route_choices.specs.Hops.{number_of}
use Rattle.route_laws.specs.Tables.{Route, IsTable, IsMatch, match_of, match_number, hop_at}
use Rattle.route_table.specs.InnerRunning.{IsApartOrInside, IsOpen, IsComing, ArePlaced, route_span_of, topmost}
use Rattle.route_table.proofs.Governings.{first_to_last}
use Rattle.route_table.proofs.Openings.{Rising-map}
use Rattle.route_laws.proofs.Matches.{block_in, match_from, match_meets, same_length, shorter_first}
use Rattle.route_laws.proofs.Alterations.{Sooner}

abbrev Has : ℕ → Route → Type 0
Has x r = (first (Route.block r) ≤ x) × (x ≤ last (Route.block r))

-- the last of the routes that have a number, if any has it, paints it
module _ (x : ℕ) where
  abbrev IsLast : List Route → Option ℕ → Option ℕ → Type 0
  IsLast rs k o = (((r : Route) → In r rs → Has x r → ⊥) × (o ≡ k)) ⊎ ((r : Route) × In r rs × Has x r × (o ≡ number_of r.hop) × ((s : Route) → In s rs → Has x s → (s ≡ r) ⊎ Sooner s r))

  pub last_paints : (rs : List Route) (k : Option ℕ) → Rising Sooner rs → IsLast rs k (topmost k (map route_span_of rs) x)
  last_paints [] k up = inl ((λ r i h. i), refl)
  last_paints (r ∷ rs) k up = ⊎_elim
      (λ none. ⊎_elim
      (λ t. inr (r, inl refl, grind (arith, nat_tests, t), none.1 ∙ cond-true _ (number_of r.hop) k t, λ s i g. ⊎_elim (λ q. inl q) (λ j. absurd (none.0 s j g)) i))
      (λ t. inl ((λ s i g. ⊎_elim (λ (q : s ≡ r). misses t (subst (λ (u : Route). Has x u) q g)) (λ j. none.0 s j g) i), none.1 ∙ cond-false _ (number_of r.hop) k t))
      (cases_Bool (nat_le (first r.block) x && nat_le x (last r.block))))
      (λ t. inr (t.0, inr t.1, t.2, t.3, λ s i g. ⊎_elim (λ (q : s ≡ r). inr (subst (λ (u : Route). Sooner u t.0) (sym q) (up.0 t.0 t.1))) (λ j. t.4 s j g) i))
      (last_paints rs (cond (nat_le (first r.block) x && nat_le x (last r.block)) (number_of r.hop) k) up.1)
    where
      misses : (nat_le (first r.block) x && nat_le x (last r.block)) ≡ false → Has x r → ⊥
      misses t h = grind (arith, nat_tests, t, h.0, h.1)

module _ (M : List Route) (table : IsTable M) (f : Family) (rs : List Route) (up : Rising Sooner rs)
    (inside : (r : Route) → In r rs → In r M × (r.block.family ≡ f)) (all : (r : Route) → In r M → r.block.family ≡ f → In r rs) where
  -- a route has the address where it has the number
  has_number : (r : Route) (x : Address) → HasAddress r.block x → Has x.number r
  has_number r x h = let b = (block_is_interval r.block x).0 h in (b.1, b.2)

  has_address : (r : Route) (x : Address) → x.family ≡ f → In r rs → Has x.number r → HasAddress r.block x
  has_address r x e i h = (block_is_interval r.block x).1 (e ∙ sym (inside r i).1, h.0, h.1)

  -- of two routes that have an address, the later one is longer
  no_longer : (r s : Route) (x : Address) → IsBlock s.block → HasAddress r.block x → HasAddress s.block x → Sooner s r → s.block.len ≤ r.block.len
  no_longer r s x ks hr hs before = ⊎_elim (λ l. absurd (strict s.block r.block before (shorter_first r.block s.block x ks hr hs l))) (λ l. l) (cases_lt r.block.len s.block.len)

  pub topmost_is : (x : Address) → IsAddress x → x.family ≡ f → topmost None (map route_span_of rs) x.number ≡ hop_at M x
  topmost_is x a e = ⊎_elim
      (λ none. none.1 ∙ sym (go (match_of M (host x)) refl none.0))
      (λ t.
      let h = has_address t.0 x e t.1 t.2 in
      let m : IsMatch M (host x) t.0 = record {
        member = Contains-from_In M t.0 (inside t.0 t.1).0;
        holds = λ y n. subst (λ (z : Address). HasAddress (Route.block t.0) z) (sym (in_host x y n)) h;
        longest = λ s c i.
            let j = In-from_Contains M s c in
            let g = i x (has_host x) in
            ⊎_elim (λ (q : s ≡ t.0). let l = ap (λ (u : Route). u.block.len) q in omega arith) (no_longer t.0 s x (block_in M table s j) h g) (t.4 s (all s j (sym g.0 ∙ e)) (has_number s x g));
      } in
      t.3 ∙ sym (ap match_number (match_from M table (host x) (host_is_block x a) t.0 m)))
      (last_paints x.number rs None up)
    where
      go : (o : Option Route) → match_of M (host x) ≡ o → ((r : Route) → In r rs → Has x.number r → ⊥) → match_number (match_of M (host x)) ≡ None
      go None q none = ap match_number q
      go (Some r) q none =
          let m = match_meets M table (host x) (host_is_block x a) r q in
          let h = m.holds x (has_host x) in
          absurd (none r (all r (In-from_Contains M r m.member) (sym h.0 ∙ e)) (has_number r x h))

-- ---- the routes of a family, before any of them opens

pub width_is_short : (f : Family) → width f ≤ 128
width_is_short Ipv4 = omega arith
width_is_short Ipv6 = omega arith

module _ (f : Family) (end : ℕ) (rs : List Route) (up : Rising Sooner rs) (blocks : (r : Route) → In r rs → IsBlock r.block × (r.block.family ≡ f)) (top : 2 ^ width f ≡ end + 1) where
  follow : (r s : Route) → In r rs → In s rs → Sooner r s → IsApartOrInside (route_span_of r) (route_span_of s)
  follow r s i j before = record { order = ordered; inside = λ touch. (last_inside touch, longer touch) }
    where
      fam : s.block.family ≡ r.block.family
      fam = (blocks s j).1 ∙ sym (blocks r i).1

      ordered : first r.block ≤ first s.block
      ordered = grind (arith, before, ap rank fam)

      has : first s.block ≤ last r.block → HasAddress r.block (first_of s.block)
      has touch = (block_is_interval r.block (first_of s.block)).1 (fam, ordered, touch)

      not_before : Sooner s r → ⊥
      not_before = strict r.block s.block before

      longer : first s.block ≤ last r.block → r.block.len < s.block.len
      longer touch = ⊎_elim (λ l. l) (λ l. ⊎_elim
          (λ m. absurd (not_before (shorter_first s.block r.block (first_of s.block) (blocks r i).0 (has_first s.block) (has touch) m)))
          (λ m. let q = same_length s.block r.block (first_of s.block) (has_first s.block) (has touch) (omega arith) in
          absurd (strict r.block r.block (subst (λ b. Sooner r (record s { block = b })) q before) (subst (λ b. Sooner r (record s { block = b })) q before)))
          (cases_lt s.block.len r.block.len)) (cases_lt r.block.len s.block.len)

      last_inside : first s.block ≤ last r.block → last s.block ≤ last r.block
      last_inside touch =
          let y : Address = record { family = s.block.family; number = last s.block } in
          let in_r = common s.block r.block (first_of s.block) (blocks s j).0 (has_first s.block) (has touch) (omega (arith, longer touch)) in
          ((block_is_interval r.block y).0 (in_r y ((block_is_interval s.block y).1 (refl, first_to_last s.block, omega arith)))).2

  coming_at : (r : Route) → In r rs → IsComing 0 end (route_span_of r)
  coming_at r i =
      let y : Address = record { family = r.block.family; number = last r.block } in
      let a : last r.block < 2 ^ width r.block.family = member_is_address r.block y (blocks r i).0 ((block_is_interval r.block y).1 (refl, first_to_last r.block, omega arith)) in
      let w : 2 ^ width r.block.family ≡ end + 1 = ap (λ g. 2 ^ width g) (blocks r i).1 ∙ top in
      record { later = omega arith; some = first_to_last r.block; fits = omega arith; long = omega (arith, ((blocks r i).0).in_width, width_is_short r.block.family) }

  pub placed_first : ArePlaced [] (map route_span_of rs) 0 end
  placed_first = record {
    order = omega arith;
    opened = All-nil (IsOpen 0 end);
    nested = λ i j d l m. absurd (omega arith);
    coming' = All-map (IsComing 0 end) route_span_of rs (All-from_In (λ r. IsComing 0 end (route_span_of r)) rs coming_at);
    apart = All-nil _;
    follow = pairs_from_Rising IsApartOrInside (map route_span_of rs) (Rising-map Sooner IsApartOrInside route_span_of rs follow up);
  }

-- the greatest number of a whole family
pub greatest : (f : Family) (l : ℕ) → l ≡ last (family_block f) → 2 ^ width f ≡ l + 1
greatest f l e =
    let p : 2 ^ (width f - 0) ≡ 2 ^ width f = ap (λ n. 2 ^ n) (omega arith) in
    omega (arith, e, p, pow_pos (width f))

-- the greatest key of a family is its greatest number
pub greatest_key : (f : Family) (w l : ℕ) → w ≡ width f → l ≡ 2 ^ w - 1 → l ≡ last (family_block f)
greatest_key f w l e k =
    let p : 2 ^ w ≡ 2 ^ (width f - 0) = ap (λ n. 2 ^ n) (omega (arith, e)) in
    omega (arith, k, p)
