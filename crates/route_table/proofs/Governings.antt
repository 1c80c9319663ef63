-- The blocks of the gaps inside a network are the maximal blocks of what it governs.
use Rattle.std.proofs.Common.{◌≡◌, ℕ, ◌+◌, ◌-◌, ◌^◌, ◌≤◌, ◌<◌, inl, inr, ⊎_elim, Bool, true, false, cond, nat_lt, max, List, [], ◌∷◌, All, refl, sym, ap, ◌∙◌, subst, arith}
use Rattle.std.proofs.lemmas.Bool.{cases_lt}
use Rattle.std.proofs.lemmas.Bool.Decides.{nat_tests}
use Rattle.ipnet_addr.specs.Addresses.{width, rank, Address}
use Rattle.ipnet_addr.proofs.Members.{In}
use Rattle.ipnet_addr.proofs.Ascending.{All-from_In, In-from_All, In-from_Any, Any-from_In, In-from_Contains, Contains-from_In, Rising, Rising-from_pairs, pairs_from_Rising}
use Rattle.ipnet_blocks.specs.Blocks.{Block, IsBlock, IsInside, is_inside, first, last}
use Rattle.ipnet_blocks.specs.Maximal.{IsMaximal}
use Rattle.ipnet_blocks.specs.InnerSpans.{IsIn, IsApart}
use Rattle.ipnet_blocks.specs.declared.aggregate.Span.{Span}
use Rattle.ipnet_blocks.proofs.Aggregates.{InSpans, cuts_are_maximal}
use Rattle.ipnet_blocks.proofs.BlockLaws.{longer_inside, numbers_from_inside}
use Rattle.ipnet_blocks.proofs.Maximals.{member_is_address}
use Rattle.ipnet_blocks.proofs.Netmasks.{block_is_interval}
use Rattle.ipnet_blocks.proofs.Parents.{larger_is_shorter}
use Rattle.ipnet_blocks.proofs.Unions.{maximal_same}
use Rattle.route_choices.specs.Hops.{IsHop}
use Rattle.route_choices.proofs.Kept.{In-from_filter, In-filter, Rising-kept, all_kept}
use Rattle.route_laws.specs.Tables.{Route, IsTable, Governed, routes_inside}
use Rattle.route_table.specs.InnerGoverning.{GovernsNone, gap_before, gaps, blocks_of_spans}
use Rattle.route_laws.proofs.Matches.{block_in, inside_from_test, test_from_inside}
use Rattle.route_laws.proofs.Alterations.{Sooner}

abbrev FirstsRise : Route → Route → Type 0
FirstsRise r s = first (Route.block r) ≤ first (Route.block s)

-- the number is one of a longer route's
abbrev IsHeld : ℕ → List Route → ℕ → Type 0
IsHeld len rs x = (r : Route) × In r rs × (len < Block.len (Route.block r)) × (first (Route.block r) ≤ x) × (x ≤ last (Route.block r))

-- the spans have the numbers from `at` to `end` that no longer route has
record AreFree (len at end : ℕ) (rs : List Route) (spans : List Span) : Type 0 where
  pub within : (s : Span) → In s spans → (at ≤ s.first) × (s.first ≤ s.last) × (s.last ≤ end)
  pub apart : Rising IsApart spans
  pub free : (s : Span) (x : ℕ) → In s spans → IsIn x s → IsHeld len rs x → ⊥
  pub all : (x : ℕ) → at ≤ x → x ≤ end → (IsHeld len rs x → ⊥) → (s : Span) × In s spans × IsIn x s

pub first_to_last : (b : Block) → first b ≤ last b
first_to_last b = omega arith

-- a route that is not longer counts for nothing
skipped : (len at end : ℕ) (r : Route) (rs : List Route) (spans : List Span) → (len < r.block.len → ⊥) → AreFree len at end rs spans → AreFree len at end (r ∷ rs) spans
skipped len at end r rs spans short a = record {
  within = a.within;
  apart = a.apart;
  free = λ s x i m h. ⊎_elim (λ (e : h.0 ≡ r). absurd (short (subst (λ (t : Route). len < t.block.len) e h.2))) (λ j. a.free s x i m (h.0, j, h.2, h.3, h.4)) h.1;
  all = λ x l u none. a.all x l u (λ h. none (h.0, inr h.1, h.2, h.3, h.4));
}

-- a longer one parts what is before it from what is after it
parted : (len at end : ℕ) (r : Route) (rs : List Route) (spans : List Span) → at ≤ end → len < r.block.len → last r.block ≤ end → ((s : Route) → In s rs → FirstsRise r s)
    → AreFree len (max at (last r.block + 1)) end rs spans → AreFree len at end (r ∷ rs) (gap_before at (first r.block) spans)
parted len at end r rs spans o long fits rise a = go (nat_lt at (first r.block)) refl
  where
    order : first r.block ≤ last r.block
    order = first_to_last r.block

    later : (s : Span) (x : ℕ) → In s spans → IsIn x s → IsHeld len (r ∷ rs) x → ⊥
    later s x i m h = ⊎_elim
        (λ (e : h.0 ≡ r). let u : x ≤ last r.block = subst (λ (t : Route). x ≤ last t.block) e h.4 in let w = (a.within s i).0 in let f = m.0 in absurd (omega arith))
        (λ j. a.free s x i m (h.0, j, h.2, h.3, h.4))
        h.1

    after : (x : ℕ) → at ≤ x → x ≤ end → (IsHeld len (r ∷ rs) x → ⊥) → first r.block ≤ x → (s : Span) × In s spans × IsIn x s
    after x l u none f = ⊎_elim
        (λ (p : last r.block < x). a.all x (omega arith) u (λ h. none (h.0, inr h.1, h.2, h.3, h.4)))
        (λ q. absurd (none (r, inl refl, long, f, q)))
        (cases_lt (last r.block) x)

    go : (b : Bool) → nat_lt at (first r.block) ≡ b → AreFree len at end (r ∷ rs) (cond b (record { first = at; last = first r.block - 1 } ∷ spans) spans)
    go true t =
        let far : at < first r.block = grind (arith, nat_tests, t) in
        let gap : Span = record { first = at; last = first r.block - 1 } in
        record {
          within = λ s i. ⊎_elim
              (λ (e : s ≡ gap). subst (λ (g : Span). (at ≤ g.first) × (g.first ≤ g.last) × (g.last ≤ end)) (sym e) (omega arith, omega arith, let f = order in omega arith))
              (λ j. let w = a.within s j in (let v = w.0 in omega arith, w.1, w.2))
              i;
          apart = ((λ s j. let v = (a.within s j).0 in let f = order in omega arith), a.apart);
          free = λ s x i m h. ⊎_elim
              (λ (e : s ≡ gap).
              let u : x ≤ first r.block - 1 = subst (λ (g : Span). x ≤ g.last) e m.1 in
              ⊎_elim
              (λ (q : h.0 ≡ r). let f : first r.block ≤ x = subst (λ (t : Route). first t.block ≤ x) q h.3 in absurd (omega arith))
              (λ j. let f = rise h.0 j in let k = h.3 in absurd (omega arith))
              h.1)
              (λ j. later s x j m h)
              i;
          all = λ x l u none. ⊎_elim
              (λ (p : x < first r.block). (gap, inl refl, (l, omega arith)))
              (λ f. let t = after x l u none f in (t.0, inr t.1, t.2))
              (cases_lt x (first r.block));
        }
    go false t =
        let near : first r.block ≤ at = grind (arith, nat_tests, t) in
        record {
          within = λ s i. let w = a.within s i in (let v = w.0 in omega arith, w.1, w.2);
          apart = a.apart;
          free = later;
          all = λ x l u none. after x l u none (omega arith);
        }

abbrev EndBy : ℕ → List Route → Type 0
EndBy end rs = (r : Route) → In r rs → last (Route.block r) ≤ end

nothing_left : (len at end : ℕ) (rs : List Route) → end < at → AreFree len at end rs []
nothing_left len at end rs h = record {
  within = λ s i. absurd i;
  apart = tt;
  free = λ s x i m k. absurd i;
  all = λ x l u none. absurd (omega arith);
}

gaps_are_free : (len end : ℕ) (rs : List Route) (at : ℕ) → at ≤ end → EndBy end rs → Rising FirstsRise rs → AreFree len at end rs (gaps len at end rs)
gaps_are_free len end [] at o fits up = record {
  within = λ s i. ⊎_elim (λ (e : s ≡ record { first = at; last = end }). subst (λ (g : Span). (at ≤ g.first) × (g.first ≤ g.last) × (g.last ≤ end)) (sym e) (omega arith, o, omega arith)) (λ j. absurd j) i;
  apart = ((λ s j. absurd j), tt);
  free = λ s x i m h. absurd h.1;
  all = λ x l u none. (record { first = at; last = end }, inl refl, (l, u));
}
gaps_are_free len end (r ∷ rs) at o fits up = go (λ from l. gaps_are_free len end rs from l (λ s i. fits s (inr i)) up.1) (nat_lt len r.block.len) refl
  where
    rest : ((from : ℕ) → from ≤ end → AreFree len from end rs (gaps len from end rs)) → (b : Bool) → nat_lt (last r.block) end ≡ b → AreFree len (max at (last r.block + 1)) end rs (cond b (gaps len (max at (last r.block + 1)) end rs) [])
    rest later true t = let l : last r.block < end = grind (arith, nat_tests, t) in later (max at (last r.block + 1)) (omega arith)
    rest later false t = let l : end ≤ last r.block = grind (arith, nat_tests, t) in nothing_left len (max at (last r.block + 1)) end rs (omega arith)

    go : ((from : ℕ) → from ≤ end → AreFree len from end rs (gaps len from end rs)) → (b : Bool) → nat_lt len r.block.len ≡ b
        → AreFree len at end (r ∷ rs) (cond b (gap_before at (first r.block) (cond (nat_lt (last r.block) end) (gaps len (max at (last r.block + 1)) end rs) [])) (gaps len at end rs))
    go later true t = let l : len < r.block.len = grind (arith, nat_tests, t) in parted len at end r rs _ o l (fits r (inl refl)) up.0 (rest later (nat_lt (last r.block) end) refl)
    go later false t = let l : r.block.len ≤ len = grind (arith, nat_tests, t) in skipped len at end r rs _ (λ k. absurd (omega arith)) (later at o)

-- ---- the routes inside a block

abbrev last_of : Block → Address
last_of b = record { family = b.family; number = last b }

module _ (M : List Route) (table : IsTable M) (n : Block) (ok : IsBlock n) where
  inside_of : (r : Route) → In r (routes_inside M n) → In r M × IsInside r.block n
  inside_of r i = let t = In-from_filter (λ (s : Route). is_inside s.block n) M r i in (t.0, inside_from_test r.block n (block_in M table r t.0) ok t.1)

  family_of : (r : Route) → In r (routes_inside M n) → r.block.family ≡ n.family
  family_of r i = let t = inside_of r i in (numbers_from_inside r.block n (block_in M table r t.0) ok t.1).family

  pub routes_end : EndBy (last n) (routes_inside M n)
  routes_end r i =
      let t = inside_of r i in
      let h = (block_is_interval n (last_of r.block)).0 (t.1 (last_of r.block) ((block_is_interval r.block (last_of r.block)).1 (refl, first_to_last r.block, omega arith))) in
      h.2

  firsts : (r s : Route) → r.block.family ≡ n.family → s.block.family ≡ n.family → Sooner r s → FirstsRise r s
  firsts r s f g l =
      let e : rank r.block.family ≡ rank s.block.family = ap rank (f ∙ sym g) in
      ⊎_elim (λ k. absurd (omega arith)) (λ k. ⊎_elim (λ m. let h = m.1 in omega arith) (λ m. let h = m.1 in omega arith) k) l

  firsts_rise : (rs : List Route) → ((r : Route) → In r rs → r.block.family ≡ n.family) → Rising Sooner rs → Rising FirstsRise rs
  firsts_rise [] f up = tt
  firsts_rise (r ∷ rs) f up = ((λ s i. firsts r s (f r (inl refl)) (f s (inr i)) (up.0 s i)), firsts_rise rs (λ s i. f s (inr i)) up.1)

  free : AreFree n.len (first n) (last n) (routes_inside M n) (gaps n.len (first n) (last n) (routes_inside M n))
  free = gaps_are_free n.len (last n) (routes_inside M n) (first n) (first_to_last n) routes_end
      (firsts_rise (routes_inside M n) family_of (Rising-kept Sooner (λ (s : Route). is_inside s.block n) M (Rising-from_pairs Sooner M table.ascending)))

  governed_in : (x : Address) → Governed M n x → InSpans n.family (gaps n.len (first n) (last n) (routes_inside M n)) x
  governed_in x g =
      let b = (block_is_interval n x).0 g.inside in
      let s = free.all x.number b.1 b.2 (λ h.
      let t = inside_of h.0 h.1 in
      g.free h.0 (Contains-from_In M h.0 t.0) (t.1, λ back. let l = longer_inside n h.0.block (block_in M table h.0 t.0) (sym (family_of h.0 h.1)) back in let m = h.2 in absurd (omega arith))
      ((block_is_interval h.0.block x).1 (b.0 ∙ sym (family_of h.0 h.1), h.3, h.4))) in
      (b.0, Any-from_In (IsIn x.number) _ s.0 s.1 s.2)

  in_governed : (x : Address) → InSpans n.family (gaps n.len (first n) (last n) (routes_inside M n)) x → Governed M n x
  in_governed x h =
      let s = In-from_Any (IsIn x.number) _ h.1 in
      let w = free.within s.0 s.1 in
      let i = s.2 in
      record {
        inside = (block_is_interval n x).1 (h.0, (let a = w.0 in let b = i.0 in omega arith), (let a = w.2 in let b = i.1 in omega arith));
        free = λ r c larger has.
            let j = In-from_Contains M r c in
            let k = block_in M table r j in
            let b = (block_is_interval r.block x).0 has in
            free.free s.0 x.number s.1 i (r, In-filter (λ (t : Route). is_inside t.block n) M r j (test_from_inside r.block n k ok larger.0), larger_is_shorter n r.block ok k larger, b.1, b.2);
      }

  -- if there is a gap, the block governs its first address, else none
  pub gap_governs : (s : Span) (spans : List Span) → gaps n.len (first n) (last n) (routes_inside M n) ≡ s ∷ spans → GovernsNone false M n
  gap_governs s spans e =
      let x : Address = record { family = n.family; number = s.first } in
      let i : In s (gaps n.len (first n) (last n) (routes_inside M n)) = subst (λ l. In s l) (sym e) (inl refl) in
      let w = free.within s i in
      (x, in_governed x (refl, Any-from_In (IsIn x.number) _ s i (omega arith, (let o = w.1 in omega arith))))

  pub no_gap_governs : gaps n.len (first n) (last n) (routes_inside M n) ≡ [] → GovernsNone true M n
  no_gap_governs e x g = let t = In-from_Any (IsIn x.number) _ (governed_in x g).1 in absurd (subst (λ l. In t.0 l) e t.1)

  top : last n < 2 ^ width n.family
  top = member_is_address n (last_of n) ok ((block_is_interval n (last_of n)).1 (refl, first_to_last n, omega arith))

  -- the blocks of the gaps
  governed_is : IsMaximal (Governed M n) (blocks_of_spans n.family (gaps n.len (first n) (last n) (routes_inside M n)))
  governed_is =
      let spans = gaps n.len (first n) (last n) (routes_inside M n) in
      maximal_same (InSpans n.family spans) (Governed M n) (λ x _ h. in_governed x h) (λ x _ g. governed_in x g) (blocks_of_spans n.family spans)
      (cuts_are_maximal n.family spans free.apart (λ s i. (free.within s i).1) (λ s i. let w = (free.within s i).2 in omega (arith, top)))

  -- the same by the routes inside alone
  inside_is_table : IsTable (routes_inside M n)
  inside_is_table = record {
    blocks = All-from_In (λ (r : Route). IsBlock r.block) (routes_inside M n) (λ r i. block_in M table r (inside_of r i).0);
    hops = All-from_In (λ (r : Route). IsHop r.hop) (routes_inside M n) (λ r i. In-from_All (λ (s : Route). IsHop s.hop) M table.hops r (inside_of r i).0);
    ascending = pairs_from_Rising Sooner (routes_inside M n) (Rising-kept Sooner (λ (s : Route). is_inside s.block n) M (Rising-from_pairs Sooner M table.ascending));
  }

  to_all : (x : Address) → Governed (routes_inside M n) n x → Governed M n x
  to_all x g = record {
    inside = g.inside;
    free = λ r c larger has.
        let i = In-from_Contains M r c in
        g.free r (Contains-from_In (routes_inside M n) r (In-filter (λ (s : Route). is_inside s.block n) M r i (test_from_inside r.block n (block_in M table r i) ok larger.0))) larger has;
  }

  to_inside : (x : Address) → Governed M n x → Governed (routes_inside M n) n x
  to_inside x g = record {
    inside = g.inside;
    free = λ r c. g.free r (Contains-from_In M r (inside_of r (In-from_Contains (routes_inside M n) r c)).0);
  }

  module _ (rs : List Route) (inside : rs ≡ routes_inside M n) where
    pub part_is_table : IsTable rs
    part_is_table = subst IsTable (sym inside) inside_is_table

    pub part_is_inside : All (λ r. IsInside (Route.block r) n) rs
    part_is_inside = All-from_In (λ (r : Route). IsInside r.block n) rs (λ r i. (inside_of r (subst (λ xs. In r xs) inside i)).1)

    pub governed_in_part : (bs : List Block) → IsMaximal (Governed rs n) bs → IsMaximal (Governed M n) bs
    governed_in_part bs m = maximal_same (Governed (routes_inside M n) n) (Governed M n) (λ x _ g. to_all x g) (λ x _ g. to_inside x g) bs (subst (λ xs. IsMaximal (Governed xs n) bs) inside m)

  -- where all lie inside
  module _ (within : All (λ r. IsInside (Route.block r) n) M) where
    all_kept_inside : routes_inside M n ≡ M
    all_kept_inside = all_kept (λ (r : Route). is_inside r.block n) M (λ r i. test_from_inside r.block n (block_in M table r i) ok (In-from_All (λ (s : Route). IsInside s.block n) M within r i))

    pub all_end : All (λ r. last (Route.block r) ≤ last n) M
    all_end = All-from_In (λ (r : Route). last r.block ≤ last n) M (λ r i. routes_end r (subst (λ xs. In r xs) (sym all_kept_inside) i))

    pub governed_by : (bs : List Block) → bs ≡ blocks_of_spans n.family (gaps n.len (first n) (last n) M) → IsMaximal (Governed M n) bs
    governed_by bs h = subst (IsMaximal (Governed M n)) (sym (h ∙ ap (λ xs. blocks_of_spans n.family (gaps n.len (first n) (last n) xs)) (sym all_kept_inside))) governed_is
