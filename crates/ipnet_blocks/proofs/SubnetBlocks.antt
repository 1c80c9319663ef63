-- The subnets and the hosts of a block.
use Rattle.std.proofs.Common.{◌≡◌, ℕ, ◌+◌, ◌-◌, ◌^◌, ◌<◌, ◌≤◌, ◌⊎◌, inl, inr, refl, sym, ◌∙◌, ap, subst, arith, Bool, true, false, ◌&&◌, nat_lt, List, Contains}
use Rattle.std.proofs.lemmas.Nat.{pow_pos}
use Rattle.std.proofs.lemmas.Bool.{cases_lt, and_parts, cond-true, cond-false}
use Rattle.std.proofs.lemmas.Bool.Decides.{nat_tests}
use Rattle.std.proofs.Math.Nat.{pow-le-pow_right}
use Rattle.std.proofs.lemmas.List.FromFn.{get_or-range_with_len}
use Rattle.ipnet_addr.specs.Addresses.{Ipv4, same_family, rank, Address}
use Rattle.ipnet_addr.specs.Ranges.{Ends, numbers}
use Rattle.ipnet_addr.proofs.RangeEnds.{count_is}
use Rattle.ipnet_addr.proofs.RangeCalls.{has_number}
use Rattle.ipnet_blocks.specs.Blocks.{Block, free_bits, HasAddress, parent, first, last, first_of}
use Rattle.ipnet_blocks.specs.Maximal.{IsCutBlock, IsCut}
use Rattle.ipnet_blocks.specs.Cuts.{AreSubnets}
use Rattle.ipnet_blocks.specs.Hosts.{host_ends}
use Rattle.ipnet_blocks.specs.Laws.{HostsAreExact}
use Rattle.ipnet_addr.proofs.Families.{rank_apart}
use Rattle.ipnet_blocks.proofs.BlockLaws.{has_first, common, longer_inside}
use Rattle.ipnet_blocks.proofs.Parents.{larger_is_shorter, parent_is_block, inside_parent}
use Rattle.ipnet_blocks.proofs.Cuts.{Between, span_of_has, has_of_span}

-- an address between the least and the greatest of a block is one of the block's
between_has : (b : Block) (x : Address) → Between b.family (first b) (last b) x → HasAddress b x
between_has b x h = let p = pow_pos (free_bits b) in has_of_span b x h.0 h.1 (omega arith)

has_between : (b : Block) (x : Address) → HasAddress b x → Between b.family (first b) (last b) x
has_between b x h = let p = pow_pos (free_bits b) in let r = span_of_has b x h in (h.0, r.0, omega arith)

-- the blocks of a range of one block that are as short as may be
pub subnets_are : (b : Block) (n : ℕ) (bs : List Block) → b.len ≤ n → IsCut b.family (first b) (last b) n bs → AreSubnets b n bs
subnets_are b n bs le cut = record {
  ascending = cut.ascending;
  exact = λ c. (
    (λ i. let k = (cut.exact c).0 i in (k.within.block, same c k, λ x h. between_has b x (k.within.all x h))),
    (λ k. (cut.exact c).1 (record {
      within = record { block = k.0; all = λ x h. has_between b x (k.2 x h) };
      long = let e = k.1 in omega arith;
      largest = λ d l w g. let s = larger_is_shorter d c w.block k.0 g in let e = k.1 in omega arith;
    })),
  );
}
  where
    same : (c : Block) → IsCutBlock b.family (first b) (last b) n c → c.len ≡ n
    same c k = elim (cases_lt n c.len) [
      | inr ge ↦ let l = k.long in omega arith
      | inl lt ↦
          let ok = parent_is_block c k.within.block (omega arith) in
          let up = inside_parent c k.within.block (omega arith) in
          let here = between_has b (first_of c) (k.within.all (first_of c) (has_first c)) in
          let in_b = common (parent c) b (first_of c) ok (up (first_of c) (has_first c)) here (omega arith) in
          absurd (k.largest (parent c) (omega arith) (record { block = ok; all = λ x h. has_between b x (in_b x h) })
          (up, λ back. let l = longer_inside (parent c) c k.within.block refl back in omega arith))
    ]

within_ends : (e : Ends) (n : ℕ) → Contains (numbers e) n → (e.start ≤ n) × (n ≤ e.end)
within_ends e n c =
    let l = count_is e.start e.end in
    let k = c.1 in
    let at : e.start + c.0 ≡ n = sym (get_or-range_with_len e.start (e.end + 1 - e.start) c.0 n (omega arith)) ∙ c.2 in
    (omega arith, omega arith)

ends_within : (e : Ends) (n : ℕ) → e.start ≤ n → n ≤ e.end → Contains (numbers e) n
ends_within e n l h = let at : e.start + (n - e.start) ≡ n = omega arith in subst (Contains (numbers e)) at (has_number e.start e.end (n - e.start) (omega arith) (omega arith))

-- where the least and the greatest address are no hosts, and where they are
ends_cases : (b : Block)
    → ((b.family ≡ Ipv4) × (b.len < 31) × (host_ends b ≡ record { start = first b + 1; end = last b - 1 }))
    ⊎ (((b.family ≡ Ipv4) × (b.len < 31) → ⊥) × (host_ends b ≡ record { start = first b; end = last b }))
ends_cases b = go (same_family b.family Ipv4 && nat_lt b.len 31) refl
  where
    go : (t : Bool) → (same_family b.family Ipv4 && nat_lt b.len 31) ≡ t
        → ((b.family ≡ Ipv4) × (b.len < 31) × (host_ends b ≡ record { start = first b + 1; end = last b - 1 }))
        ⊎ (((b.family ≡ Ipv4) × (b.len < 31) → ⊥) × (host_ends b ≡ record { start = first b; end = last b }))
    go true e =
        let p = and_parts (same_family b.family Ipv4) (nat_lt b.len 31) e in
        inl (rank_apart b.family Ipv4 (grind (arith, nat_tests, p.0)), grind (arith, nat_tests, p.1), cond-true (same_family b.family Ipv4 && nat_lt b.len 31) _ _ e)
    go false e = inr (
      (λ h. let f = ap rank h.0 in let l = h.1 in let t : (same_family b.family Ipv4 && nat_lt b.len 31) ≡ true = grind (arith, nat_tests) in cc),
      cond-false (same_family b.family Ipv4 && nat_lt b.len 31) _ _ e,
    )

pub hosts_are_exact : HostsAreExact
hosts_are_exact b n = let x : Address = record { family = b.family; number = n } in elim (ends_cases b) [
  | inl h ↦
      let s : (host_ends b).start ≡ first b + 1 = ap (λ (e : Ends). e.start) h.2 in
      let t : (host_ends b).end ≡ last b - 1 = ap (λ (e : Ends). e.end) h.2 in (
        (λ c. let w = within_ends (host_ends b) n c in (between_has b x (refl, omega arith, omega arith), λ _. ((λ q. absurd (omega arith)), (λ q. absurd (omega arith))))),
        (λ k. let r = has_between b x k.0 in let ne = k.1 (h.0, h.1) in let ne₁ = ne.0 in let ne₂ = ne.1 in ends_within (host_ends b) n (omega arith) (omega arith)),
      )
  | inr h ↦
      let s : (host_ends b).start ≡ first b = ap (λ (e : Ends). e.start) h.1 in
      let t : (host_ends b).end ≡ last b = ap (λ (e : Ends). e.end) h.1 in (
        (λ c. let w = within_ends (host_ends b) n c in (between_has b x (refl, omega arith, omega arith), λ k. absurd (h.0 k))),
        (λ k. let r = has_between b x k.0 in ends_within (host_ends b) n (omega arith) (omega arith)),
      )
]

-- below length 31 a block has two addresses at least
pub two_at_least : (len : ℕ) → len < 31 → 2 ≤ 2 ^ (32 - len)
two_at_least len h = let some : 1 ≤ 32 - len = omega arith in let p : 2 ^ 1 ≤ 2 ^ (32 - len) = pow-le-pow_right (omega arith) some in omega arith
