-- The addresses that the routes of a number govern are those with that hop.
use Rattle.std.proofs.Common.{◌≡◌, ℕ, ◌⊎◌, inl, inr, ⊎_elim, ◌↔◌, ◌==◌, List, [], ◌∷◌, ◌++◌, map, filter, Option, Some, None, Any, refl, sym, ap, ◌∙◌, subst, arith}
use Rattle.ipnet_blocks.proofs.BlockTests.{decide_has}
use Rattle.ipnet_addr.specs.Addresses.{Address, IsAddress}
use Rattle.ipnet_addr.proofs.Members.{In, one_or_all}
use Rattle.ipnet_addr.proofs.Ascending.{In-from_Any, Any-from_In, In-from_Contains, Contains-from_In}
use Rattle.ipnet_blocks.specs.Aggregated.{InSome}
use Rattle.ipnet_blocks.specs.Blocks.{Block, IsBlock, HasAddress, IsLarger, first_of, host}
use Rattle.ipnet_blocks.specs.Maximal.{IsMaximal}
use Rattle.ipnet_blocks.proofs.BlockLaws.{has_first, longer_inside}
use Rattle.ipnet_blocks.proofs.Lists.{any_left, any_right, any_cases, any_one, one_any}
use Rattle.ipnet_blocks.proofs.Maximals.{host_is_block, in_host, has_host, maximal_is_union, maximal_is_unique}
use Rattle.ipnet_blocks.proofs.Parents.{decide_inside, larger_is_shorter}
use Rattle.ipnet_blocks.proofs.Unions.{maximal_same}
use Rattle.ipnet.specs.IpNets.{block}
use Rattle.ipnet.specs.declared.ip_net.IpNet.{IpNet}
use Rattle.route_choices.specs.Hops.{number_of}
use Rattle.route_laws.specs.Flats.{blocks_of, flat_of}
use Rattle.route_table.specs.InnerOwning.{Owns, IsOwned, GrowsBy}
use Rattle.route_laws.specs.Tables.{Route, IsTable, Governed, match_of, match_number, hop_at}
use Rattle.route_laws.proofs.Flats.{search_is_flat, own_is_maximal}
use Rattle.route_laws.proofs.Matches.{block_in, match_meets, match_from, governed_match}

module _ (M : List Route) (table : IsTable M) where
  -- whether a block governs an address
  decide_governed : (n : Block) → IsBlock n → (x : Address) → Governed M n x ⊎ (Governed M n x → ⊥)
  decide_governed n ok x = ⊎_elim
      (λ h. ⊎_elim
      (λ t. inr (λ g. g.free t.0 (Contains-from_In M t.0 t.1) t.2.0 t.2.1))
      (λ none. inl (record { inside = h; free = λ r c l i. none r (In-from_Contains M r c) l i }))
      (one_or_all (λ r. IsLarger n r.block × HasAddress r.block x) (λ r. IsLarger n r.block → HasAddress r.block x → ⊥) M each))
      (λ out. inr (λ g. out g.inside))
      (decide_has n x)
    where
      each : (r : Route) → In r M → (IsLarger n r.block × HasAddress r.block x) ⊎ (IsLarger n r.block → HasAddress r.block x → ⊥)
      each r i =
          let k = block_in M table r i in
          ⊎_elim
          (λ h. ⊎_elim
          (λ a. ⊎_elim (λ back. inr (λ l _. l.1 back)) (λ far. inl ((a, far), h)) (decide_inside n r.block ok k))
          (λ no. inr (λ l _. no l.0))
          (decide_inside r.block n k ok))
          (λ out. inr (λ _ h. out h))
          (decide_has r.block x)

  -- the maximal blocks of what a block governs have its addresses
  pub governed_union : (n : Block) → IsBlock n → (bs : List Block) → IsMaximal (Governed M n) bs → (x : Address) → IsAddress x → Governed M n x ↔ InSome bs x
  governed_union n ok bs m x a = (maximal_is_union (Governed M n) (decide_governed n ok) bs m).exact x a

  match_of_itself : (r : Route) → In r M → match_of M r.block ≡ Some r
  match_of_itself r i =
      let k = block_in M table r i in
      match_from M table r.block k r (record {
        member = Contains-from_In M r i;
        holds = λ x h. h;
        longest = λ s c h. longer_inside r.block s.block (block_in M table s (In-from_Contains M s c)) (h (first_of r.block) (has_first r.block)).0 h;
      })

  pub hop_of_owned : (k : ℕ) (x : Address) → IsAddress x → IsOwned M k M x → hop_at M x ≡ Some k
  hop_of_owned k x a o =
      let t = In-from_Any (Owns M k x) M o in
      ap match_number (governed_match M table (Route.block t.0) (block_in M table t.0 t.1) x a t.2.1 ∙ match_of_itself t.0 t.1) ∙ t.2.0

  pub owned_of_hop : (k : ℕ) (x : Address) → IsAddress x → hop_at M x ≡ Some k → IsOwned M k M x
  owned_of_hop k x a e = go (match_of M (host x)) refl
    where
      go : (o : Option Route) → match_of M (host x) ≡ o → IsOwned M k M x
      go None q = absurd (let z : None ≡ Some k = sym (ap match_number q) ∙ e in cc)
      go (Some r) q =
          let m = match_meets M table (host x) (host_is_block x a) r q in
          let i = In-from_Contains M r m.member in
          Any-from_In (Owns M k x) M r i (
            sym (ap match_number q) ∙ e,
            record {
              inside = m.holds x (has_host x);
              free = λ s c larger has.
                  let l = m.longest s c (λ y n. subst (λ (z : Address). HasAddress s.block z) (sym (in_host x y n)) has) in
                  let d = larger_is_shorter r.block s.block (block_in M table r i) (block_in M table s (In-from_Contains M s c)) larger in
                  omega arith;
            },
          )

  -- networks of which the addresses are those that the routes of a number govern
  module _ (k : ℕ) (ns ms us : List IpNet) (rs ss : List Route) (all : rs ++ ss ≡ M) (none : ns ≡ []) (four : GrowsBy ns (IsOwned M k rs) ms) (six : GrowsBy ms (IsOwned M k ss) us) where
    nothing : (x : Address) → InSome (map block ns) x → ⊥
    nothing x h = let t = In-from_Any (λ b. HasAddress b x) (map block ns) h in subst (λ (ys : List IpNet). In t.0 (map block ys)) none t.1

    to_hop : (x : Address) → IsAddress x → InSome (map block us) x → hop_at M x ≡ Some k
    to_hop x a h = hop_of_owned k x a (subst (λ N. Any (Owns M k x) N) all (⊎_elim
        (λ i. ⊎_elim (λ j. absurd (nothing x j)) (λ o. any_left (Owns M k x) rs ss o) ((four x a).0 i))
        (λ o. any_right (Owns M k x) rs ss o)
        ((six x a).0 h)))

    from_hop : (x : Address) → IsAddress x → hop_at M x ≡ Some k → InSome (map block us) x
    from_hop x a e = ⊎_elim
        (λ o. (six x a).1 (inl ((four x a).1 (inr o))))
        (λ o. (six x a).1 (inr o))
        (any_cases (Owns M k x) rs ss (subst (λ N. Any (Owns M k x) N) (sym all) (owned_of_hop k x a e)))

    pub owned_blocks : (bs : List Block) → IsMaximal (InSome (map block us)) bs → IsMaximal (λ x. hop_at M x ≡ Some k) bs
    owned_blocks bs m = maximal_same (InSome (map block us)) (λ x. hop_at M x ≡ Some k) to_hop from_hop bs m

-- they are those of the flat list
pub owned_is_flat : (M : List Route) (k : ℕ) (bs : List Block) → IsMaximal (λ x. hop_at M x ≡ Some k) bs → bs ≡ blocks_of (filter (λ p. p.number == k) (flat_of (hop_at M)))
owned_is_flat M k bs m = maximal_is_unique (λ x. hop_at M x ≡ Some k) bs (blocks_of (filter (λ p. p.number == k) (flat_of (hop_at M)))) m (own_is_maximal (hop_at M) (flat_of (hop_at M)) k (search_is_flat (hop_at M)))

-- ---- the networks grow

module _ (M : List Route) (k : ℕ) (B : Address → Type 0) (ns : List IpNet) where
  abbrev pub Keeps : List IpNet → List Route → Type 0
  Keeps ms rs = (x : Address) → IsAddress x → (InSome (map block ms) x ⊎ IsOwned M k rs x) ↔ B x

  pub grows : (ms : List IpNet) (r : Route) (rs fs : List Route) → rs ≡ r ∷ fs → Keeps ns rs → GrowsBy ns (λ x. Owns M k x r) ms → Keeps ms fs
  grows ms r rs fs e keeps grow x a = (
    λ h. (keeps x a).0 (⊎_elim (λ i. ⊎_elim (λ j. inl j) (λ o. inr (parts.1 (inl o))) ((grow x a).0 i)) (λ o. inr (parts.1 (inr o))) h),
    λ b. ⊎_elim
        (λ j. inl ((grow x a).1 (inl j)))
        (λ o. ⊎_elim (λ p. inl ((grow x a).1 (inr p))) (λ q. inr q) (parts.0 o))
        ((keeps x a).1 b),
  )
    where
      parts : IsOwned M k rs x ↔ (Owns M k x r ⊎ IsOwned M k fs x)
      parts = subst (λ ss. IsOwned M k ss x ↔ (Owns M k x r ⊎ IsOwned M k fs x)) (sym e) (
        λ o. ⊎_elim (λ p. inl (one_any (Owns M k x) r p)) (λ q. inr q) (any_cases (Owns M k x) (r ∷ []) fs o),
        λ h. ⊎_elim (λ o. any_left (Owns M k x) (r ∷ []) fs (any_one (Owns M k x) r o)) (λ o. any_right (Owns M k x) (r ∷ []) fs o) h,
      )

-- by the blocks that a route of the number governs
pub grows_by_governed : (M : List Route) → IsTable M → (k : ℕ) (r : Route) (ns ms : List IpNet) (bs : List Block) → IsBlock r.block → number_of r.hop ≡ Some k → IsMaximal (Governed M r.block) bs → map block ms ≡ map block ns ++ bs → GrowsBy ns (λ x. Owns M k x r) ms
grows_by_governed M table k r ns ms bs ok is m e x a = (
  λ h. ⊎_elim (λ i. inl i) (λ i. inr (is, (governed_union M table r.block ok bs m x a).1 i)) (any_cases (λ b. HasAddress b x) (map block ns) bs (subst (λ cs. InSome cs x) e h)),
  λ h. subst (λ cs. InSome cs x) (sym e) (⊎_elim (λ i. any_left (λ b. HasAddress b x) (map block ns) bs i) (λ o. any_right (λ b. HasAddress b x) (map block ns) bs ((governed_union M table r.block ok bs m x a).0 o.1)) h),
)

-- before the first route
pub keeps_all : (M : List Route) (k : ℕ) (ns : List IpNet) (all rs : List Route) → rs ≡ all → Keeps M k (λ x. InSome (map block ns) x ⊎ IsOwned M k all x) ns ns rs
keeps_all M k ns all rs e x a = subst (λ ss. (InSome (map block ns) x ⊎ IsOwned M k ss x) ↔ (InSome (map block ns) x ⊎ IsOwned M k all x)) (sym e) ((λ h. h), (λ h. h))
