-- The blocks of joined spans are the maximal blocks of what the spans came from.
use Rattle.std.proofs.Common.{◌≡◌, ℕ, ◌^◌, ◌<◌, ◌⊎◌, inl, inr, ⊎_elim, refl, sym, ◌∙◌, ap, subst, arith, List, [], ◌∷◌, ◌++◌, map, All, Any}
use Rattle.std.specs.List.{flat_map}
use Rattle.std.proofs.lemmas.Nat.{pow_pos}
use Rattle.std.proofs.lemmas.List.{map-append}
use Rattle.std.proofs.lemmas.List.Elements.{All-map}
use Rattle.ipnet_addr.specs.Addresses.{Family, width, Address}
use Rattle.ipnet_blocks.specs.Blocks.{Block, free_bits, HasAddress, first_of}
use Rattle.ipnet_blocks.specs.Maximal.{IsMaximal}
use Rattle.ipnet_blocks.specs.Networks.{Network, block_of, net_of, IsTruncated}
use Rattle.ipnet_blocks.specs.Cuts.{cut, subnets}
use Rattle.ipnet_blocks.specs.declared.aggregate.Span.{Span}
use Rattle.ipnet_blocks.specs.InnerSpans.{IsIn, HasNumber, IsApart, AreJoined, span_of, limits_of}
use Rattle.ipnet_blocks.specs.Aggregated.{InSome, IsAggregated, AreAggregated}
use Rattle.ipnet_blocks.specs.Laws.{AggregatedIsStable}
use Rattle.ipnet_addr.proofs.Members.{In}
use Rattle.ipnet_addr.proofs.Ascending.{In-from_All, All-from_In, In-from_Any, Any-from_In, Contains-from_In, Rising, Rising-from_pairs}
use Rattle.ipnet_blocks.proofs.BlockLaws.{has_first}
use Rattle.ipnet_blocks.proofs.BlockTests.{decide_has}
use Rattle.ipnet_blocks.proofs.NetworkBlocks.{block_round_trip}
use Rattle.ipnet_blocks.proofs.Maximals.{maximal_is_unique, maximal_is_shortest, shortest_is_maximal, maximal_is_union}
use Rattle.ipnet_blocks.proofs.Cuts.{Between, cut_is_exact, span_of_has, has_of_span}
use Rattle.ipnet_blocks.proofs.Lists.{any_left, any_right, any_cases, any_one, one_any}
use Rattle.ipnet_blocks.proofs.Unions.{IsFarBefore, maximal_join, maximal_same, maximal_none}

abbrev pub InSpans : Family → List Span → Address → Type 0
InSpans f spans x = (x.family ≡ f) × Any (IsIn x.number) spans

abbrev pub cuts : Family → List Span → List Block
cuts f spans = flat_map (λ s. cut f (limits_of s)) spans

cut_is_maximal : (f : Family) (s : Span) → s.last < 2 ^ width f → IsMaximal (Between f s.first s.last) (cut f (limits_of s))
cut_is_maximal f s top =
    let h = cut_is_exact f (limits_of s) top (omega arith) in
    record {
      ascending = h.ascending;
      exact = λ b. (
        (λ i. let c = (h.exact b).0 i in record { within = c.within; largest = λ d w l. c.largest d (omega arith) w l }),
        (λ m. (h.exact b).1 (record { within = m.within; long = omega arith; largest = λ d _ w l. m.largest d w l })),
      );
    }

pub cuts_are_maximal : (f : Family) (spans : List Span) → Rising IsApart spans → ((s : Span) → In s spans → HasNumber s) → ((s : Span) → In s spans → s.last < 2 ^ width f) → IsMaximal (InSpans f spans) (cuts f spans)
cuts_are_maximal f [] up has top = maximal_none (InSpans f []) (λ x h. let a = In-from_Any (IsIn x.number) [] h.1 in a.1)
cuts_are_maximal f (s ∷ spans) up has top =
    let rest = cuts_are_maximal f spans up.1 (λ t i. has t (inr i)) (λ t i. top t (inr i)) in
    let far : (x y : Address) → Between f s.first s.last x → InSpans f spans y → IsFarBefore x y = λ x y h k.
    let a = In-from_Any (IsIn y.number) spans k.1 in
    let gap = up.0 a.0 a.1 in
    let up_to = h.2 in
    let from = a.2.0 in
    inr (h.0 ∙ sym k.0, omega arith) in
    maximal_same (λ x. Between f s.first s.last x ⊎ InSpans f spans x) (InSpans f (s ∷ spans))
    (λ x _ h. ⊎_elim (λ b. (b.0, any_left (IsIn x.number) (s ∷ []) spans (any_one (IsIn x.number) s (b.1, b.2)))) (λ r. (r.0, any_right (IsIn x.number) (s ∷ []) spans r.1)) h)
    (λ x _ h. ⊎_elim (λ b. let i = one_any (IsIn x.number) s b in inl (h.0, i.0, i.1)) (λ r. inr (h.0, r)) (any_cases (IsIn x.number) (s ∷ []) spans h.1))
    _
    (maximal_join (Between f s.first s.last) (InSpans f spans) far _ _ (cut_is_maximal f s (top s (inl refl))) rest)

-- an address is one of a network's where its number is one of the network's span
in_span : (f : Family) (n : Network) (x : Address) → HasAddress (block_of f n) x → (x.family ≡ f) × IsIn x.number (span_of f n)
in_span f n x h = let r = span_of_has (block_of f n) x h in let p = pow_pos (free_bits (block_of f n)) in (h.0, (r.0, omega arith))

of_span : (f : Family) (n : Network) (x : Address) → x.family ≡ f → IsIn x.number (span_of f n) → HasAddress (block_of f n) x
of_span f n x e i = let p = pow_pos (free_bits (block_of f n)) in has_of_span (block_of f n) x e i.0 (let h = i.1 in omega arith)

pub some_to_spans : (f : Family) (ns : List Network) (x : Address) → InSome (map (block_of f) ns) x → InSpans f (map (span_of f) ns) x
some_to_spans f [] x h = let a = In-from_Any (λ b. HasAddress b x) [] h in absurd a.1
some_to_spans f (n ∷ ns) x h = ⊎_elim
    (λ o. let i = in_span f n x (one_any (λ b. HasAddress b x) (block_of f n) o) in (i.0, any_left (IsIn x.number) (span_of f n ∷ []) (map (span_of f) ns) (any_one (IsIn x.number) (span_of f n) i.1)))
    (λ r. let i = some_to_spans f ns x r in (i.0, any_right (IsIn x.number) (span_of f n ∷ []) (map (span_of f) ns) i.1))
    (any_cases (λ b. HasAddress b x) (block_of f n ∷ []) (map (block_of f) ns) h)

spans_to_some : (f : Family) (ns : List Network) (x : Address) → InSpans f (map (span_of f) ns) x → InSome (map (block_of f) ns) x
spans_to_some f [] x h = let a = In-from_Any (IsIn x.number) [] h.1 in absurd a.1
spans_to_some f (n ∷ ns) x h = ⊎_elim
    (λ o. any_left (λ b. HasAddress b x) (block_of f n ∷ []) (map (block_of f) ns) (any_one (λ b. HasAddress b x) (block_of f n) (of_span f n x h.0 (one_any (IsIn x.number) (span_of f n) o))))
    (λ r. any_right (λ b. HasAddress b x) (block_of f n ∷ []) (map (block_of f) ns) (spans_to_some f ns x (h.0, r)))
    (any_cases (IsIn x.number) (span_of f n ∷ []) (map (span_of f) ns) h.1)

-- whether an address is in some block
decide_some : (bs : List Block) (x : Address) → InSome bs x ⊎ (InSome bs x → ⊥)
decide_some [] x = inr (λ h. let a = In-from_Any (λ b. HasAddress b x) [] h in a.1)
decide_some (b ∷ bs) x = ⊎_elim
    (λ h. inl (any_left (λ b. HasAddress b x) (b ∷ []) bs (any_one (λ b. HasAddress b x) b h)))
    (λ k. ⊎_elim
    (λ h. inl (any_right (λ b. HasAddress b x) (b ∷ []) bs h))
    (λ l. inr (λ h. ⊎_elim (λ o. k (one_any (λ b. HasAddress b x) b o)) l (any_cases (λ b. HasAddress b x) (b ∷ []) bs h)))
    (decide_some bs x))
    (decide_has b x)

-- the maximal blocks have all that `aggregate` promises
pub aggregated_of_maximal : (given bs : List Block) → IsMaximal (InSome given) bs → IsAggregated given bs
aggregated_of_maximal given bs m = record {
  maximal = m;
  union = maximal_is_union (InSome given) (decide_some given) bs m;
  shortest = maximal_is_shortest (InSome given) bs m;
  only = λ cs u up few. shortest_is_maximal (InSome given) bs cs m u up few;
}

-- blocks of one family as networks, and back
networks_back : (f : Family) (bs : List Block) → ((b : Block) → In b bs → b.family ≡ f) → map (block_of f) (map net_of bs) ≡ bs
networks_back f [] all = refl
networks_back f (b ∷ bs) all =
    let one : block_of f (net_of b) ≡ b = subst (λ g. block_of g (net_of b) ≡ b) (all b (inl refl)) (block_round_trip b) in
    λ i. one i ∷ networks_back f bs (λ c j. all c (inr j)) i

networks_truncated : (f : Family) (bs : List Block) → ((b : Block) → In b bs → b.family ≡ f) → (n : Network) → In n (map net_of bs) → IsTruncated f n
networks_truncated f [] all n i = absurd i
networks_truncated f (b ∷ bs) all n i = ⊎_elim
    (λ e. let one : block_of f (net_of b) ≡ b = subst (λ g. block_of g (net_of b) ≡ b) (all b (inl refl)) (block_round_trip b) in
    subst (IsTruncated f) (sym e) (ap net_of (sym one)))
    (λ j. networks_truncated f bs (λ c k. all c (inr k)) n j)
    i

networks_of_cuts : (f : Family) (spans : List Span) → flat_map (λ s. subnets f (limits_of s)) spans ≡ map net_of (cuts f spans)
networks_of_cuts f [] = refl
networks_of_cuts f (s ∷ spans) = ap (λ ns. subnets f (limits_of s) ++ ns) (networks_of_cuts f spans) ∙ sym (map-append net_of (cut f (limits_of s)) (cuts f spans))

pub joined_aggregated : (f : Family) (ns vs : List Network) (spans : List Span) → AreJoined (map (span_of f) ns) spans → ((s : Span) → In s spans → s.last < 2 ^ width f) → vs ≡ flat_map (λ s. subnets f (limits_of s)) spans → AreAggregated f ns vs
joined_aggregated f ns vs spans j top is =
    let bs = cuts f spans in
    let m = cuts_are_maximal f spans (Rising-from_pairs IsApart spans j.apart) (In-from_All HasNumber spans j.some) top in
    let one : (b : Block) → In b bs → b.family ≡ f = λ b i. (((m.exact b).0 (Contains-from_In bs b i)).within.all (first_of b) (has_first b)).0 in
    let nets = is ∙ networks_of_cuts f spans in
    let whole = maximal_same (InSpans f spans) (InSome (map (block_of f) ns))
    (λ x _ h. spans_to_some f ns x (h.0, (j.same x.number).1 h.1))
    (λ x _ h. let k = some_to_spans f ns x h in (k.0, (j.same x.number).0 k.1))
    bs m in
    record {
      blocks = subst (λ cs. IsAggregated (map (block_of f) ns) cs) (sym (ap (map (block_of f)) nets ∙ networks_back f bs one)) (aggregated_of_maximal (map (block_of f) ns) bs whole);
      truncated = subst (All (IsTruncated f)) (sym nets) (All-from_In (IsTruncated f) (map net_of bs) (networks_truncated f bs one));
    }

pub aggregated_is_stable : AggregatedIsStable
aggregated_is_stable given bs cs h g =
    maximal_is_unique (InSome bs) cs bs g.maximal (maximal_same (InSome given) (InSome bs) (λ x a. (h.union.exact x a).0) (λ x a. (h.union.exact x a).1) bs h.maximal)

-- spans of networks have numbers, and joined spans end where some of them ends
pub spans_have : {N : Type 0} (f : Family) (parts : N → Network) (ns : List N) → All HasNumber (map (λ n. span_of f (parts n)) ns)
spans_have f parts ns = All-map HasNumber (λ n. span_of f (parts n)) ns (λ k d lt. omega arith)

pub joined_fit : (top : ℕ) (given spans : List Span) → AreJoined given spans → All (λ s. s.last < top) given → All (λ s. s.last < top) spans
joined_fit top given spans j fit = All-from_In (λ s. s.last < top) spans (λ s i.
    let has = In-from_All HasNumber spans j.some s i in
    let a = In-from_Any (IsIn s.last) given ((j.same s.last).1 (Any-from_In (IsIn s.last) spans s i (has, omega arith))) in
    let l = In-from_All (λ s. s.last < top) given fit a.0 a.1 in
    let m = a.2.1 in
    omega arith)
