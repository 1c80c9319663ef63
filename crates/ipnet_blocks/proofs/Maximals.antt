-- The list of the maximal blocks of a set: unique, shortest, and the only shortest.
use Rattle.std.proofs.Common.{◌≡◌, ◌+◌, ◌-◌, ◌*◌, ◌/◌, ◌^◌, ◌<◌, ◌≤◌, ◌⊎◌, inl, inr, ⊎_elim, Bool, true, false, IsTrue, List, length, refl, sym, ap, ◌∙◌, subst, arith, div-one, div-lt_iff_lt-mul, pow_pos}
use Rattle.std.proofs.Math.Pow.{pow-add}
use Rattle.ipnet_addr.specs.Addresses.{width, Address, IsAddress}
use Rattle.ipnet_blocks.specs.Blocks.{Block, IsBlock, free_bits, HasAddress, IsInside, IsBefore, IsAscending, first_of, host}
use Rattle.ipnet_blocks.specs.Maximal.{IsWithin, IsMaximalBlock, IsMaximal, IsUnion, IsShortest}
use Rattle.ipnet_addr.proofs.Members.{In, Distinct}
use Rattle.ipnet_addr.proofs.Ascending.{In-from_Contains, Contains-from_In, In-from_All, All-from_In, In-from_Any, Any-from_In, Rising-from_pairs, Distinct-from_Rising, same_rising}
use Rattle.ipnet_blocks.proofs.Cover.{Top, Covers, least, cover_in, in_cover}
use Rattle.ipnet_blocks.proofs.BlockLaws.{same_sets, nested, has_first, strict}
use Rattle.ipnet_blocks.proofs.Parents.{decide_inside, climb}

pub host_is_block : (x : Address) → IsAddress x → IsBlock (host x)
host_is_block x h = record { in_width = omega arith; in_range = h }

pub in_host : (x y : Address) → HasAddress (host x) y → y ≡ x
in_host x y h =
    let z : width x.family - width x.family ≡ 0 = omega arith in
    let e : y.number ≡ x.number = sym (ap (λ n. y.number / 2 ^ n) z ∙ div-one y.number) ∙ h.1 in
    λ i. record { family = h.0 i; number = e i }

pub has_host : (x : Address) → HasAddress (host x) x
has_host x =
    let z : width x.family - width x.family ≡ 0 = omega arith in
    (refl, ap (λ n. x.number / 2 ^ n) z ∙ div-one x.number)

pub member_is_address : (b : Block) (x : Address) → IsBlock b → HasAddress b x → IsAddress x
member_is_address b x p h =
    let few : x.number / 2 ^ free_bits b < 2 ^ b.len = subst (λ q. q < 2 ^ b.len) (sym h.1) p.in_range in
    let below : x.number < 2 ^ b.len * 2 ^ free_bits b = (div-lt_iff_lt-mul (pow_pos (free_bits b))).0 few in
    let fits = p.in_width in
    let e : b.len + free_bits b ≡ width b.family = omega arith in
    let w : 2 ^ b.len * 2 ^ free_bits b ≡ 2 ^ width b.family = sym (pow-add 2 b.len (free_bits b)) ∙ ap (λ n. 2 ^ n) e in
    subst (λ g. x.number < 2 ^ width g) (sym h.0) (subst (λ n. x.number < n) w below)

module _ (S : Address → Type 0) where
  Good : Block → Type 0
  Good b = IsWithin S b

  point : (b : Block) → IsWithin S b → (x : Address) × HasAddress b x
  point b w = (first_of b, has_first b)

  nests : (a b : Block) (x : Address) → IsWithin S a → IsWithin S b → HasAddress a x → HasAddress b x → IsInside a b ⊎ IsInside b a
  nests a b x v w h k = nested a b x v.block w.block h k

  same : (a b : Block) → IsWithin S a → IsWithin S b → IsInside a b → IsInside b a → a ≡ b
  same a b v w h k = same_sets a b v.block w.block h k

  pub maximal_is_top : (b : Block) → IsMaximalBlock S b → Top Block Address HasAddress (IsWithin S) b
  maximal_is_top b m = (
    m.within,
    λ c w h.
        ⊎_elim (λ k. same c b w m.within k h) (λ no. absurd (m.largest c w (h, no))) (decide_inside c b w.block m.within.block),
  )

  tops : (bs : List Block) → IsMaximal S bs → (b : Block) → In b bs → Top Block Address HasAddress (IsWithin S) b
  tops bs m b i = maximal_is_top b ((m.exact b).0 (Contains-from_In bs b i))

  apart : (bs : List Block) → IsAscending bs → Distinct bs
  apart bs h = Distinct-from_Rising IsBefore strict bs (Rising-from_pairs IsBefore bs h)

  union_covers : (bs cs : List Block) → IsMaximal S bs → IsUnion S cs → Covers Block Address HasAddress (IsWithin S) cs bs
  union_covers bs cs m u =
      let blocks = In-from_All IsBlock cs u.blocks in (
        (λ c i. record {
          block = blocks c i;
          all = λ x h.
              (u.exact x (member_is_address c x (blocks c i) h)).1 (Any-from_In (λ b. HasAddress b x) cs c i h);
        }),
        (λ b x i h. let w = ((m.exact b).0 (Contains-from_In bs b i)).within in
            In-from_Any (λ c. HasAddress c x) cs ((u.exact x (member_is_address b x w.block h)).0 (w.all x h))),
      )

  pub maximal_is_unique : (bs cs : List Block) → IsMaximal S bs → IsMaximal S cs → bs ≡ cs
  maximal_is_unique bs cs m n =
      same_rising IsBefore strict bs cs (Rising-from_pairs IsBefore bs m.ascending) (Rising-from_pairs IsBefore cs n.ascending)
      (λ b i. In-from_Contains cs b ((n.exact b).1 ((m.exact b).0 (Contains-from_In bs b i))))
      (λ b i. In-from_Contains bs b ((m.exact b).1 ((n.exact b).0 (Contains-from_In cs b i))))

  pub maximal_is_shortest : (bs : List Block) → IsMaximal S bs → IsShortest S bs
  maximal_is_shortest bs m cs u =
      least Block Address HasAddress (IsWithin S) point nests same bs cs (apart bs m.ascending) (tops bs m) (union_covers bs cs m u)

  pub shortest_is_maximal : (bs cs : List Block) → IsMaximal S bs → IsUnion S cs → IsAscending cs → length cs ≤ length bs → bs ≡ cs
  shortest_is_maximal bs cs m u up few =
      same_rising IsBefore strict bs cs (Rising-from_pairs IsBefore bs m.ascending) (Rising-from_pairs IsBefore cs up)
      (in_cover Block Address HasAddress (IsWithin S) point nests same bs cs (apart bs m.ascending) (tops bs m) (union_covers bs cs m u) few)
      (cover_in Block Address HasAddress (IsWithin S) point nests same bs cs (apart bs m.ascending) (tops bs m) (union_covers bs cs m u) few)

  pub maximal_is_union : ((x : Address) → S x ⊎ (S x → ⊥)) → (bs : List Block) → IsMaximal S bs → IsUnion S bs
  maximal_is_union decide bs m = record {
    blocks = All-from_In IsBlock bs (λ b i. ((m.exact b).0 (Contains-from_In bs b i)).within.block);
    exact = λ x a. (
      (λ s. let w : IsWithin S (host x) = record { block = host_is_block x a; all = λ y h. subst S (sym (in_host x y h)) s } in
          let t = climb S decide (width x.family) (host x) refl w in
          Any-from_In (λ b. HasAddress b x) bs t.0 (In-from_Contains bs t.0 ((m.exact t.0).1 t.1)) (t.2 x (has_host x))),
      (λ h. let t = In-from_Any (λ b. HasAddress b x) bs h in
          ((m.exact t.0).0 (Contains-from_In bs t.0 t.1)).within.all x t.2),
    );
  }

pub decide_test : (s : Address → Bool) (x : Address) → IsTrue (s x) ⊎ (IsTrue (s x) → ⊥)
decide_test s x = go (s x) refl
  where
    go : (t : Bool) → s x ≡ t → IsTrue (s x) ⊎ (IsTrue (s x) → ⊥)
    go true e = inl e
    go false e = inr (λ h. cc)
