-- A network that governs no address, as a block that the routes strictly inside cover.
use Rattle.std.proofs.Common.{◌≡◌, ◌-◌, ◌≤◌, ⊎_elim, inl, inr, Bool, true, false, List, [], ◌∷◌, ◌++◌, length, drop, refl, sym, ap, ◌∙◌, subst, length-append, arith}
use Rattle.ipnet_addr.specs.Addresses.{Address, Family, IsAddress, width}
use Rattle.ipnet_addr.proofs.Members.{In}
use Rattle.ipnet_addr.proofs.Ascending.{Contains-from_In, In-from_Contains}
use Rattle.ipnet_blocks.specs.BitStrings.{begins}
use Rattle.ipnet_blocks.specs.Blocks.{Block, IsBlock, IsInside, bit_string, host}
use Rattle.ipnet_blocks.proofs.BitStrings.{begins_on, begun_rest}
use Rattle.ipnet_blocks.proofs.BlockLaws.{same_sets}
use Rattle.ipnet_blocks.proofs.Maximals.{member_is_address}
use Rattle.ipnet_blocks.proofs.Strings.{begins_from_inside, inside_from_begins, length-digits}
use Rattle.nearest_table.specs.Asked.{NoneHolds}
use Rattle.least_table.specs.Wholes.{without_own}
use Rattle.nearest_table.specs.Blocks.{IsCovered, inner}
use Rattle.nearest_table.proofs.Asked.{asked_law}
use Rattle.ipnet_blocks.specs.Networks.{Network, block_of}
use Rattle.ipnet.specs.IpNets.{block}
use Rattle.route_laws.specs.Tables.{Governed, IsTable, Route}
use Rattle.route_laws.proofs.Insides.{sound}
use Rattle.route_laws.proofs.NetworksAt.{block_of-net_in, of_network_at}
use Rattle.route_table.specs.InnerGoverning.{GovernsNone}
use Rattle.route_table.specs.InnerLeast.{address_at, entries_of}
use Rattle.route_table.specs.InnerFamilyTables.{block_at}
use Rattle.route_table.proofs.FamilyBits.{AllOf}
use Rattle.route_table.proofs.FlatPieces.{begins_host, bits_at, has_begun}
use Rattle.route_table.proofs.Strings.{block_at_is_block, same_string, string_of_block, string_or_not}
use Rattle.route_table.proofs.Updating.{network_of_bits}
use Rattle.trie_core.specs.Bits.{number_from}
use Rattle.trie_core.proofs.Numbers.{number_bound}

-- no route that is strictly inside s contains y
none_holds : (M : List Route) (s y : List Bool) → ((r : Route) → In r M → begins s (bit_string r.block) ≡ true → begins (bit_string r.block) y ≡ true → bit_string r.block ≡ s) → NoneHolds (entries_of M) s y
none_holds [] s y h = tt
none_holds (r ∷ M) s y h = (h r (inl refl), none_holds M s y (λ q i. h q (inr i)))

is_itself : (M : List Route) (s y : List Bool) → NoneHolds (entries_of M) s y → (r : Route) → In r M → begins s (bit_string r.block) ≡ true → begins (bit_string r.block) y ≡ true → bit_string r.block ≡ s
is_itself (q ∷ M) s y h r (inl e) a b = subst (λ (p : Route). begins s (bit_string p.block) ≡ true → begins (bit_string p.block) y ≡ true → bit_string p.block ≡ s) (sym e) h.0 a b
is_itself (q ∷ M) s y h r (inr i) a b = is_itself M s y h.1 r i a b
is_itself [] s y h r i a b = absurd i

module _ (f : Family) (M : List Route) (table : IsTable M) (all : AllOf f M) (s : List Bool) (short : length s ≤ width f) where
  abbrev n : Block
  n = block_at f s

  n_is : IsBlock n
  n_is = block_at_is_block f s short

  bits_are : bit_string n ≡ s
  bits_are = string_of_block f s

  block_in : (r : Route) → In r M → IsBlock r.block
  block_in r i = (sound M table r i).0

  module _ (x : Address) (ok : IsAddress x) (e : x.family ≡ f) where
    abbrev y : List Bool
    y = bit_string (host x)

    free_from_governed : Governed M n x → NoneHolds (entries_of M) s y
    free_from_governed g = none_holds M s y (λ r i a b.
        let p = block_in r i in
        let inside : IsInside r.block n = inside_from_begins r.block n p n_is (all r i) (subst (λ t. begins t (bit_string r.block) ≡ true) (sym bits_are) a) in
        ⊎_elim (λ q. q)
        (λ apart. absurd (g.free r (Contains-from_In M r i)
        (inside, λ back. apart (ap (λ b. bit_string b) (same_sets r.block n p n_is inside back) ∙ bits_are))
        (has_begun r.block x p ok (all r i ∙ sym e) b)))
        (string_or_not (bit_string r.block) s))

    governed_from_free : begins s y ≡ true → NoneHolds (entries_of M) s y → Governed M n x
    governed_from_free here free = record {
      inside = has_begun n x n_is ok (sym e) (subst (λ t. begins t y ≡ true) (sym bits_are) here);
      free = λ r c larger has.
          let i = In-from_Contains M r c in
          let p = block_in r i in
          let a = subst (λ t. begins t (bit_string r.block) ≡ true) bits_are (begins_from_inside r.block n p n_is larger.0) in
          let same = is_itself M s y free r i a (begins_host r.block x p ok (all r i ∙ sym e) has) in
          larger.1 (subst (λ b. IsInside n b) (same_string n r.block n_is p (sym (all r i)) (bits_are ∙ sym same)) (λ z h. h));
    }

  -- whether the network governs none is whether the block is covered
  pub covered_is : (v : Bool) → GovernsNone v M n → IsCovered v (width f - length s) (without_own (inner s (entries_of M)))
  covered_is true none = λ x l free.
      let long : length (s ++ x) ≡ width f = omega (arith, l, short, length-append s x) in
      let here = bits_at f (s ++ x) long in
      none (address_at f (s ++ x)) (governed_from_free (address_at f (s ++ x)) (number_bound (width f) (s ++ x)) refl
      (subst (λ t. begins s t ≡ true) (sym here) (begins_on s x))
      (subst (NoneHolds (entries_of M) s) (sym here) (((asked_law (entries_of M) s).3 x).0 free)))
  covered_is false found =
      let x = found.0 in
      let g = found.1 in
      let ok = member_is_address n x n_is g.inside in
      let e : x.family ≡ f = g.inside.0 in
      let y = bit_string (host x) in
      let long : length y ≡ width f = length-digits (width x.family) x.number ∙ ap width e in
      let here : begins s y ≡ true = subst (λ t. begins t y ≡ true) bits_are (begins_host n x n_is ok (sym e) g.inside) in
      let whole = begun_rest s y here in (
        drop (length s) y,
        (let m = ap length whole in omega (arith, m, long, length-append s (drop (length s) y))),
        ((asked_law (entries_of M) s).3 (drop (length s) y)).1 (subst (NoneHolds (entries_of M) s) (sym whole) (free_from_governed x ok e g)),
      )

-- the block of the key with these bits
pub block_of_bits : (f : Family) {K : Type 0} (of_bits : List Bool → K) (parts_in : K → Network) (parts_are : (s : List Bool) → parts_in (of_bits s) ≡ record { number = number_from (width f) s; len = length s })
    (s : List Bool) → length s ≤ width f → (k : K) → k ≡ of_bits s → block_of f (parts_in k) ≡ block_at f s
block_of_bits f of_bits parts_in parts_are s h k e =
    sym (block_of-net_in f (parts_in k)) ∙ ap block (network_of_bits f of_bits parts_in parts_are s h k e) ∙ of_network_at (block_at f s)
