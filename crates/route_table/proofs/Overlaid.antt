-- Changes as a table: the hops that they tell, as bit strings.
use Rattle.std.proofs.Common.{◌≡◌, ℕ, inl, inr, Bool, List, [], ◌∷◌, length, Option, None, refl, sym, ap, ◌∙◌, subst}
use Rattle.ipnet_addr.specs.Addresses.{Family, Address, IsAddress, width}
use Rattle.ipnet_blocks.specs.Blocks.{HasAddress, bit_string, family_block, host}
use Rattle.least_table.specs.Tables as bits
use Rattle.nearest_table.specs.Told.{told_hop}
use Rattle.trie_core.proofs.Numbers.{number_bound}
use Rattle.route_laws.specs.Fewest.{hop_under}
use Rattle.route_laws.specs.Overwritten.{overwritten}
use Rattle.route_laws.specs.Painted.{hop_over, painted_all}
use Rattle.route_laws.specs.Tables.{Route, IsTable, hop_at}
use Rattle.route_laws.proofs.Insides.{hop_is, in_family, part_hops, table_of}
use Rattle.route_laws.proofs.Overwritten.{over_is_table, over_under, Changes, painted_all_hops}
use Rattle.route_table.specs.InnerLeast.{address_at, hops_of}
use Rattle.route_table.specs.InnerUpdates.{overwritten_all}
use Rattle.route_table.proofs.FamilyBits.{hop_bits}
use Rattle.route_table.proofs.FlatPieces.{bits_at}
use Rattle.route_table.proofs.PartBits.{bits_of, part, part_all}

pub overlay_is_table : (rs C : List Route) → IsTable C → Changes rs → IsTable (overwritten_all C rs)
overlay_is_table [] C t c = t
overlay_is_table (r ∷ rs) C t c = let k = c r (inl refl) in
    overlay_is_table rs (overwritten C r) (over_is_table C t r k.0 k.1) (λ s i. c s (inr i))

-- an address has the hop of the last change whose block contains it, or inherits its hop if there is none
overlay_under : (rs C : List Route) → IsTable C → Changes rs → (s : Option ℕ) (x : Address) → IsAddress x
    → hop_under s (overwritten_all C rs) x ≡ hop_over (hop_under s C x) rs x
overlay_under [] C t c s x a = refl
overlay_under (r ∷ rs) C t c s x a =
    let k = c r (inl refl) in
    overlay_under rs (overwritten C r) (over_is_table C t r k.0 k.1) (λ q i. c q (inr i)) s x a
    ∙ ap (λ o. hop_over o rs x) (over_under C t r k.0 k.1 s x a)

-- the hop of an address by the routes of its family
part_bits : (f : Family) (N : List Route) → IsTable N → (s : Option ℕ) (x : Address) → IsAddress x → x.family ≡ f
    → bits.hop_inheriting s (bits_of f N) (bit_string (host x)) ≡ hop_under s N x
part_bits f N t s x a e = let g = part_hops N t f s in
    hop_bits f s (part f N) x g.table (part_all f N) a e ∙ g.same x (subst (λ k. HasAddress (family_block k) x) e (in_family x a))

-- the hops after the changes
pub told_bits : (f : Family) (M C rs : List Route) → IsTable M → Changes rs → C ≡ overwritten_all [] rs → (s : List Bool)
    → length s ≡ width f → told_hop (bits_of f C) (bits_of f M) s ≡ hops_of f (hop_at (painted_all M rs)) s
told_bits f M C rs m c e s l =
    let x = address_at f s in
    let a : IsAddress x = number_bound (width f) s in
    let empty : IsTable [] = table_of [] (λ r i. absurd i) tt in
    let t : IsTable C = subst IsTable (sym e) (overlay_is_table rs [] empty c) in
    ap (told_hop (bits_of f C) (bits_of f M)) (sym (bits_at f s l))
    ∙ ap (λ k. bits.hop_inheriting k (bits_of f C) (bit_string (host x))) (part_bits f M m None x a refl ∙ hop_is M x)
    ∙ part_bits f C t (hop_at M x) x a refl
    ∙ ap (λ N. hop_under (hop_at M x) N x) e ∙ overlay_under rs [] empty c (hop_at M x) x a
    ∙ sym (painted_all_hops M rs m c x a)
