-- A table of one family as a table over bit strings: its order, and the hops that it gives.
use Rattle.std.proofs.Common.{◌≡◌, ◌↔◌, ⊎_elim, ℕ, ◌*◌, ◌-◌, ◌^◌, ◌≤◌, Bool, true, false, cond, nat_lt, inl, inr, List, [], ◌∷◌, length, Option, Some, None, option_map, refl, sym, ap, ◌∙◌, subst, mod-eq_of_lt, arith}
use Rattle.ipnet_addr.specs.Addresses.{Family, Address, IsAddress, width}
use Rattle.ipnet_addr.proofs.Members.{In}
use Rattle.ipnet_addr.proofs.Ascending.{All-from_In, In-from_All, Rising}
use Rattle.ipnet_blocks.specs.BitStrings.{begins}
use Rattle.ipnet_blocks.specs.Blocks.{Block, IsBlock, IsBefore, IsInside, digits, bit_string, family_block, first_of, host, is_inside}
use Rattle.ipnet_blocks.proofs.BlockLaws.{has_first}
use Rattle.ipnet_blocks.proofs.Maximals.{host_is_block, member_is_address}
use Rattle.ipnet_blocks.proofs.Order.{order_of_strings}
use Rattle.ipnet_blocks.proofs.Search.{whole_is_block, inside_whole}
use Rattle.ipnet_blocks.proofs.Strings.{length-digits}
use Rattle.least_table.specs.Orders.{ComesBeforeAll, IsInOrder}
use Rattle.least_table.specs.Tables as bits
use Rattle.trie_core.specs.Bits.{number_from}
use Rattle.trie_core.proofs.Numbers.{number_bound, number-digits, one_power}
use Rattle.route_laws.specs.Fewest.{inherited, hop_under, GivesInside}
use Rattle.route_laws.specs.Tables.{Route, IsTable, covering, longer, longest, match_of}
use Rattle.route_laws.proofs.Insides.{in_family, Sooner, sound, rising}
use Rattle.route_laws.proofs.Matches.{before_apart}
use Rattle.route_table.specs.InnerLeast.{address_at, entry_of, entries_of, hops_of}
use Rattle.route_table.proofs.FlatPieces.{bits_at}
use Rattle.route_table.proofs.Strings.{inside_is, same_string}

-- no block of a table has more bits than an address
pub lengths : (w : ℕ) (t : List (List Bool × Option ℕ)) → bits.IsBitTable w t → (e : List Bool × Option ℕ) → In e t → length e.0 ≤ w
lengths w [] ok e i = absurd i
lengths w (q ∷ t) ok e (inl h) = subst (λ (p : List Bool × Option ℕ). length p.0 ≤ w) (sym h) ok.0
lengths w (q ∷ t) ok e (inr i) = lengths w t ok.2 e i

longer_entry : (r : Route) (m : Option Route) → bits.longer_route (entry_of r) (option_map entry_of m) ≡ Some (entry_of (longer r m))
longer_entry r None = refl
longer_entry r (Some s) =
    rw (length-digits r.block.len r.block.quotient, length-digits s.block.len s.block.quotient)
    (elim (nat_lt r.block.len s.block.len) as (λ c. cond c (Some (entry_of s)) (Some (entry_of r)) ≡ Some (entry_of (cond c s r))) [ true ↦ refl | false ↦ refl ])

-- the longest match of a block
pub match_entry : (n : Block) → IsBlock n → (M : List Route) → ((r : Route) → In r M → IsBlock r.block × (r.block.family ≡ n.family))
    → bits.longest_route (entries_of M) (bit_string n) ≡ option_map entry_of (match_of M n)
match_entry n okn [] ok = refl
match_entry n okn (r ∷ M) ok =
    let k = ok r (inl refl) in
    go (is_inside n r.block) (sym (inside_is n r.block okn k.0 (sym k.1))) (match_entry n okn M (λ s i. ok s (inr i)))
  where
    go : (c : Bool) → begins (bit_string r.block) (bit_string n) ≡ c
        → bits.longest_route (entries_of M) (bit_string n) ≡ option_map entry_of (match_of M n)
        → bits.longest_route (entries_of (r ∷ M)) (bit_string n) ≡ option_map entry_of (longest (cond c (r ∷ covering M n) (covering M n)))
    go true t k = rw (t, k) (longer_entry r (match_of M n))
    go false t k = rw t k

module _ (f : Family) where
  abbrev pub AllOf : List Route → Type 0
  AllOf M = (r : Route) → In r M → r.block.family ≡ f

  pub hop_bits : (s : Option ℕ) (M : List Route) (x : Address) → IsTable M → AllOf M → IsAddress x → x.family ≡ f
      → bits.hop_inheriting s (entries_of M) (bit_string (host x)) ≡ hop_under s M x
  hop_bits s M x t all a e = ap (bits.matched_hop s) (match_entry (host x) (host_is_block x a) M (λ r i. ((sound M t r i).0, all r i ∙ sym e)))
      ∙ elim (match_of M (host x)) as (λ m. bits.matched_hop s (option_map entry_of m) ≡ inherited s m) [ None ↦ refl | Some r ↦ refl ]

  absent : (b : Block) (M : List Route) → IsBlock b → b.family ≡ f
      → ((r : Route) → In r M → IsBlock r.block × (r.block.family ≡ f) × IsBefore b r.block)
      → bits.Absent (bit_string b) (entries_of M)
  absent b [] p e k = tt
  absent b (s ∷ M) p e k = (
    (λ u. let t = k s (inl refl) in before_apart b s.block t.2 (sym (same_string s.block b t.0 p (t.1 ∙ sym e) u))),
    absent b M p e (λ r i. k r (inr i)),
  )

  -- routes of the family, with blocks
  abbrev pub Blocks : List Route → Type 0
  Blocks M = (r : Route) → In r M → IsBlock r.block × (r.block.family ≡ f)

  pub blocks_of : (M : List Route) → IsTable M → AllOf M → Blocks M
  blocks_of M t all r i = ((sound M t r i).0, all r i)

  pub table_entries : (M : List Route) → Blocks M → Rising Sooner M → bits.IsBitTable (width f) (entries_of M)
  table_entries [] k up = tt
  table_entries (r ∷ M) k up =
      let t = k r (inl refl) in
      let w : r.block.len ≤ width f = subst (λ g. r.block.len ≤ width g) t.1 t.0.in_width in (
        omega (arith, w, length-digits r.block.len r.block.quotient),
        absent r.block M t.0 t.1 (λ s i. ((k s (inr i)).0, (k s (inr i)).1, up.0 s i)),
        table_entries M (λ s i. k s (inr i)) up.1,
      )

  -- they ascend exactly if their bit strings do
  before_same : (b : Block) (M : List Route) → IsBlock b → b.family ≡ f → Blocks M → ((s : Route) → In s M → IsBefore b s.block) ↔ ComesBeforeAll (bit_string b) (entries_of M)
  before_same b [] p e k = (λ up. tt, λ up s i. absurd i)
  before_same b (q ∷ M) p e k =
      let t = k q (inl refl) in
      let o = order_of_strings b q.block p t.0 (e ∙ sym t.1) in
      let rest = before_same b M p e (λ s i. k s (inr i)) in (
        λ up. (o.0 (up q (inl refl)), rest.0 (λ s i. up s (inr i))),
        λ up s i. ⊎_elim (λ (h : s ≡ q). subst (λ (r : Route). IsBefore b r.block) (sym h) (o.1 up.0)) (λ h. rest.1 up.1 s h) i,
      )

  pub order_entries : (M : List Route) → Blocks M → Rising Sooner M → IsInOrder (entries_of M)
  order_entries [] k up = tt
  order_entries (r ∷ M) k up = let t = k r (inl refl) in
      ((before_same r.block M t.0 t.1 (λ s i. k s (inr i))).0 up.0, order_entries M (λ s i. k s (inr i)) up.1)

  pub rising_entries : (M : List Route) → Blocks M → IsInOrder (entries_of M) → Rising Sooner M
  rising_entries [] k up = tt
  rising_entries (r ∷ M) k up = let t = k r (inl refl) in
      ((before_same r.block M t.0 t.1 (λ s i. k s (inr i))).1 up.0, rising_entries M (λ s i. k s (inr i)) up.1)

  string_of_bits : (x : Address) → IsAddress x → x.family ≡ f → address_at f (bit_string (host x)) ≡ x
  string_of_bits x a e =
      let w = width x.family in
      let n : number_from w (digits w x.number) ≡ x.number =
      number-digits w w x.number (omega arith) ∙ ap (λ m. m * 2 ^ (w - w)) (mod-eq_of_lt a) ∙ one_power x.number w in
      subst (λ g. address_at g (bit_string (host x)) ≡ x) e (λ i. record { family = x.family; number = n i })

  module _ (h : Address → Option ℕ) (hops : List Bool → Option ℕ) (same : (s : List Bool) → length s ≡ width f
      → hops s ≡ hops_of f h s) where
    -- a table of the family's addresses gives the hops as bit strings
    pub gives_bits : (M : List Route) → AllOf M → GivesInside h (family_block f) None M
        → bits.GivesHops (width f) hops None (entries_of M)
    gives_bits M all g = record {
      table = table_entries M (blocks_of M g.table all) (rising M g.table);
      same = λ s e.
          let x = address_at f s in
          let a : IsAddress x = number_bound (width f) s in
          ap (bits.table_hop (entries_of M)) (sym (bits_at f s e)) ∙ hop_bits None M x g.table all a refl ∙ g.same x (in_family x a)
          ∙ sym (same s e);
    }

    pub family_gives : (N : List Route) → IsTable N → AllOf N → bits.GivesHops (width f) hops None (entries_of N)
        → GivesInside h (family_block f) None N
    family_gives N t all gives = record {
      table = t;
      inside = All-from_In (λ r. IsInside r.block (family_block f)) N (λ r i. inside_whole r.block f (sound N t r i).0 (all r i));
      same = λ x m.
          let a = member_is_address (family_block f) x (whole_is_block f) m in
          let w : length (bit_string (host x)) ≡ width f = length-digits (width x.family) x.number ∙ ap width m.0 in
          sym (hop_bits None N x t all a m.0) ∙ gives.same (bit_string (host x)) w ∙ same (bit_string (host x)) w
          ∙ ap h (string_of_bits x a m.0);
    }

    -- routes inside the block of the family are of the family
    pub all_inside : (M : List Route) → GivesInside h (family_block f) None M → AllOf M
    all_inside M g r i =
        (In-from_All (λ (q : Route). IsInside q.block (family_block f)) M g.inside r i (first_of r.block) (has_first r.block)).0
