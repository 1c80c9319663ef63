-- The rest of a walk over a side's trie.
use Rattle.std.specs.Prelude.{◌≡◌, ℕ, ◌≤◌, Bool, List, [], All, Option, MatchOption, length, option_map}
use Rattle.ipnet_addr.specs.Addresses.{Family}
use Rattle.ipnet_blocks.specs.Networks.{Network}
use Rattle.ipnet.specs.IpNets.{net_in}
use Rattle.prefix_trie.specs.Iterators.{IsFirstEntry}
use Rattle.route_choices.specs.Choices.{Choice, best_hop, best_preference}
use Rattle.route_choices.specs.declared.hop.Hop.{Hop}
use Rattle.route_laws.specs.Tables.{Route}
use Rattle.route_table.specs.Items.{GivesRoute}
use Rattle.route_table.specs.declared.family_routes.Entries.{Entries}
use Rattle.route_table.specs.declared.family_routes.Entries.TheVariants.{Cover, Hops, Owned, Walk}

-- no key is longer than n bits
abbrev pub KeysUpTo : ℕ → List (List Bool × List Choice) → Type 0
KeysUpTo n es = All (λ e. length e.0 ≤ n) es

-- the entries that are left of a walk
module _ {P R : Type 0} where
  abbrev pub entries_left : Entries P R → List (List Bool × List Choice)
  entries_left (Walk es) = es
  entries_left (Cover es) = es
  entries_left (Hops es) = es
  entries_left (Owned es) = es.value

-- the first entry was returned as its key and its best choice, or nothing was left
abbrev pub GivesBest : {K : Type 0} → (K → Bool) → (K → List Bool) → (List Bool → K) → List (List Bool × List Choice) → Option (K × Hop × ℕ) → List (List Bool × List Choice) → Type 0
GivesBest fits bits of_bits es item left = MatchOption item ((es ≡ []) × (left ≡ [])) (λ p. (cs : List Choice) × IsFirstEntry fits bits of_bits (λ v. v) es (p.0, cs) left × (p.1 ≡ best_hop cs) × (p.2 ≡ best_preference cs))

-- the first route was returned, its network as one of the family, or none was left
abbrev pub GivesNet : {K : Type 0} → Family → (K → Network) → List Route → Option (K × Hop × ℕ) → List Route → Type 0
GivesNet f parts rs item left = GivesRoute rs (option_map (λ p. (net_in f (parts p.0), p.1, p.2)) item) left
