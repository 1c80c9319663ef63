-- What a walk of a side's trie gives, as routes.
use Rattle.std.proofs.Common.{◌≡◌, ◌≤◌, ℕ, Bool, List, ◌∷◌, [], length, map, Option, Some, None, refl, sym, ap, ◌∙◌, subst, inl, inr, option_map}
use Rattle.ipnet_addr.specs.Addresses.{Family, width}
use Rattle.ipnet_addr.proofs.Members.{In}
use Rattle.ipnet_addr.proofs.Ascending.{In-from_All, All-from_In}
use Rattle.ipnet_blocks.specs.Networks.{Network}
use Rattle.ipnet.specs.IpNets.{block, net_in, network_at}
use Rattle.trie_core.specs.Bits.{number_from}
use Rattle.route_choices.specs.Choices.{Choice}
use Rattle.route_choices.specs.declared.hop.Hop.{Hop}
use Rattle.route_table.specs.InnerFamilyTables.{block_at, route_at}
use Rattle.route_table.specs.InnerEntries.{GivesBest, KeysUpTo}
use Rattle.route_table.specs.Items.{GivesRoute}
use Rattle.route_laws.proofs.NetworksAt.{of_network_at}
use Rattle.route_table.proofs.Strings.{network_of_string}

-- the networks of a family as keys
module _ (f : Family) {K : Type 0} (bits : K → List Bool) (of_bits : List Bool → K) (parts : K → Network) (parts_are : (s : List Bool) → parts (of_bits s) ≡ record { number = number_from (width f) s; len = length s }) where
  -- a key that is made of its bits is the network of their block
  pub network_of_key : (k : K) → k ≡ of_bits (bits k) → length (bits k) ≤ width f → net_in f (parts k) ≡ network_at (block_at f (bits k))
  network_of_key k e h = ap (λ j. net_in f (parts j)) e ∙ ap (net_in f) (parts_are (bits k) ∙ network_of_string f (bits k) h)

  module _ (fits : K → Bool) (es fs : List (List Bool × List Choice)) (keys : KeysUpTo (width f) es) where
    abbrev Fits : List Bool × List Choice → Type 0
    Fits d = length d.0 ≤ width f

    -- the item of a trie's iterator as the item of a side's
    pub gives : (o : Option (K × Hop × ℕ)) → GivesBest fits bits of_bits es o fs → GivesRoute (map (route_at f) es) (option_map (λ p. (net_in f (parts p.0), p.1, p.2)) o) (map (route_at f) fs)
    gives None g = (ap (map (route_at f)) g.0, ap (map (route_at f)) g.1)
    gives (Some p) g =
        let s = bits p.0 in
        let within : length s ≤ width f = In-from_All Fits es keys (s, g.0) (subst (λ ds. In (s, g.0) ds) (sym g.1.0) (inl refl)) in
        let net = network_of_key p.0 g.1.1 within in
        let at : block (net_in f (parts p.0)) ≡ block_at f s = ap block net ∙ of_network_at (block_at f s) in
        (ap (map (route_at f)) g.1.0 ∙ (λ i. record { block = (sym at) i; hop = (sym g.2) i; pref = (sym g.3) i } ∷ map (route_at f) fs), net ∙ ap network_at (sym at))

    pub left_keys : (o : Option (K × Hop × ℕ)) → GivesBest fits bits of_bits es o fs → KeysUpTo (width f) fs
    left_keys None g = subst (KeysUpTo (width f)) (sym g.1) (All-from_In Fits [] (λ d i. absurd i))
    left_keys (Some p) g = All-from_In Fits fs (λ d i. In-from_All Fits es keys d (subst (λ ds. In d ds) (sym g.1.0) (inr i)))
