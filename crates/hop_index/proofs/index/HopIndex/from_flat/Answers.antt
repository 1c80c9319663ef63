use Rattle.std.proofs.Common.{◌≡◌, ℕ, ◌^◌, ◌<◌, ◌∙◌, Option}
use Rattle.ipnet_addr.specs.Addresses.{Address, Family, Ipv4, Ipv6, width}
use Rattle.hop_index.specs.Indexes.{Index, ranges_of}
use Rattle.hop_index.specs.Ranges.{hop_in}
use Rattle.hop_index.proofs.index.HopIndex.from_flat.Goals as goal

-- the hop of each number of a family
abbrev HasHops : (Address → Option ℕ) → Index → Family → Type 0
HasHops h i f = (n : ℕ) → n < 2 ^ width f → hop_in (ranges_of f i) n ≡ h (record { family = f; number = n })

both : (h : Address → Option ℕ) (i : Index) → HasHops h i Ipv4 → HasHops h i Ipv6 → (f : Family) → HasHops h i f
both h i v4 v6 Ipv4 = v4
both h i v4 v6 Ipv6 = v6

pub returns-clause-hops : goal.returns-clause-hops
returns-clause-hops c = λ h flat x. both h (record { v4 = c.in_ok-v4-2.v4.ranges; v6 = c.in_ok-v6.v6.ranges })
    (λ n l. c.in_ok-v4-2.ensures n ∙ c.in_ok-v4.ensures.ipv4.hops h flat n l)
    (λ n l. c.in_ok-v6.ensures n ∙ c.in_ok-v4.ensures.ipv6.hops h flat n l) x.family x.number
