use Rattle.std.proofs.Common.{◌≡◌, ℕ, Bool, List, ◌∷◌, length, map, sym, ap, ◌∙◌}
use Rattle.ipnet_addr.specs.Addresses.{Family}
use Rattle.ipnet_blocks.specs.Blocks.{Block, bit_string, first, last}
use Rattle.ipnet_blocks.specs.Networks.{Network, block_of}
use Rattle.ipnet_blocks.proofs.Strings.{length-digits}
use Rattle.ipnet.specs.IpNets.{net_in}
use Rattle.route_choices.specs.declared.hop.Hop.{Hop}
use Rattle.route_choices.specs.Hops.{number_of}
use Rattle.route_laws.specs.Tables.{Route, route_of}
use Rattle.route_laws.proofs.NetworksAt.{block_of-net_in}
use Rattle.route_table.specs.InnerRouteSpans.{RouteSpan}
use Rattle.route_table.specs.InnerRunning.{route_span_of}
use Rattle.route_table.proofs.runs.next_route_span.Goals as goal

-- the first of the routes, and what they reach
reached : (f : Family) (n : Network) (h : Hop) (p : ℕ) (s : List Bool) (r : RouteSpan) (rs left : List Route) → rs ≡ route_of (net_in f n) h p ∷ left → s ≡ bit_string (block_of f n)
    → r.first ≡ first (block_of f n) → r.last ≡ last (block_of f n) → r.len ≡ length s → r.number ≡ number_of h → r ∷ map route_span_of left ≡ map route_span_of rs
reached f n h p s r rs left e bits a z l k =
    let b = block_of f n in
    let len : r.len ≡ b.len = l ∙ ap length bits ∙ length-digits b.len b.quotient in
    (λ i. record { first = a i; last = z i; len = len i; number = k i } ∷ map route_span_of left)
    ∙ ap (λ (c : Block). record { first = first c; last = last c; len = c.len; number = number_of h } ∷ map route_span_of left) (sym (block_of-net_in f n)) ∙ sym (ap (map route_span_of) e)

pub returns : goal.returns
returns g c = reached g.P.FamilyNet.family (g.P.FamilyNet.parts c.in_ok-net.net) c.in_ok-net.hop c.in_ok-net.field-0-2 (g.P.Prefix.bits c.in_ok-net.net) _ c.args.routes.now c.next_net.new.self c.in_ok-net.ensures.0
    (g.met.P.FamilyNet.bits_are c.in_ok-net.net) (c.of_key.ensures ∙ c.first_key.ensures) (c.of_key-2.ensures ∙ c.last_key.ensures) c.prefix_len.ensures.value c.number.ensures.number
