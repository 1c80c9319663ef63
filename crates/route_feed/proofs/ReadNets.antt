-- What a line spells, and what a command's words may be: networks and hops in range.
use Rattle.std.proofs.Common.{ℕ, ◌^◌, ◌<◌, List, Option, Some, None, sym, subst, unwrap_or, arith}
use Rattle.ipnet_blocks.specs.Blocks.{IsBlock}
use Rattle.ipnet_blocks.proofs.NetworkBlocks.{block_is}
use Rattle.ipnet.specs.IpNets.{block, family, parts}
use Rattle.ipnet.specs.declared.ip_net.IpNet.{IpNet}
use Rattle.ipnet.proofs.Spelled.{read_is_network}
use Rattle.route_lines.specs.InnerPhrase.{Gives}
use Rattle.route_lines.specs.Spelled.{command_of}
use Rattle.route_lines.specs.Texts.{IsCommand}
use Rattle.route_lines.specs.Words as word
use Rattle.route_lines.specs.declared.command.Command.{Command}
use Rattle.route_lines.specs.declared.command.Command.TheVariants as C
use Rattle.route_lines.proofs.Spells.{command_found}
use Rattle.route_choices.specs.Choices.{default_preference}
use Rattle.route_choices.specs.Hops.{IsHop}
use Rattle.route_choices.specs.declared.hop.Hop.{Hop}
use Rattle.route_choices.specs.declared.hop.Hop.TheVariants.{Number, Drop}
use Rattle.route_laws.proofs.NetworksAt.{of_network_at}
use Rattle.route_feed.specs.Laws.{IsInRange}

pub net_is_block : (text : List ℕ) (net : IpNet) → word.IsNet text net → IsBlock (block net)
net_is_block text net h =
    subst (λ n. IsBlock (block n)) (sym h.2) (subst IsBlock (sym (of_network_at (block h.0))) (block_is (family h.0) (parts h.0) (read_is_network text h.0 h.1)))

pub hop_is_hop : (text : List ℕ) (hop : Hop) → word.IsHop text hop → IsHop hop
hop_is_hop text (Number n) h = omega (arith, h.2)
hop_is_hop text Drop h = tt

-- with a preference, or with that of a hop alone
optional_in_range : (text : List ℕ) (hop : Hop) (given : Option ℕ) → word.IsOptional text (hop, given) → IsHop hop × (unwrap_or given default_preference < 2 ^ 16)
optional_in_range text hop (Some pref) h = (hop_is_hop h.front hop h.first, omega (arith, h.second.2))
optional_in_range text hop None h = (hop_is_hop text hop h, omega arith)

preferred_in_range : (text : List ℕ) (hop : Hop) (pref : ℕ) → word.IsPreferred text (hop, pref) → IsHop hop × (pref < 2 ^ 16)
preferred_in_range text hop pref h = (let r = optional_in_range text hop h.0 h.1 in (r.0, omega (arith, h.2, r.1)))

spelled_in_range : (text : List ℕ) (o : Option Command) → Gives IsCommand text o → IsInRange o
spelled_in_range text (Some (C.Add net hop pref)) h = let p = preferred_in_range h.phrase.back hop pref h.phrase.second in (net_is_block h.phrase.front net h.phrase.first, p.0, p.1)
spelled_in_range text (Some (C.Del net hop)) h = net_is_block h.phrase.front net h.phrase.first
spelled_in_range text (Some (C.All net)) h = net_is_block h.rest net h.phrase
spelled_in_range text other h = tt

pub piece_in_range : (piece : List ℕ) → IsInRange (command_of piece)
piece_in_range piece = spelled_in_range piece (command_of piece) (command_found piece)
