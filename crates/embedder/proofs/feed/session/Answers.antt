use Rattle.std.proofs.Common.{◌≡◌, ◌∙◌, ◌⊎◌, ◌++◌, inl, inr, ⊎_elim, List, [], ◌∷◌, Bool, true, false, ℕ, Some, refl, ap, arith, decimal, codes, Vec, Global}
use Rattle.std.specs.Prelude.{get_or}
use Rattle.std.proofs.lemmas.Fmt.{decimal_digit, decimal_step}
use Rattle.std.specs.Net.Reader.{read_number}
use Rattle.ipnet_addr.specs.AddressReader.{read_ipv4, read_short}
use Rattle.ipnet_blocks.specs.Blocks.{Block, IsBlock}
use Rattle.ipnet.specs.IpNets.{block}
use Rattle.ipnet.specs.NetworkReader.{ipv4_net_of, read_network}
use Rattle.ipnet.specs.IpNetText.{ip_net_of}
use Rattle.ipnet.specs.declared.ip_net.IpNet.{IpNet}
use Rattle.ipnet.specs.declared.ip_net.IpNet.TheVariants.{V4}
use Rattle.route_choices.specs.declared.hop.Hop.TheVariants.{Number}
use Rattle.route_laws.specs.Laws.{EmptyIsFlat, OneRouteIsChanged, OneRouteIsFlat}
use Rattle.route_feed.specs.Output.{output, replies, whole_commands, at_end}
use Rattle.route_feed.specs.Replies.{printed}
use Rattle.route_feed.specs.Steps.{change_lines}
use Rattle.route_lines.specs.Bytes.{rest}
use Rattle.route_lines.specs.Spelled.{command_of}
use Rattle.route_lines.specs.declared.command.Command.TheVariants as C
use Rattle.embedder.proofs.feed.session.Goals as goal

told : List ℕ
told = codes "add 10.0.0.0/8 1\nflat\n"

net : IpNet
net = V4 (record { number = 167772160; len = 8 })

zero_text : decimal 0 ≡ codes "0"
zero_text = decimal_digit 0 (omega arith)

one_text : decimal 1 ≡ codes "1"
one_text = decimal_digit 1 (omega arith)

eight_text : decimal 8 ≡ codes "8"
eight_text = decimal_digit 8 (omega arith)

ten_text : decimal 10 ≡ codes "10"
ten_text = decimal_step 10 (omega arith) (omega arith) ∙ rw one_text refl

commands : whole_commands told ++ at_end (rest told) ≡ Some (C.Add net (Number 1) 100) ∷ Some C.Flat ∷ []
unfolding told net command_of ip_net_of ipv4_net_of read_network read_ipv4 read_short read_number
commands = rw one_text refl

-- the two outputs, by whether the `add` was refused
module _ (empty : EmptyIsFlat) (changes : OneRouteIsChanged) (flat : OneRouteIsFlat) where
  b : Block
  b = block net

  ok : IsBlock b
  unfolding b net
  ok = record { in_width = omega arith; in_range = omega arith }

  answers : (refusals : List Bool) → (refused : Bool) → get_or refusals 0 false ≡ refused →
      (printed (replies [] (Some (C.Add net (Number 1) 100) ∷ Some C.Flat ∷ []) refusals) ≡ codes "set 10.0.0.0/8 1\nok\nflat 10.0.0.0/8 1\nok\n")
      ⊎ (printed (replies [] (Some (C.Add net (Number 1) 100) ∷ Some C.Flat ∷ []) refusals) ≡ codes "refused\nok\n")
  unfolding change_lines net b
  answers refusals true e = inr (rw (e, empty) refl)
  answers refusals false e = inl (rw (e, changes b 1 ok (omega arith), flat b 1 ok (omega arith), ten_text, eight_text, one_text, zero_text) refl)

  outputs : (refusals : List Bool) → (output told refusals ≡ codes "set 10.0.0.0/8 1\nok\nflat 10.0.0.0/8 1\nok\n") ⊎ (output told refusals ≡ codes "refused\nok\n")
  outputs refusals = rw commands (answers refusals (get_or refusals 0 false) refl)

pub returns : goal.returns
unfolding told
returns c =
    let l = c.one_route.ensures in
    let k = c.in_ok-lead.ensures.known in
    let written = ap (λ (v : Vec ℕ Global). v.items) c.into_inner.ensures ∙ k.1 ∙ rw (c.new-writer.ensures.device, c.new.ensures.items, c.new-reader.ensures.device, c.as_slice.ensures) refl in
    ⊎_elim (λ e. inl (written ∙ e)) (λ e. inr (written ∙ e)) (outputs l.empty l.changed l.flat k.0)
