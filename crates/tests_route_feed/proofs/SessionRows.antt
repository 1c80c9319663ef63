-- A worked row: a session of an installer, with its bytes.
use Rattle.std.proofs.Common.{◌≡◌, List, [], ◌∷◌, refl, arith, codes}
use Rattle.std.proofs.lemmas.Fmt.{decimal_digit}
use Rattle.ipnet.specs.IpNets.{network_at}
use Rattle.route_choices.specs.declared.hop.Hop.TheVariants.{Number}
use Rattle.route_laws.specs.Tables.{Route}
use Rattle.route_lines.specs.declared.fib_input.FibInput.TheVariants as N
use Rattle.route_lines.specs.declared.reply.Closing.TheVariants.{Done}
use Rattle.route_lines.specs.declared.reply.Reply.TheVariants as R
use Rattle.tests_route_feed.proofs.LineRows.{seven_text, ten, ten_text}
use Rattle.route_installer.specs.Installing.{Noted, batches_given, installed_bytes}

-- 10.0.0.0/8 7, with the default preference
abbrev seven : Route
seven = record { block = ten; hop = Number 7; pref = 100 }

-- `have 10.0.0.0/8 1`, `set 10.0.0.0/8 7`, `ok`, `sync`, `unset 10.0.0.0/8`, `ok`
abbrev session : List Noted
session =
    record { note = N.Have (network_at ten) (Number 1); table = [] }
    ∷ record { note = N.Reply (R.Set (network_at ten) 7); table = [] }
    ∷ record { note = N.Reply (R.Close Done); table = [] }
    ∷ record { note = N.Sync; table = seven ∷ [] }
    ∷ record { note = N.Reply (R.Unset (network_at ten)); table = [] }
    ∷ record { note = N.Reply (R.Close Done); table = [] }
    ∷ []

session_row : installed_bytes session ≡ codes "install 10.0.0.0/8 7\nok\nremove 10.0.0.0/8\nok\n"
session_row = rw (ten_text, decimal_digit 8 (omega arith), seven_text, decimal_digit 0 (omega arith)) refl

-- both are batches
batches_row : batches_given session ≡ 2
batches_row = refl
