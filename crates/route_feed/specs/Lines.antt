-- Lines: the values that they spell, their line ends, and the lines that add routes.
use Rattle.std.specs.Prelude.{ℕ, List, ◌++◌, All, Option, None, codes}
use Rattle.ipnet.specs.IpNets.{family, network_at, parts}
use Rattle.ipnet.specs.declared.ip_net.IpNet.{IpNet}
use Rattle.ipnet_blocks.specs.Networks.{IsTruncated}
use Rattle.route_choices.specs.Choices.{default_preference}
use Rattle.route_choices.specs.declared.hop.Hop.{Hop}
use Rattle.route_laws.specs.Tables.{Route}
use Rattle.route_lines.specs.CommandText.{command_text}
use Rattle.route_lines.specs.Spelled.{command_of, reply_of}
use Rattle.route_lines.specs.Texts.{reply_text}
use Rattle.route_lines.specs.declared.command.Command.{Command}
use Rattle.route_lines.specs.declared.command.Command.TheVariants.{Add}
use Rattle.route_lines.specs.declared.cutter.Line.{Line}
use Rattle.route_lines.specs.declared.cutter.Line.TheVariants.{Text, TooLong}
use Rattle.route_lines.specs.declared.reply.Reply.{Reply}

-- the value that the line's text spells for this reader, or none if the line is too long
abbrev pub spelled_in : {A : Type 0} → (List ℕ → Option A) → Line → Option A
spelled_in read (Text text) = read text.items
spelled_in read TooLong = None

-- the command and the reply line of a line
abbrev pub command_in : Line → Option Command
command_in line = spelled_in command_of line

abbrev pub reply_in : Line → Option Reply
reply_in line = spelled_in reply_of line

-- a reply line and a command, each with its line end
abbrev pub reply_line : Reply → List ℕ
reply_line reply = reply_text reply ++ codes "\n"

abbrev pub command_line : Command → List ℕ
command_line command = command_text command ++ codes "\n"

-- the command that adds a route to its network with the default preference
abbrev pub add_command : Route → Command
add_command r = Add (network_at r.block) r.hop default_preference

-- no network of these routes has host bits
abbrev pub HaveNoHostBits : List (IpNet × Hop) → Type 0
HaveNoHostBits routes = All (λ r. IsTruncated (family r.0) (parts r.0)) routes
