-- The writing of replies.
use Rattle.std.specs.Prelude.{◌≡◌, ℕ, List, [], ◌∷◌, ◌++◌, map, Option, Some, Result, MatchOption}
use Rattle.ipnet.specs.IpNets.{network_at}
use Rattle.ipnet_blocks.specs.Blocks.{Block}
use Rattle.ipnet_blocks.specs.Maximal.{IsMaximal}
use Rattle.route_lines.specs.Texts.{IsPrintable}
use Rattle.route_lines.specs.declared.cutter.Rest.{Rest}
use Rattle.route_lines.specs.declared.cutter.Rest.TheVariants.{Empty, Held}
use Rattle.route_lines.specs.declared.reply.Closing.TheVariants.{Bad, Done}
use Rattle.route_lines.specs.declared.reply.Reply.{Reply}
use Rattle.route_lines.specs.declared.reply.Reply.TheVariants.{Close, Own, Route}
use Rattle.route_choices.specs.Choices.{Choice}
use Rattle.route_laws.specs.Networks.{Stored, routes_of}
use Rattle.route_laws.specs.Tables.{Governed}
use Rattle.route_program.specs.declared.counted.Counted.{Counted}
use Rattle.route_program.specs.declared.error.RunError.{RunError}
use Rattle.route_feed.specs.Lines.{reply_line}
use Rattle.route_program.specs.Devices.{Closes}
use Rattle.route_feed.specs.Replies.{printed}
use Rattle.route_feed.specs.Steps.{change_line}

-- the line of a choice of a block
abbrev pub choice_line : Block → Choice → Reply
choice_line b c = Route (network_at b) c.hop (Some c.pref)

-- the line of a block of the hop that the command names
abbrev pub own_line : Block → Reply
own_line b = Own (network_at b)

-- the first line was returned, and it can be printed, or none was left
abbrev pub GivesLine : List Reply → Option Reply → List Reply → Type 0
GivesLine lines line left = MatchOption line ((lines ≡ []) × (left ≡ [])) (λ l. (lines ≡ l ∷ left) × IsPrintable l)

-- the network governs all its addresses
abbrev pub GovernsAll : List Stored → Block → Type 0
GovernsAll M b = IsMaximal (Governed (routes_of M) b) (b ∷ [])

module _ {W : Type 0} (contents : W → Option (List ℕ)) where
  -- a line for each block that a network governs, with its new hop, and `ok` were written and flushed; or a beginning was written
  abbrev pub TellsGoverned : List Stored → Block → Option ℕ → Counted W → Counted W → Result Unit RunError → Type 0
  TellsGoverned M b now old new result =
      (blocks : List Block) × IsMaximal (Governed (routes_of M) b) blocks × Closes contents 1 old new result (printed (map (change_line now) blocks ++ Close Done ∷ []))

-- the number of replies to the bytes after the last line end, and their text
abbrev pub replies_to_rest : Rest → ℕ
replies_to_rest Empty = 0
replies_to_rest Held = 1

abbrev pub reply_to_rest : Rest → List ℕ
reply_to_rest Empty = []
reply_to_rest Held = reply_line (Close Bad)
