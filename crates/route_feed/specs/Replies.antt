-- Reply lines as bytes.
use Rattle.std.specs.Prelude.{ℕ, List, ◌++◌, codes, flat_map}
use Rattle.route_lines.specs.Texts.{reply_text}
use Rattle.route_lines.specs.declared.reply.Reply.{Reply}

-- reply lines, printed in order, each with its line end
abbrev pub printed : List Reply → List ℕ
printed replies = flat_map (λ reply. reply_text reply ++ codes "\n") replies
