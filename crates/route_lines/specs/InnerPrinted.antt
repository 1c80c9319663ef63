-- The printed text of a line, before its line end.
use Rattle.std.specs.Prelude.{◌≡◌, ℕ, ◌≤◌, List, length, ⊤, IfSome}
use Rattle.ipnet.specs.IpNetText.{net_text, Reads}
use Rattle.route_lines.specs.Texts.{hop_text}
use Rattle.route_lines.specs.Words.{IsHop}
use Rattle.route_lines.specs.declared.command.Command.{Command}
use Rattle.route_lines.specs.declared.command.Command.TheVariants as C
use Rattle.route_lines.specs.declared.reply.Reply.{Reply}
use Rattle.route_lines.specs.declared.reply.Reply.TheVariants as R
use Rattle.route_lines.specs.declared.fib_update.FibUpdate.{FibUpdate}
use Rattle.route_lines.specs.declared.fib_update.FibUpdate.TheVariants as U

-- the text of a value, in at most `limit` bytes; its words read as the parts of the value
pub record AreWords {A : Type 0} (text_of : A → List ℕ) (Words : A → Type 0) (limit : ℕ) (x : A) (out : List ℕ) : Type 0 where
  pub text : out ≡ text_of x
  pub words : Words x
  pub len : length out ≤ limit

-- the words of a command
abbrev pub CommandWords : Command → Type 0
CommandWords (C.Add net hop pref) = Reads (net_text net) net × IsHop (hop_text hop) hop × (pref ≤ 0xffff)
CommandWords (C.Del net hop) = Reads (net_text net) net × IsHop (hop_text hop) hop
CommandWords (C.Get net) = Reads (net_text net) net
CommandWords (C.Cover net) = Reads (net_text net) net
CommandWords (C.List net) = Reads (net_text net) net
CommandWords (C.All net) = Reads (net_text net) net
CommandWords (C.PageFrom net limit) = Reads (net_text net) net
CommandWords (C.PageAfter net limit) = Reads (net_text net) net
CommandWords (C.Own n) = n ≤ 0xffffffff
CommandWords C.Count = ⊤
CommandWords C.Flat = ⊤

-- the words of a reply line
abbrev pub ReplyWords : Reply → Type 0
ReplyWords (R.Set net n) = Reads (net_text net) net × (n ≤ 0xffffffff)
ReplyWords (R.Unset net) = Reads (net_text net) net
ReplyWords (R.Route net hop pref) = Reads (net_text net) net × IsHop (hop_text hop) hop × IfSome pref (λ p. p ≤ 0xffff)
ReplyWords (R.Flat net n) = Reads (net_text net) net × (n ≤ 0xffffffff)
ReplyWords (R.Own net) = Reads (net_text net) net
ReplyWords (R.Count v4 v6) = (v4 ≤ 0xffffffffffffffff) × (v6 ≤ 0xffffffffffffffff)
ReplyWords (R.Close closing) = ⊤

-- the words of a line of an installer's output
abbrev pub UpdateWords : FibUpdate → Type 0
UpdateWords (U.Install net hop) = Reads (net_text net) net × IsHop (hop_text hop) hop
UpdateWords (U.Remove net) = Reads (net_text net) net
UpdateWords U.Done = ⊤
