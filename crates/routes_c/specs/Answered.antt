-- The effect of `routes_line`.
use Rattle.std.specs.Prelude.{◌≡◌, ◌⊎◌, ℕ, Bool, List, [], ◌++◌}
use Rattle.route_feed.specs.Replies.{printed}
use Rattle.route_feed.specs.Steps.{step, answer_lines}
use Rattle.route_lines.specs.Spelled.{command_of}
use Rattle.routes_c.specs.declared.session.Session.{Session}

-- the line is one step of a leader, whose command may be refused because memory ran out. At 0 the printed reply is stored, at 2 only a
-- beginning of it. The table is the one after the step, and the lists are unchanged
pub record Answered (s t : Session) (line : List ℕ) (code : ℕ) : Type 0 where
  pub refused : Bool
  pub cut : List ℕ
  pub answers : (code ≡ 0) ⊎ (code ≡ 2)
  pub whole : code ≡ 0 → cut ≡ []
  pub reply : printed (answer_lines (step s.table (command_of line) refused)) ≡ t.reply.items ++ cut
  pub table : t.table ≡ (step s.table (command_of line) refused).next
  pub lists : t.lists ≡ s.lists
