-- What a text and a line spell, in a grammar of lines.
use Rattle.std.proofs.Common.{◌≡◌, ℕ, ◌≤◌, ◌<◌, Bool, true, false, nat_lt, List, length, Option, Some, None, refl, sym, ap, arith}
use Rattle.std.proofs.lemmas.Bool.Decides.{nat_tests}
use Rattle.route_lines.specs.InnerPhrase.{Gives}
use Rattle.route_lines.specs.Lines.{line_of}
use Rattle.route_lines.specs.Spelled.{command_of, note_of, reply_of, update_of}
use Rattle.route_lines.specs.Texts.{IsCommand, IsNote, IsReply, IsUpdate}
use Rattle.route_lines.proofs.Commands.{commands}
use Rattle.route_lines.proofs.Notes.{notes}
use Rattle.route_lines.proofs.Replies.{replies}
use Rattle.route_lines.proofs.Spells.{command_found, note_found, reply_found, update_found}
use Rattle.route_lines.proofs.Updates.{updates}
use Rattle.route_feed.specs.Lines.{spelled_in}

-- a text spells one line at most, and none where it has over 80 bytes; this reads it
pub record Grammar {A : Type 0} (Spells : List ℕ → A → Type 0) (read : List ℕ → Option A) : Type 0 where
  pub one : (text : List ℕ) (a b : A) → Spells text a → Spells text b → a ≡ b
  pub short : (text : List ℕ) (a : A) → Spells text a → length text ≤ 80
  pub found : (text : List ℕ) → Gives Spells text (read text)

pub of_commands : Grammar IsCommand command_of
of_commands = record { one = commands.one; short = λ text a h. (let s = commands.short text a h in omega arith); found = command_found }

pub of_replies : Grammar IsReply reply_of
of_replies = record { one = replies.one; short = λ text a h. (let s = replies.short text a h in omega arith); found = reply_found }

pub of_notes : Grammar IsNote note_of
of_notes = record { one = notes.one; short = λ text a h. (let s = notes.short text a h in omega arith); found = note_found }

pub of_updates : Grammar IsUpdate update_of
of_updates = record { one = updates.one; short = λ text a h. (let s = updates.short text a h in omega arith); found = update_found }

module _ {A : Type 0} {Spells : List ℕ → A → Type 0} {read : List ℕ → Option A} (grammar : Grammar Spells read) where
  -- what a text spells is read
  pub read_is : (text : List ℕ) (a : A) → Spells text a → read text ≡ Some a
  read_is text a h = go (read text) (grammar.found text)
    where
      go : (o : Option A) → Gives Spells text o → o ≡ Some a
      go None none = absurd (none a h)
      go (Some b) is = ap Some (grammar.one text b a is h)

  pub read_none : (text : List ℕ) → ((a : A) → Spells text a → ⊥) → read text ≡ None
  read_none text none = go (read text) (grammar.found text)
    where
      go : (o : Option A) → Gives Spells text o → o ≡ None
      go None h = refl
      go (Some a) h = absurd (none a h)

  -- a line that is too long spells nothing, and so does its text
  pub piece_spells : (piece : List ℕ) → spelled_in read (line_of piece) ≡ read piece
  piece_spells piece = go (nat_lt 80 (length piece)) refl
    where
      go : (b : Bool) → nat_lt 80 (length piece) ≡ b → spelled_in read (line_of piece) ≡ read piece
      go true e = let h : 80 < length piece = grind (arith, nat_tests, e) in rw e (sym (read_none piece (λ a is. let s = grammar.short piece a is in absurd (omega arith))))
      go false e = rw e refl
