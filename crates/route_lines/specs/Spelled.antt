-- The line that a text spells, as a function of the text.
use Rattle.std.specs.Prelude.{ℕ, ◌&&◌, ◌==◌, nat_le, if◌then◌else◌, List, [], ◌∷◌, take, drop, length, codes, decimal, Option, Some, None, option_map, option_and_then, unwrap_or, bytes_eq}
use Rattle.std.specs.Str.Parse.{digits_value}
use Rattle.ipnet.specs.IpNets.{block, network_at}
use Rattle.ipnet.specs.IpNetText.{ip_net_of}
use Rattle.ipnet.specs.declared.ip_net.IpNet.{IpNet}
use Rattle.route_choices.specs.declared.hop.Hop.{Hop}
use Rattle.route_choices.specs.declared.hop.Hop.TheVariants.{Number, Drop}
use Rattle.route_choices.specs.Choices.{default_preference}
use Rattle.route_lines.specs.declared.command.Command.{Command}
use Rattle.route_lines.specs.declared.command.Command.TheVariants as C
use Rattle.route_lines.specs.declared.reply.Closing.{Closing}
use Rattle.route_lines.specs.declared.reply.Closing.TheVariants.{Done, Missing, Bad, Refused}
use Rattle.route_lines.specs.declared.reply.Reply.{Reply}
use Rattle.route_lines.specs.declared.reply.Reply.TheVariants as R
use Rattle.route_lines.specs.declared.fib_input.FibInput.{FibInput}
use Rattle.route_lines.specs.declared.fib_input.FibInput.TheVariants as N
use Rattle.route_lines.specs.declared.fib_update.FibUpdate.{FibUpdate}
use Rattle.route_lines.specs.declared.fib_update.FibUpdate.TheVariants as U

-- the texts before and after the first space
abbrev pub split : List ℕ → Option (List ℕ × List ℕ)
split [] = None
split (c ∷ cs) = if c == 32 then Some ([], cs) else option_map (λ p. (c ∷ p.0, p.1)) (split cs)

-- the network that the text spells, without its host bits
abbrev pub net_of_text : List ℕ → Option IpNet
net_of_text s = option_map (λ n. network_at (block n)) (ip_net_of s)

-- the number from low to high that the text spells
abbrev pub number_of_text : ℕ → ℕ → List ℕ → Option ℕ
number_of_text low high s = if bytes_eq s (decimal (digits_value 10 s)) && nat_le low (digits_value 10 s) && nat_le (digits_value 10 s) high then Some (digits_value 10 s) else None

-- the hop that the text spells: `drop`, or a number below 2^32
abbrev pub hop_of_text : List ℕ → Option Hop
hop_of_text s = if bytes_eq s (codes "drop") then Some Drop else option_map Number (number_of_text 0 0xffffffff s)

-- the value of exactly this text
abbrev pub of_word : {A : Type 0} → List ℕ → A → List ℕ → Option A
of_word word x s = if bytes_eq s word then Some x else None

-- two values with a space between them
abbrev pub of_both : {A B : Type 0} → (List ℕ → Option A) → (List ℕ → Option B) → List ℕ → Option (A × B)
of_both f g s = option_and_then (λ p. option_and_then (λ a. option_map (λ b. (a, b)) (g p.1)) (f p.0)) (split s)

-- the value of the text after a prefix
abbrev pub after_prefix : {A : Type 0} → List ℕ → (List ℕ → Option A) → List ℕ → Option A
after_prefix prefix f s = if bytes_eq (take (length prefix) s) prefix then f (drop (length prefix) s) else None

-- the first of two, or else the second
abbrev pub or_else : {A : Type 0} → Option A → Option A → Option A
or_else (Some a) o = Some a
or_else None o = o

-- a hop and a preference, or else only a hop
abbrev pub optional_of_text : List ℕ → Option (Hop × Option ℕ)
optional_of_text s = or_else (option_map (λ x. (x.0, Some x.1)) (of_both hop_of_text (number_of_text 0 0xffff) s)) (option_map (λ hop. (hop, None)) (hop_of_text s))

-- the same; without a preference it is the default preference
abbrev pub preferred_of_text : List ℕ → Option (Hop × ℕ)
preferred_of_text s = option_map (λ x. (x.0, unwrap_or x.1 default_preference)) (optional_of_text s)

-- the command that the text spells
unfoldable pub command_of : List ℕ → Option Command
command_of s =
    or_else (option_map (λ x. C.Add x.0 x.1.0 x.1.1) (after_prefix (codes "add ") (of_both net_of_text preferred_of_text) s))
    (or_else (option_map (λ x. C.Del x.0 x.1) (after_prefix (codes "del ") (of_both net_of_text hop_of_text) s))
    (or_else (option_map C.Get (after_prefix (codes "get ") net_of_text s))
    (or_else (option_map C.Cover (after_prefix (codes "cover ") net_of_text s))
    (or_else (option_map C.List (after_prefix (codes "list ") net_of_text s))
    (or_else (option_map C.All (after_prefix (codes "all ") net_of_text s))
    (or_else (option_map (λ x. C.PageFrom x.0 x.1) (after_prefix (codes "from ") (of_both net_of_text (number_of_text 1 1000)) s))
    (or_else (option_map (λ x. C.PageAfter x.0 x.1) (after_prefix (codes "after ") (of_both net_of_text (number_of_text 1 1000)) s))
    (or_else (option_map C.Own (after_prefix (codes "own ") (number_of_text 0 0xffffffff) s))
    (or_else (of_word (codes "count") C.Count s)
    (of_word (codes "flat") C.Flat s))))))))))

-- the closing line that the text spells
abbrev pub closing_of_text : List ℕ → Option Closing
closing_of_text s = or_else (of_word (codes "ok") Done s) (or_else (of_word (codes "none") Missing s) (or_else (of_word (codes "bad") Bad s) (of_word (codes "refused") Refused s)))

-- the reply line that the text spells
unfoldable pub reply_of : List ℕ → Option Reply
reply_of s =
    or_else (option_map (λ x. R.Set x.0 x.1) (after_prefix (codes "set ") (of_both net_of_text (number_of_text 0 0xffffffff)) s))
    (or_else (option_map R.Unset (after_prefix (codes "unset ") net_of_text s))
    (or_else (option_map (λ x. R.Route x.0 x.1.0 x.1.1) (after_prefix (codes "route ") (of_both net_of_text optional_of_text) s))
    (or_else (option_map (λ x. R.Flat x.0 x.1) (after_prefix (codes "flat ") (of_both net_of_text (number_of_text 0 0xffffffff)) s))
    (or_else (option_map R.Own (after_prefix (codes "own ") net_of_text s))
    (or_else (option_map (λ x. R.Count x.0 x.1) (after_prefix (codes "count ") (of_both (number_of_text 0 0xffffffffffffffff) (number_of_text 0 0xffffffffffffffff)) s))
    (option_map R.Close (closing_of_text s)))))))

-- the line of an installer's input that the text spells
unfoldable pub note_of : List ℕ → Option FibInput
note_of s =
    or_else (option_map (λ x. N.Have x.0 x.1) (after_prefix (codes "have ") (of_both net_of_text hop_of_text) s))
    (or_else (of_word (codes "sync") N.Sync s)
    (option_map N.Reply (reply_of s)))

-- the line of an installer's output that the text spells
unfoldable pub update_of : List ℕ → Option FibUpdate
update_of s =
    or_else (option_map (λ x. U.Install x.0 x.1) (after_prefix (codes "install ") (of_both net_of_text hop_of_text) s))
    (or_else (option_map U.Remove (after_prefix (codes "remove ") net_of_text s))
    (of_word (codes "ok") U.Done s))
