-- Each line of an output is a reply line.
use Rattle.std.proofs.Common.{ℕ, ◌≤◌, ◌<◌, ◌^◌, List, [], ◌∷◌, ◌++◌, length, flat_map, All, refl, sym, ap, ◌∙◌, subst, IsSome, arith}
use Rattle.std.proofs.Math.Seq.{take-append_seam}
use Rattle.std.proofs.lemmas.List.{length-append, length-map}
use Rattle.std.proofs.lemmas.List.Elements.{All-map, All-take, All-weaker}
use Rattle.route_lines.specs.Bytes.{lines, rest}
use Rattle.route_lines.specs.Spelled.{command_of, reply_of}
use Rattle.route_lines.specs.Texts.{reply_text}
use Rattle.route_lines.specs.declared.reply.Reply.{Reply}
use Rattle.route_lines.proofs.Cutting.{pieces_make, with_end}
use Rattle.route_feed.specs.Follows.{AreReplies}
use Rattle.route_feed.specs.Laws.{BeginningsAreReplies}
use Rattle.route_feed.specs.Output.{replies, whole_commands, at_end}
use Rattle.route_feed.specs.Replies.{printed}
use Rattle.route_feed.proofs.Beginnings.{commands_are_in_range, commands_of, first_lines, output_printed}
use Rattle.route_feed.proofs.PrintedLines.{IsPrinted, lines_of_printed}
use Rattle.route_feed.proofs.ReadLines.{of_replies, read_is}

abbrev IsOne : List ℕ → Type 0
IsOne piece = IsSome (reply_of piece)

printed_replies : (few : Type 0) → few → (ls : List Reply) → All (IsPrinted few) ls → AreReplies (lines (printed ls))
printed_replies few h ls all =
    let read = λ (l : Reply) (p : IsPrinted few l). read_is of_replies (reply_text l) l (p.spelled h) in
    subst AreReplies (lines_of_printed few ls all)
    (All-map IsOne reply_text ls (All-weaker (IsPrinted few) (λ l. IsOne (reply_text l)) (λ l p. subst IsSome (sym (read l p)) refl) ls all))

-- each line has its line end, and a rest that is not empty a byte
pieces_length : (ps : List (List ℕ)) → length ps ≤ length (flat_map with_end ps)
pieces_length [] = omega arith
pieces_length (p ∷ ps) =
    omega (arith, pieces_length ps, length-append (with_end p) (flat_map with_end ps), length-append p (10 ∷ []))

end_length : (bs : List ℕ) → length (at_end bs) ≤ length bs
end_length [] = omega arith
end_length (b ∷ bs) = omega arith

few_commands : (bytes : List ℕ) → length (commands_of bytes) ≤ length bytes
few_commands bytes =
    let split = ap length (pieces_make bytes) ∙ length-append (flat_map with_end (lines bytes)) (rest bytes) in
    let both = length-append (whole_commands bytes) (at_end (rest bytes)) in
    omega (arith, split, both, length-map (lines bytes) command_of, pieces_length (lines bytes), end_length (rest bytes))

pub beginnings_are_replies : BeginningsAreReplies
beginnings_are_replies bytes front back refusals few e =
    let commands = commands_of bytes in
    let (later, first) = first_lines front back in
    let small : length commands < 2 ^ 64 = omega (arith, few_commands bytes, few) in
    let printed = output_printed commands refusals (commands_are_in_range bytes) in
    let all = printed_replies (length commands < 2 ^ 64) small (replies [] commands refusals) printed in
    let split = subst AreReplies (ap lines e ∙ first) all in
    rw take-append_seam at (All-take IsOne (length (lines front)) (lines front ++ later) split)
