-- What is printed of a reply line that was read reads as that line, and as no other.
use Rattle.std.proofs.Common.{ℕ, Some, None, List}
use Rattle.route_lines.specs.Grammar.{IsTextOf}
use Rattle.route_lines.specs.InnerPrinted.{ReplyWords}
use Rattle.route_lines.specs.Texts.{IsReply, reply_text}
use Rattle.route_lines.specs.declared.reply.Reply.{Reply}
use Rattle.route_lines.specs.declared.reply.Reply.TheVariants as R
use Rattle.route_lines.proofs.Printed.{prints, printable, text_of_each}
use Rattle.route_lines.proofs.PrintedCommands.{net_again, hop_again}
use Rattle.route_lines.proofs.Replies.{replies}

words : (text : List ℕ) (r : Reply) → IsReply text r → ReplyWords r
words text (R.Set net n) h = (net_again h.phrase.front net h.phrase.first, h.phrase.second.2)
words text (R.Unset net) h = net_again h.rest net h.phrase
words text (R.Route net hop None) h = (net_again h.phrase.front net h.phrase.first, hop_again h.phrase.back hop h.phrase.second, tt)
words text (R.Route net hop (Some pref)) h =
    let route = h.phrase.second in
    (net_again h.phrase.front net h.phrase.first, hop_again route.front hop route.first, route.second.2)
words text (R.Flat net n) h = (net_again h.phrase.front net h.phrase.first, h.phrase.second.2)
words text (R.Own net) h = net_again h.rest net h.phrase
words text (R.Count v4 v6) h = (h.phrase.first.2, h.phrase.second.2)
words text (R.Close closing) h = tt

pub texts : IsTextOf IsReply reply_text
texts = text_of_each reply_text replies (λ text r h. prints r (printable text r h) (words text r h))
