-- The lines that an installer reads: `have` and `sync` begin as no reply line does.
use Rattle.std.proofs.Common.{Option, Some, None, ◌≡◌, ◌≢◌, ◌↔◌, ℕ, ◌≤◌, List, length, All, codes, refl, sym, ap, ◌∙◌, arith}
use Rattle.std.specs.Prelude.{⊤}
use Rattle.ipnet.specs.IpNets.{block, network_at}
use Rattle.ipnet.specs.declared.ip_net.IpNet.{IpNet}
use Rattle.route_choices.specs.declared.hop.Hop.{Hop}
use Rattle.route_lines.specs.Phrase.{Then, After}
use Rattle.route_lines.specs.InnerFree as Free
use Rattle.route_lines.specs.InnerPhrase.{Gives}
use Rattle.route_lines.specs.Spelled.{note_of, reply_of}
use Rattle.route_lines.specs.Texts.{IsReply, IsNote}
use Rattle.route_lines.specs.Words.{IsNet, IsHop}
use Rattle.route_lines.specs.declared.fib_input.FibInput.{FibInput}
use Rattle.route_lines.specs.declared.fib_input.FibInput.TheVariants as N
use Rattle.route_lines.specs.declared.reply.Reply.{Reply}
use Rattle.route_lines.specs.Grammar.{IsGrammar}
use Rattle.route_lines.proofs.Good as Good
use Rattle.route_lines.proofs.Forms.{start}
use Rattle.route_lines.proofs.Printed.{cut}
use Rattle.route_lines.proofs.Replies.{replies as reply_lines, not_have, not_sync}
use Rattle.route_lines.proofs.Spells.{note_found, reply_found}

have : IsGrammar (After (codes "have ") (Then IsNet IsHop)) 74
have = Good.after (codes "have ") 74 refl (omega arith) (Good.then Free.net Good.net Good.hop)

sync : IsGrammar {A = ⊤} (λ text x. text ≡ codes "sync") 74
sync = Good.word (codes "sync") 74 refl (omega arith)

begins_have : (text : List ℕ) (x : IpNet × Hop) → After (codes "have ") (Then IsNet IsHop) text x → start text ≡ start (codes "have ")
begins_have text x h = ap start h.spelled

have_or_sync : (text : List ℕ) (x : IpNet × Hop) → After (codes "have ") (Then IsNet IsHop) text x → text ≢ codes "sync"
have_or_sync text x h e = omega (arith, sym (begins_have text x h) ∙ ap start e)

one_note : (text : List ℕ) (a b : FibInput) → IsNote text a → IsNote text b → a ≡ b
one_note text (N.Have net hop) (N.Have other next) h k = ap (λ (x : IpNet × Hop). N.Have x.0 x.1) (have.one text (net, hop) (other, next) h k)
one_note text (N.Have net hop) N.Sync h k = absurd (have_or_sync text (net, hop) h k)
one_note text (N.Have net hop) (N.Reply r) h k = absurd (not_have text r k (begins_have text (net, hop) h))
one_note text N.Sync (N.Have net hop) h k = absurd (have_or_sync text (net, hop) k h)
one_note text N.Sync N.Sync h k = refl
one_note text N.Sync (N.Reply r) h k = absurd (not_sync text r k (ap start h))
one_note text (N.Reply r) (N.Have net hop) h k = absurd (not_have text r h (begins_have text (net, hop) k))
one_note text (N.Reply r) N.Sync h k = absurd (not_sync text r h (ap start k))
one_note text (N.Reply r) (N.Reply s) h k = ap N.Reply (reply_lines.one text r s h k)

short_note : (text : List ℕ) (a : FibInput) → IsNote text a → length text ≤ 74
short_note text (N.Have net hop) h = have.short text (net, hop) h
short_note text N.Sync h = sync.short text tt h
short_note text (N.Reply r) h = reply_lines.short text r h

clean_note : (text : List ℕ) (a : FibInput) → IsNote text a → All (λ c. c ≢ 10) text
clean_note text (N.Have net hop) h = have.clean text (net, hop) h
clean_note text N.Sync h = sync.clean text tt h
clean_note text (N.Reply r) h = reply_lines.clean text r h

pub notes : IsGrammar IsNote 74
notes = record { one = one_note; short = short_note; clean = clean_note }

pub cut_note : (text : List ℕ) (net : IpNet) (hop : Hop) → IsNote text (N.Have net hop) → net ≡ network_at (block net)
cut_note text net hop h = cut h.phrase.front net h.phrase.first

-- what a text spells is found, and what is found is what it spells
spelled : {A : Type 0} (P : List ℕ → A → Type 0) (s : List ℕ) (o : Option A) (a : A) → Gives P s o → o ≡ Some a → P s a
spelled P s o a h e = rw e at h

found : {A : Type 0} (P : List ℕ → A → Type 0) (s : List ℕ) (o : Option A) (a : A) → ((x : A) → P s x → x ≡ a) → Gives P s o → P s a → o ≡ Some a
found P s None a one h k = absurd (h a k)
found P s (Some x) a one h k = ap Some (one x h)

pub replies : (text : List ℕ) (r : Reply) → (note_of text ≡ Some (N.Reply r)) ↔ (reply_of text ≡ Some r)
replies text r = (
  λ e. found IsReply text (reply_of text) r (λ x h. reply_lines.one text x r h (spelled IsNote text (note_of text) (N.Reply r) (note_found text) e)) (reply_found text) (spelled IsNote text (note_of text) (N.Reply r) (note_found text) e),
  λ e. found IsNote text (note_of text) (N.Reply r) (λ x h. one_note text x (N.Reply r) h (spelled IsReply text (reply_of text) r (reply_found text) e)) (note_found text) (spelled IsReply text (reply_of text) r (reply_found text) e),
)
