-- What is printed reads as that reply line.
use Rattle.std.proofs.Common.{◌≡◌, ℕ, ◌≤◌, Some, None, List, ◌++◌, length, codes, decimal, refl, arith, sym, ap, ◌∙◌, subst, append_assoc}
use Rattle.route_laws.proofs.NetworksAt.{of_network_at}
use Rattle.ipnet.specs.IpNetText.{net_text}
use Rattle.ipnet.specs.IpNets.{block, network_at}
use Rattle.ipnet.specs.declared.ip_net.IpNet.{IpNet}
use Rattle.route_lines.specs.Grammar.{IsGrammar, IsPrinted, IsTextOf}
use Rattle.route_lines.specs.InnerPrinted.{ReplyWords}
use Rattle.route_lines.specs.Phrase.{Then, After}
use Rattle.route_lines.specs.Words.{IsNet}
use Rattle.route_lines.specs.Texts.{IsReply, reply_text, hop_text, IsPrintable}
use Rattle.route_lines.specs.declared.reply.Reply.{Reply}
use Rattle.route_lines.specs.declared.reply.Reply.TheVariants as R

pub then : {A B : Type 0} {P : List ℕ → A → Type 0} {Q : List ℕ → B → Type 0} (front back : List ℕ) (x : A × B) → P front x.0 → Q back x.1 → Then P Q (front ++ codes " " ++ back) x
then front back x h k = record { front = front; back = back; spelled = refl; first = h; second = k }

-- a word and a phrase, and a word and two
pub alone : {A : Type 0} {P : List ℕ → A → Type 0} (prefix rest : List ℕ) (x : A) → P rest x → After prefix P (prefix ++ rest) x
alone prefix rest x h = record { rest = rest; spelled = refl; phrase = h }

pub both : {A B : Type 0} {P : List ℕ → A → Type 0} {Q : List ℕ → B → Type 0} (prefix front back : List ℕ) (x : A × B) → P front x.0 → Q back x.1
    → After prefix (Then P Q) (prefix ++ front ++ codes " " ++ back) x
both prefix front back x h k = record { rest = front ++ codes " " ++ back; spelled = simp append_assoc; phrase = then front back x h k }

-- a printed line, where its text reads as its value
pub printed : {A : Type 0} {Spells : List ℕ → A → Type 0} {limit most : ℕ} (text_of : A → List ℕ) (x : A) (line : List ℕ) → IsGrammar Spells limit → Spells (text_of x) x → line ≡ text_of x ++ codes "\n" → length line ≤ most
    → IsPrinted Spells text_of most x line
printed text_of x line grammar h e len = record { text = e; reads = h; one_line = grammar.clean (text_of x) x h; len = len }

-- texts that read as their values are apart
pub text_of_each : {A : Type 0} {Spells : List ℕ → A → Type 0} {limit : ℕ} (text_of : A → List ℕ) → IsGrammar Spells limit → ((text : List ℕ) (x : A) → Spells text x → Spells (text_of x) x) → IsTextOf Spells text_of
text_of_each {A} {Spells} {limit} text_of grammar reads = record {
  reads = reads;
  apart = λ s t a b h k e. grammar.one (text_of a) a b (reads s a h) (subst (λ text. Spells text b) (sym e) (reads t b k));
}

pub prints : (r : Reply) → IsPrintable r → ReplyWords r → IsReply (reply_text r) r
prints (R.Set net n) block w = both (codes "set ") (net_text net) (decimal n) (net, n) (net, w.0, block) (refl, omega arith, w.1)
prints (R.Unset net) block w = alone (codes "unset ") (net_text net) net (net, w, block)
prints (R.Route net hop None) block w = both (codes "route ") (net_text net) (hop_text hop) (net, (hop, None)) (net, w.0, block) w.1
prints (R.Route net hop (Some pref)) block w =
    let routed = then (hop_text hop) (decimal pref) (hop, pref) w.1 (refl, omega arith, w.2) in
    record {
      rest = net_text net ++ codes " " ++ (hop_text hop ++ codes " " ++ decimal pref);
      spelled = simp append_assoc;
      phrase = then (net_text net) (hop_text hop ++ codes " " ++ decimal pref) (net, (hop, Some pref)) (net, w.0, block) routed;
    }
prints (R.Flat net n) block w = both (codes "flat ") (net_text net) (decimal n) (net, n) (net, w.0, block) (refl, omega arith, w.1)
prints (R.Own net) block w = alone (codes "own ") (net_text net) net (net, w, block)
prints (R.Count v4 v6) block w = both (codes "count ") (decimal v4) (decimal v6) (v4, v6) (refl, omega arith, w.0) (refl, omega arith, w.1)
prints (R.Close closing) block w = refl

-- what is read has no host bits
pub cut : (text : List ℕ) (net : IpNet) → IsNet text net → net ≡ network_at (block net)
cut text net h = h.2 ∙ ap network_at (sym (ap block h.2 ∙ of_network_at (block h.0)))

pub printable : (text : List ℕ) (r : Reply) → IsReply text r → IsPrintable r
printable text (R.Set net n) h = cut h.phrase.front net h.phrase.first
printable text (R.Unset net) h = cut h.rest net h.phrase
printable text (R.Route net hop pref) h = cut h.phrase.front net h.phrase.first
printable text (R.Flat net n) h = cut h.phrase.front net h.phrase.first
printable text (R.Own net) h = cut h.rest net h.phrase
printable text (R.Count v4 v6) h = tt
printable text (R.Close closing) h = tt
