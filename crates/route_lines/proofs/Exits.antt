-- Where no reader of a case takes a line, it is none of the grammar.
use Rattle.std.proofs.Common.{◌≡◌, ◌≢◌, ℕ, List, codes, sym, subst, Option, Some, None, unwrap_or}
use Rattle.ipnet.specs.declared.ip_net.IpNet.{IpNet}
use Rattle.route_choices.specs.Choices.{default_preference}
use Rattle.route_lines.specs.Phrase.{Then, After}
use Rattle.route_lines.specs.Words.{IsNet, IsNumber, IsLimit, IsCount, IsHop, IsPreference, IsOptional, IsPreferred}
use Rattle.route_lines.specs.Texts.{IsCommand, IsReply, IsNote, IsUpdate, closing_text}
use Rattle.route_choices.specs.declared.hop.Hop.{Hop}
use Rattle.route_lines.specs.declared.command.Command.{Command}
use Rattle.route_lines.specs.declared.command.Command.TheVariants as C
use Rattle.route_lines.specs.declared.reply.Closing.{Closing}
use Rattle.route_lines.specs.declared.reply.Closing.TheVariants.{Done, Missing, Bad, Refused}
use Rattle.route_lines.specs.declared.reply.Reply.{Reply}
use Rattle.route_lines.specs.declared.reply.Reply.TheVariants as R
use Rattle.route_lines.specs.declared.fib_input.FibInput.{FibInput}
use Rattle.route_lines.specs.declared.fib_input.FibInput.TheVariants as N
use Rattle.route_lines.specs.declared.fib_update.FibUpdate.{FibUpdate}
use Rattle.route_lines.specs.declared.fib_update.FibUpdate.TheVariants as U

-- no value stands after this word
abbrev No : {A : Type 0} → (List ℕ → A → Type 0) → List ℕ → List ℕ → Type 0
No {A} P word line = (x : A) → ¬ (After word P line x)

pub no_optional : (text : List ℕ) → ((x : Hop × ℕ) → ¬ (Then IsHop IsPreference text x)) → ((h : Hop) → ¬ (IsHop text h)) → (x : Hop × Option ℕ) → ¬ (IsOptional text x)
no_optional text two alone (hop, Some pref) h = two (hop, pref) h
no_optional text two alone (hop, None) h = alone hop h

pub no_preferred : (text : List ℕ) → ((x : Hop × Option ℕ) → ¬ (IsOptional text x)) → (x : Hop × ℕ) → ¬ (IsPreferred text x)
no_preferred text none x h = none (x.0, h.0) h.1

-- a route whose hop stands alone has the default preference
pub added : (line : List ℕ) (net : IpNet) (hop : Hop) (pref : ℕ) (given : Option ℕ) (route : IpNet × (Hop × Option ℕ)) → (net, (hop, given)) ≡ route → pref ≡ unwrap_or given default_preference → After (codes "add ") (Then IsNet IsOptional) line route
    → IsCommand line (C.Add net hop pref)
added line net hop pref given route is e found =
    let h = subst (After (codes "add ") (Then IsNet IsOptional) line) (sym is) found in
    record {
      rest = h.rest;
      spelled = h.spelled;
      phrase = record { front = h.phrase.front; back = h.phrase.back; spelled = h.phrase.spelled; first = h.phrase.first; second = (given, h.phrase.second, e) };
    }

pub no_add : (line : List ℕ) → No (Then IsNet IsOptional) (codes "add ") line → No (Then IsNet IsPreferred) (codes "add ") line
no_add line none x h = none (x.0, (x.1.0, h.phrase.second.0)) (record {
  rest = h.rest;
  spelled = h.spelled;
  phrase = record { front = h.phrase.front; back = h.phrase.back; spelled = h.phrase.spelled; first = h.phrase.first; second = h.phrase.second.1 };
})

pub no_command : (line : List ℕ)
    → No (Then IsNet IsPreferred) (codes "add ") line
    → No (Then IsNet IsHop) (codes "del ") line
    → No IsNet (codes "get ") line
    → No IsNet (codes "cover ") line
    → No IsNet (codes "list ") line
    → No IsNet (codes "all ") line
    → No (Then IsNet IsLimit) (codes "from ") line
    → No (Then IsNet IsLimit) (codes "after ") line
    → No IsNumber (codes "own ") line
    → line ≢ codes "count"
    → line ≢ codes "flat"
    → (c : Command) → ¬ (IsCommand line c)
no_command line add del get cover list all from after own count flat (C.Add net hop pref) h = add (net, (hop, pref)) h
no_command line add del get cover list all from after own count flat (C.Del net hop) h = del (net, hop) h
no_command line add del get cover list all from after own count flat (C.Get net) h = get net h
no_command line add del get cover list all from after own count flat (C.Cover net) h = cover net h
no_command line add del get cover list all from after own count flat (C.List net) h = list net h
no_command line add del get cover list all from after own count flat (C.All net) h = all net h
no_command line add del get cover list all from after own count flat (C.PageFrom net limit) h = from (net, limit) h
no_command line add del get cover list all from after own count flat (C.PageAfter net limit) h = after (net, limit) h
no_command line add del get cover list all from after own count flat (C.Own n) h = own n h
no_command line add del get cover list all from after own count flat C.Count h = count h
no_command line add del get cover list all from after own count flat C.Flat h = flat h

pub no_closing : (line : List ℕ) → line ≢ codes "ok" → line ≢ codes "none" → line ≢ codes "bad" → line ≢ codes "refused" → (c : Closing) → line ≢ closing_text c
no_closing line done missing bad refused Done h = done h
no_closing line done missing bad refused Missing h = missing h
no_closing line done missing bad refused Bad h = bad h
no_closing line done missing bad refused Refused h = refused h

pub no_reply : (line : List ℕ)
    → No (Then IsNet IsNumber) (codes "set ") line
    → No IsNet (codes "unset ") line
    → No (Then IsNet IsOptional) (codes "route ") line
    → No (Then IsNet IsNumber) (codes "flat ") line
    → No IsNet (codes "own ") line
    → No (Then IsCount IsCount) (codes "count ") line
    → ((c : Closing) → line ≢ closing_text c)
    → (r : Reply) → ¬ (IsReply line r)
no_reply line set unset route flat own count close (R.Set net n) h = set (net, n) h
no_reply line set unset route flat own count close (R.Unset net) h = unset net h
no_reply line set unset route flat own count close (R.Route net hop pref) h = route (net, (hop, pref)) h
no_reply line set unset route flat own count close (R.Flat net n) h = flat (net, n) h
no_reply line set unset route flat own count close (R.Own net) h = own net h
no_reply line set unset route flat own count close (R.Count v4 v6) h = count (v4, v6) h
no_reply line set unset route flat own count close (R.Close c) h = close c h

pub no_note : (line : List ℕ) → No (Then IsNet IsHop) (codes "have ") line → line ≢ codes "sync" → ((r : Reply) → ¬ (IsReply line r)) → (n : FibInput) → ¬ (IsNote line n)
no_note line have sync reply (N.Have net hop) h = have (net, hop) h
no_note line have sync reply N.Sync h = sync h
no_note line have sync reply (N.Reply r) h = reply r h

pub no_update : (line : List ℕ) → No (Then IsNet IsHop) (codes "install ") line → No IsNet (codes "remove ") line → line ≢ codes "ok" → (u : FibUpdate) → ¬ (IsUpdate line u)
no_update line install remove done (U.Install net hop) h = install (net, hop) h
no_update line install remove done (U.Remove net) h = remove net h
no_update line install remove done U.Done h = done h
