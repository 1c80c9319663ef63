use Rattle.std.proofs.Common.{◌≡◌, ◌∙◌, List, ℕ, refl, ap, subst, Vec, Global, Bor}
use Rattle.route_installer.specs.Installing.{AreNotes, begin, events, installed_bytes}
use Rattle.route_installer.specs.Laws.{carried_out, updates_in}
use Rattle.route_lines.specs.Bytes.{lines}
use Rattle.route_laws.specs.Runs.{haves}
use Rattle.route_laws.specs.Tables.{hop_at}
use Rattle.embedder.proofs.feed.installed.Goals as goal

pub returns : goal.returns
returns c =
    let k = c.in_ok-install.ensures.known in
    let are = subst (λ (b : Bor (List ℕ)). AreNotes (lines b.now) k.0) c.new-reader.ensures.device k.1 in
    let written : c.into_inner.result.items ≡ installed_bytes k.0 =
    ap (λ (v : Vec ℕ Global). v.items) c.into_inner.ensures ∙ k.2 ∙ rw (c.new-writer.ensures.device, c.new.ensures.items) refl in (
      k.0,
      are,
      λ bytes front back refusals e same has x a.
          ap (λ (text : List ℕ). hop_at (carried_out (haves (events begin k.0)) (updates_in text)) x) written
          ∙ c.carried_out.ensures.hops bytes refusals front back c.args.log.now k.0 e are same has x a,
    )
