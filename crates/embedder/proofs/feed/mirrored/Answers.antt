use Rattle.std.proofs.Common.{◌≡◌, ◌∙◌, ◌++◌, ◌∷◌, [], List, ℕ, refl, sym, ap, take, drop, map, min, Vec, Global, Bor}
use Rattle.std.proofs.lemmas.List.{take-append-drop, take_min}
use Rattle.route_feed.specs.Output.{output}
use Rattle.route_feed.specs.Replies.{printed}
use Rattle.route_feed.specs.Steps.{flat_line}
use Rattle.route_lines.specs.declared.reply.Closing.TheVariants.{Done}
use Rattle.route_lines.specs.declared.reply.Reply.TheVariants.{Close}
use Rattle.route_laws.specs.Flats.{Piece}
use Rattle.embedder.proofs.feed.mirrored.Goals as goal

pub returns : goal.returns
returns c =
    let k = c.in_ok-lead.ensures.known in
    let f = c.in_ok-follow.ensures.known in
    let all = c.into_inner-told.result.items in
    let told : all ≡ output c.args.input.now k.0 =
    ap (λ (v : Vec ℕ Global). v.items) c.into_inner-told.ensures ∙ k.1 ∙ rw (c.new-writer.ensures.device, c.new.ensures.items, c.new-reader.ensures.device) refl in
    let front : c.new-tail.result.device.now ≡ take c.args.cut all =
    ap (λ (b : Bor (List ℕ)). b.now) c.new-tail.ensures.device
    ∙ ap (λ n. take n c.deref.result.now) (c.min.ensures ∙ ap (λ n. min c.args.cut n) (c.len.ensures ∙ sym c.deref.ensures.len))
    ∙ take_min c.args.cut c.deref.result.now ∙ ap (λ (l : List ℕ). take c.args.cut l) c.deref.ensures.value in
    let flats = c.followed.ensures.flat c.args.input.now (take c.args.cut all) (drop c.args.cut all) k.0 (sym told ∙ sym (take-append-drop c.args.cut all)) in (
      k.0,
      told,
      ap (λ (v : Vec ℕ Global). v.items) c.into_inner.ensures ∙ f.1 ∙ rw (c.new-out.ensures.device, c.new-2.ensures.items, front)
          (ap (λ (ps : List Piece). printed (map flat_line ps ++ Close Done ∷ [])) flats),
    )
