use Rattle.std.proofs.Common.{◌-◌, ◌<◌, ◌∙◌, ◌∷◌, ◌++◌, [], ℕ, Option, Some, Vec, Global, ap, append_assoc, arith, length}
use Rattle.std.proofs.lemmas.List.{length-map}
use Rattle.least_table.proofs.BlockSets.{has_appended, keeps_appended}
use Rattle.least_table.proofs.kept_sets.KeptSets.append.Goals as goal

pub returns : goal.returns
returns c =
    let blocks = c.self.inside.blocks in
    let block = c.index_mut-block.result.now in
    let hops = c.args.hops.now in
    let within : c.len-last.result - 1 < length blocks.items = omega (arith, c.requires.some, c.len-last.ensures, blocks.ok.0, ap length c.self.view_is, length-map blocks.items (λ (b : Vec (Option ℕ) Global). b.items)) in
    let grown = c.in_ok-extend_from_slice.ensures.items ∙ ap (λ ks. ks ++ hops) c.in_ok-push.ensures.items ∙ append_assoc block.items (Some c.in-Ok.len ∷ []) hops in
    record {
      kept = rw c.self.view_is at (keeps_appended blocks.items (c.len-last.result - 1) block c.extend_from_slice.new.self hops c.in-Ok.len within c.index_mut-block.ensures.value grown);
      here = has_appended blocks.items (c.len-last.result - 1) block c.extend_from_slice.new.self hops c.in-Ok.len within c.index_mut-block.ensures.value grown
          c.in_ok-at.at c.in_ok-at.ensures.block (c.in_ok-at.ensures.place ∙ c.len.ensures ∙ block.ok.0) c.in-Ok.ensures.1;
    }
