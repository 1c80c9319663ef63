use Rattle.std.proofs.Common.{◌∙◌, ap}
use Rattle.trie_core.specs.Prefixes.{prefix_bits}
use Rattle.trie_core.proofs.Maps.{get-written}
use Rattle.std.specs.FinMap.{get}
use Rattle.embedder.proofs.Stored.{is_matched, itself}
use Rattle.embedder.proofs.map.matched.Goals as goal

pub returns-in-None : goal.returns-in-None
returns-in-None c =
    let q = prefix_bits 16 c.args.region.label c.args.region.len in
    absurd (is_matched c.insert.new.self.entries q c.args.value (ap (λ m. get m q) c.in_ok-insert.ensures.map ∙ get-written c.args.map.now.entries q c.args.value) c.in-None.ensures)

pub returns-in-Some : goal.returns-in-Some
returns-in-Some c =
    let q = prefix_bits 16 c.args.region.label c.args.region.len in
    itself _ _ _ c.insert.new.self.entries q c.args.value (ap (λ m. get m q) c.in_ok-insert.ensures.map ∙ get-written c.args.map.now.entries q c.args.value) c.in-Some.key c.in-Some.value.now c.in-Some.ensures
