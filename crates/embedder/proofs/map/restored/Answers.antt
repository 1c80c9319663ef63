use Rattle.trie_core.specs.Prefixes.{prefix_bits}
use Rattle.embedder.proofs.Stored.{put_back}
use Rattle.embedder.proofs.map.restored.Goals as goal

pub returns : goal.returns
returns c = put_back c.args.map.now.entries c.insert.new.self.entries c.remove.new.self.entries (prefix_bits 16 c.args.region.label c.args.region.len) 7 c.requires.absent c.in_ok-insert.ensures.map c.remove.ensures.map
