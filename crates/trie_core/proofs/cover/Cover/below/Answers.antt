use Rattle.std.proofs.Common.{◌-◌, length, take, sym, ap}
use Rattle.trie_core.specs.InnerNodes.{under}
use Rattle.trie_core.proofs.Skipped.{not_true}
use Rattle.trie_core.proofs.SkippedCovers.{cover_on, cover_off}
use Rattle.trie_core.proofs.cover.Cover.below.Goals as goal

pub returns-then-not-starts-clause-entries : goal.returns-then-not-starts-clause-entries
returns-then-not-starts-clause-entries g c =
    ap (under (take (length c.args.path - length c.args.rest) c.args.path))
    (sym (cover_off c.node.inside.levels c.node.inside.skip c.args.rest c.node.inside.branch c.args.node.now c.node.view_is (not_true c.starts.result c.starts.ensures.1 c.if-not-starts.true)))

pub returns-clause-entries : goal.returns-clause-entries
returns-clause-entries g c = cover_on c.node.inside.levels c.node.inside.skip c.node.inside.branch c.args.node.now c.node.view_is (c.starts.ensures.0 c.if-not-starts.false) c.requires c.past.ensures
