use Rattle.std.specs.FinMap.{entries, entries_sorted}
use Rattle.prefix_trie.proofs.Within.{key_stays, key_past, key_none}
use Rattle.prefix_trie.proofs.map.PrefixMap.key_within.Goals as goal

pub returns-in_default-clause-key : goal.returns-in_default-clause-key
returns-in_default-clause-key g c = key_none c.args.inside.now c.args.path c.args.inclusive (entries c.args.self.now.entries) c.in_default.ensures.key

pub returns-then-is_begun-clause-key : goal.returns-then-is_begun-clause-key
returns-then-is_begun-clause-key g c = key_stays c.args.inside.now c.args.path c.args.inclusive (entries c.args.self.now.entries) c.in-Some.key c.in-Some.ensures.key c.if-is_begun.ensures

pub returns-else-is_begun-clause-key : goal.returns-else-is_begun-clause-key
returns-else-is_begun-clause-key g c = key_past c.args.inside.now c.args.path c.args.inclusive (entries c.args.self.now.entries) c.in-Some.key (entries_sorted c.args.self.now.entries) c.in-Some.ensures.key c.requires.begun c.if-is_begun.ensures
