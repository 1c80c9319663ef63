use Rattle.std.proofs.Common.{rules}
use Rattle.std.specs.Cmp.Rules.{comparing}
use Rattle.route_lines.proofs.laws.equality.Goals as goal

pub returns-clause-notes : goal.returns-clause-notes
returns-clause-notes c = record { equal = search (comparing, rules); same = search rules; made = search rules }
