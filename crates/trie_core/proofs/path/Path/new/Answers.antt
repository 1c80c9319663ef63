use Rattle.std.proofs.Common.{◌-◌, ◌/◌, ◌^◌, ap, ◌∙◌, arith}
use Rattle.std.proofs.lemmas.Nat.{shl-shr}
use Rattle.ipnet_blocks.specs.Blocks.{digits}
use Rattle.trie_core.proofs.Aligned.{cleared}
use Rattle.trie_core.proofs.path.Path.new.Goals as goal

pub returns : goal.returns
returns c = ap (λ n. digits c.args.len (n / 2 ^ (128 - c.args.len))) (cleared c.args.bits c.args.len (omega arith)) ∙ ap (digits c.args.len) (shl-shr (c.args.bits / 2 ^ (128 - c.args.len)) (128 - c.args.len))
