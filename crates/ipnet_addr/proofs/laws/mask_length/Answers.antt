use Rattle.std.proofs.Common.{sym, ◌∙◌}
use Rattle.ipnet_addr.proofs.Powers.{mask_unique}
use Rattle.ipnet_addr.proofs.laws.mask_length.Goals as goal

pub returns : goal.returns
returns c m a b h k = mask_unique _ a b h.0 k.0 (sym h.1 ∙ k.1)
