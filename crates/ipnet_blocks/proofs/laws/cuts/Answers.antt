use Rattle.ipnet_blocks.proofs.Cuts.{cut_is_exact}
use Rattle.ipnet_blocks.proofs.LimitsLeft.{limits_stay}
use Rattle.ipnet_blocks.proofs.laws.cuts.Goals as goal

pub returns : goal.returns
returns c = record { exact = (λ f l h. cut_is_exact f l h.end_in_range h.in_width); stay = limits_stay }
