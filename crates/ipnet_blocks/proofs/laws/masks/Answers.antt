use Rattle.ipnet_blocks.proofs.Netmasks.{block_is_interval, mask_digits, mask_finds}
use Rattle.ipnet_blocks.proofs.laws.masks.Goals as goal

pub returns : goal.returns
returns c = record { interval = block_is_interval; digits = mask_digits; finds = mask_finds }
