use Rattle.ipnet_blocks.specs.Networks.{IsNetwork}
use Rattle.ipnet_blocks.proofs.NetworkBlocks.{inside_by_quotients, not_inside, not_at_most}
use Rattle.ipnet_blocks.proofs.contains.is_inside.Goals as goal

pub returns-then-other_len-len-clause-sets : goal.returns-then-other_len-len-clause-sets
returns-then-other_len-len-clause-sets c f e =
    let net : IsNetwork f (record { number = c.args.number; len = c.args.len }) = record { in_width = rw e at c.requires.in_width.0; in_range = rw e at c.requires.fits.0 } in
    let outer : IsNetwork f (record { number = c.args.other; len = c.args.other_len }) = record { in_width = rw e at c.requires.in_width.1; in_range = rw e at c.requires.fits.1 } in
    rw (c.quotient.ensures, c.quotient-then-other_len-len.ensures, e) (inside_by_quotients f _ _ outer net c.if-other_len-len.true)

pub returns-else-other_len-len-clause-sets : goal.returns-else-other_len-len-clause-sets
returns-else-other_len-len-clause-sets c f e =
    let outer : IsNetwork f (record { number = c.args.other; len = c.args.other_len }) = record { in_width = rw e at c.requires.in_width.1; in_range = rw e at c.requires.fits.1 } in (
      (λ t. absurd (not_at_most _ _ c.if-other_len-len.false t)),
      (λ h. absurd (not_inside f _ _ outer c.if-other_len-len.false h)),
    )
