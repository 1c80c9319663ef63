use Rattle.std.proofs.Common.{◌∙◌, ◌++◌, ◌≤◌, ℕ, All, ap, sym, subst}
use Rattle.ipnet_blocks.specs.Blocks.{last}
use Rattle.ipnet.specs.IpNets.{block, family, parts}
use Rattle.route_table.specs.InnerGoverning.{gaps, blocks_of_spans}
use Rattle.route_table.proofs.Governings.{all_end, governed_by}
use Rattle.route_table.proofs.governed.Governed.new.Goals as goal

pub invariant_of-result : goal.invariant_of-result
invariant_of-result c = record {
  order = c.span-first.ensures.order;
  fits = c.span-first.ensures.fits;
  within = subst (λ (end : ℕ). All (λ r. last r.block ≤ end) c.args.inside) (sym c.span-first.ensures.last) (all_end c.args.inside c.requires.table (block c.args.net) c.requires.block c.requires.inside);
}

pub returns : goal.returns
returns c = governed_by c.args.inside c.requires.table (block c.args.net) c.requires.block c.requires.inside _ (
    ap (λ bs. bs ++ blocks_of_spans (family c.args.net) (gaps (parts c.args.net).len c.span-first.result.first c.span-first.result.last c.args.inside)) c.no_blocks.ensures
    ∙ (λ i. blocks_of_spans (family c.args.net) (gaps (parts c.args.net).len (c.span-first.ensures.first i) (c.span-first.ensures.last i) c.args.inside)))
